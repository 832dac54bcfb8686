-- That no user stands twice: it is found by those that were seen, and then no two are equal.
use Rattle.std.proofs.Common.{◌≡◌, ◌∙◌, ◌&&◌, ◌||◌, Bool, true, false, not, cond, List, [], ◌∷◌, refl, sym, ap}
use Rattle.std.proofs.lemmas.Bool.{and_parts, or_parts, true≢false}
use Rattle.std.proofs.lemmas.Map.Text.{is_eq-slice_cmp}
use Rattle.std.proofs.lemmas.Slice.Eq.{bytes_eq-Decides}
use Rattle.std.specs.BTreeSet.{BTreeSet, IsEmpty, Updates, contains}
use Rattle.std.specs.Cmp.Lexicographic.{slice_cmp}
use Rattle.std.specs.List.{AllByRecursion, IsDistinct, list_all}
use Rattle.std.specs.Ordering.{nat_cmp}
use Rattle.std.specs.Str.{bytes_eq}
use Rattle.up_names.specs.Texts.{Text, UserName}
use Rattle.up_command.specs.Users.{are_different, has_user}

-- none of these users is among the others
abbrev pub none_in : (UserName → Bool) → List UserName → Bool
none_in has users = list_all (λ user. not (has user)) users

abbrev pub seen_by : BTreeSet UserName → UserName → Bool
seen_by seen user = contains (slice_cmp nat_cmp) seen user

-- none that is left stands twice or was seen, exactly where none of all stands twice
pub record SeenGoing (all : List UserName) (seen : BTreeSet UserName) (left : List UserName) : Type 0 where
  pub whole : (are_different left && none_in (seen_by seen) left) ≡ are_different all

pub other_way : (a b : Text) → bytes_eq a b ≡ bytes_eq b a
other_way a b = by (bytes_eq a b) (bytes_eq b a) refl refl
  where
    by : (x y : Bool) → bytes_eq a b ≡ x → bytes_eq b a ≡ y → x ≡ y
    by true true one two = refl
    by false false one two = refl
    by true false one two = absurd (true≢false (sym ((bytes_eq-Decides b a).1 (sym ((bytes_eq-Decides a b).0 one))) ∙ two))
    by false true one two = absurd (true≢false (sym ((bytes_eq-Decides a b).1 (sym ((bytes_eq-Decides b a).0 two))) ∙ one))

none_at_all : (has : UserName → Bool) (users : List UserName) → ((q : UserName) → has q ≡ false) → none_in has users ≡ true
none_at_all has [] none = refl
none_at_all has (user ∷ more) none = rw (none user, none_at_all has more none) refl

-- one more is seen
one_more : (has now : UserName → Bool) (user : UserName) (users : List UserName) → ((q : UserName) → now q ≡ cond (bytes_eq q user) true (has q)) →
    none_in now users ≡ (not (has_user users user) && none_in has users)
one_more has now user [] each = refl
one_more has now user (first ∷ more) each = let rest = one_more has now user more each in let here = each first in by (bytes_eq first user) (has first) (now first) (has_user more user) (none_in has more) (none_in now more) here rest
  where
    by : (same was is later before after : Bool) → is ≡ cond same true was → after ≡ (not later && before) → (not is && after) ≡ (not (same || later) && (not was && before))
    by true was is later before after here rest = rw here refl
    by false true is later before after here rest = rw here (both later before)
      where
        both : (x y : Bool) → false ≡ (not x && (false && y))
        both true y = refl
        both false y = refl
    by false false is later before after here rest = rw (here, rest) refl

and_true : (a b c d : Bool) → ((not a && b) && (not false && c)) ≡ d → (b && (not a && c)) ≡ d
and_true true true c d is = is
and_true true false c d is = is
and_true false b c d is = is

pub seen_first : {users : List UserName} {seen : BTreeSet UserName} → IsEmpty seen → SeenGoing users seen users
seen_first {users = users} {seen = seen} empty = record { whole = by (are_different users) (none_in (seen_by seen) users) (none_at_all (seen_by seen) users (λ q. none q)) }
  where
    by : (x y : Bool) → y ≡ true → (x && y) ≡ x
    by true y is = is
    by false y is = refl

    none : (q : UserName) → seen_by seen q ≡ false
    none q = rw empty refl

pub seen_step : {all : List UserName} {old new : BTreeSet UserName} {user : UserName} {left : List UserName} {added : Bool} → SeenGoing all old (user ∷ left) → added ≡ not (contains (slice_cmp nat_cmp) old user) → added ≡ true →
    Updates (slice_cmp nat_cmp) old new user true → SeenGoing all new left
seen_step {all = all} {old = old} {new = new} {user = user} {left = left} going is fresh updates =
    let not_yet : seen_by old user ≡ false = was (seen_by old user) (sym is ∙ fresh) in
    let each : (q : UserName) → seen_by new q ≡ cond (bytes_eq q user) true (seen_by old q) = λ q. updates.0 q ∙ ap (λ b. cond b true (seen_by old q)) (is_eq-slice_cmp user q ∙ other_way user q) in
    record {
      whole = ap (λ b. are_different left && b) (one_more (seen_by old) (seen_by new) user left each)
          ∙ and_true (has_user left user) (are_different left) (none_in (seen_by old) left) (are_different all) (ap (λ b. (not (has_user left user) && are_different left) && (not b && none_in (seen_by old) left)) (sym not_yet) ∙ going.whole);
    }
  where
    was : (b : Bool) → not b ≡ true → b ≡ false
    was true is = absurd (cc)
    was false is = refl

pub seen_twice : {all : List UserName} {old : BTreeSet UserName} {user : UserName} {left : List UserName} {added : Bool} → SeenGoing all old (user ∷ left) → added ≡ not (contains (slice_cmp nat_cmp) old user) → added ≡ false → false ≡ are_different all
seen_twice {all = all} {old = old} {user = user} {left = left} going is known =
    let seen : seen_by old user ≡ true = was (seen_by old user) (sym is ∙ known) in
    sym (by (are_different (user ∷ left)) (none_in (seen_by old) left)) ∙ (ap (λ b. are_different (user ∷ left) && (not b && none_in (seen_by old) left)) (sym seen) ∙ going.whole)
  where
    was : (b : Bool) → not b ≡ false → b ≡ true
    was true is = refl
    was false is = absurd (cc)

    by : (x y : Bool) → (x && (not true && y)) ≡ false
    by true y = refl
    by false y = refl

pub seen_end : {all : List UserName} {seen : BTreeSet UserName} → SeenGoing all seen [] → true ≡ are_different all
seen_end going = going.whole

pub ruleset seens = (seen_first, seen_step, seen_twice, seen_end)

-- ---- what is known of users of whom none stands twice

pub not_true : (b : Bool) → not b ≡ true → b ≡ false
not_true true is = absurd (cc)
not_true false is = refl

none_has : (users : List UserName) (user : UserName) → has_user users user ≡ false → AllByRecursion (λ other. bytes_eq user other ≡ false) users
none_has [] user none = tt
none_has (one ∷ more) user none = let parts = or_parts (bytes_eq one user) (has_user more user) none in (other_way user one ∙ parts.0, none_has more user parts.1)

-- no two are equal
pub different : (users : List UserName) → are_different users ≡ true → IsDistinct bytes_eq users
unfolding IsDistinct
different [] is = tt
different (user ∷ more) is =
    let parts = and_parts (not (has_user more user)) (are_different more) is in (none_has more user (not_true (has_user more user) parts.0), different more parts.1)

-- none of whom a test is so
pub all_fail : (p : Text → Bool) (xs : List Text) → list_all (λ x. not (p x)) xs ≡ true → AllByRecursion (λ x. p x ≡ false) xs
all_fail p [] all = tt
all_fail p (x ∷ xs) all = let parts = and_parts (not (p x)) (list_all (λ y. not (p y)) xs) all in (not_true (p x) parts.0, all_fail p xs parts.1)
