-- What the texts of a storm are read as: users, paths, and the rules of an Access file.
use Rattle.std.proofs.Common.{◌≡◌, ℕ, zero, suc, ◌+◌, ◌%◌, ◌<◌, ◌≤◌, Bool, true, false, not, ◌&&◌, List, [], ◌∷◌, ◌++◌, length, refl, sym, ap, subst, ◌∙◌, arith, append_assoc, length-append, lt_of_not-le, Result, Ok, Err, codes, bytes_eq}
use Rattle.std.specs.Prelude.{if◌then◌else◌, ◌==◌, decimal, nat_le}
use Rattle.std.specs.Fmt.{digits}
use Rattle.std.specs.Str.{chars, is_utf8}
use lib.Utf8.{encode}
use mathlib.Core.Logic.{dite}
use native.Mathlib.Decide.{dec_le}
use Rattle.std.proofs.lemmas.Bool.{and_from, and_parts, false≢true, leb-true}
use Rattle.std.proofs.lemmas.Bool.Decides.{nat_tests}
use Rattle.std.proofs.lemmas.Slice.Eq.{bytes_eq-Decides}
use Rattle.up_storm.specs.Asked.{access_text, directory_text, file_text, owner_text, user_text}
use Rattle.up_access.specs.AccessTexts.{access_of, rule_of, rules_in}
use Rattle.up_access.specs.declared.Rule.{Rule}
use Rattle.up_names.proofs.PathLaws.{proper-canonical}
use Rattle.up_names.specs.ControlTexts.{control_lines, without_return, words_in}
use Rattle.up_names.specs.ItemLists.{items_in}
use Rattle.up_names.specs.ItemNames.{is_everyone, item_of}
use Rattle.up_names.specs.PathNames.{PathName, canonical, cleaned, control_of, is_element, is_name, path_of, pieces_of}
use Rattle.up_names.specs.TextMeanings.{meaning_of}
use Rattle.up_names.specs.Texts.{Text, UserName}
use Rattle.up_names.specs.UserNames.{domain_of, is_domain, is_label, is_local_part, is_suffix, user_of, without_final_period}
use Rattle.up_names.specs.declared.fault.NameFault.{NameFault}
use Rattle.up_names.specs.declared.fault.TextFault.{TextFault}
use Rattle.up_names.specs.declared.items.Item.{Item}
use Rattle.up_names.specs.declared.items.Item.TheVariants.{Domain, Everyone, Group, User}
use Rattle.up_names.specs.declared.paths.Control.{Control}
use Rattle.up_names.specs.declared.paths.Control.TheVariants as control
use Rattle.up_policy.specs.Trees.{owns_snapshots}
use Rattle.up_rights.specs.RightSets.{Rights, all_rights}
use Rattle.up_rights.specs.Words.{rights_of}

-- ---- a test that holds of all numbers below a bound

abbrev pub all_below : (ℕ → Bool) → ℕ → Bool
all_below test zero = true
all_below test (suc n) = test n && all_below test n

pub below_holds : (test : ℕ → Bool) (n k : ℕ) → all_below test n ≡ true → k < n → test k ≡ true
below_holds test zero k all less = absurd (omega (arith, less))
below_holds test (suc n) k all less =
    let both = and_parts (test n) (all_below test n) all in
    dite (dec_le (suc k) n) (λ low. below_holds test n k both.1 (omega (arith, low)))
    (λ far. let high = lt_of_not-le far in let same : n ≡ k = omega (arith, high, less) in subst (λ m. test m ≡ true) same both.0)

-- ---- the two owners

by_owner : (P : Text → Type 0) → P (codes "a@storm.example") → P (codes "b@storm.example") → (k : ℕ) → P (owner_text k)
by_owner P one two k = go (k % 2 == 0)
  where
    go : (b : Bool) → P (if b then codes "a@storm.example" else codes "b@storm.example")
    go true = one
    go false = two

pub owner_read : (k : ℕ) → user_of (owner_text k) ≡ Ok (owner_text k)
unfolding user_of without_final_period is_local_part is_suffix is_domain is_label
owner_read k = by_owner (λ (t : Text). user_of t ≡ Ok t) refl refl k

pub owner_plain : (k : ℕ) → owns_snapshots (owner_text k) ≡ false
owner_plain k = by_owner (λ (t : Text). owns_snapshots t ≡ false) refl refl k

owner_short : (k : ℕ) → length (owner_text k) ≡ 15
owner_short k = by_owner (λ (t : Text). length t ≡ 15) refl refl k

pub owner_again : (k : ℕ) → owner_text (k + 2) ≡ owner_text k
owner_again k = let e : (k + 2) % 2 ≡ k % 2 = omega arith in ap (λ (r : ℕ). if r == 0 then codes "a@storm.example" else codes "b@storm.example") e

pub owner_same : (k c : ℕ) → k % 2 ≡ c % 2 → owner_text k ≡ owner_text c
owner_same k c h = ap (λ (r : ℕ). if r == 0 then codes "a@storm.example" else codes "b@storm.example") h

names_apart : codes "a@storm.example" ≡ codes "b@storm.example" → ⊥
names_apart h = false≢true (ap (λ (t : Text). bytes_eq t (codes "b@storm.example")) h)

-- an even session's owner is not an odd one's
pub owner_apart : (k c : ℕ) → (k % 2 ≡ c % 2 → ⊥) → owner_text k ≡ owner_text c → ⊥
owner_apart k c apart same = go (k % 2 == 0) (c % 2 == 0) refl refl same
  where
    even : (a : ℕ) → a == 0 ≡ true → a ≡ 0
    even a h = grind (arith, nat_tests)

    odd : (a : ℕ) → a < 2 → a == 0 ≡ false → a ≡ 1
    odd a low h = grind (arith, nat_tests)

    go : (p q : Bool) → k % 2 == 0 ≡ p → c % 2 == 0 ≡ q → (if p then codes "a@storm.example" else codes "b@storm.example") ≡ (if q then codes "a@storm.example" else codes "b@storm.example") → ⊥
    go true true is it h = apart (even (k % 2) is ∙ sym (even (c % 2) it))
    go true false is it h = names_apart h
    go false true is it h = names_apart (sym h)
    go false false is it h = apart (odd (k % 2) (omega arith) is ∙ sym (odd (c % 2) (omega arith) it))

-- no session's user is an owner
pub user_stranger : (k m : ℕ) → bytes_eq (user_text k) (owner_text m) ≡ false
user_stranger k m = by_owner (λ (t : Text). bytes_eq (user_text k) t ≡ false) refl refl m

-- ---- the users

abbrev reads_user : ℕ → Bool
reads_user k = elim (user_of (user_text k)) [ Ok user ↦ bytes_eq user (user_text k) | Err fault ↦ false ]

users_read : all_below reads_user 34 ≡ true
unfolding digits user_of without_final_period is_local_part is_suffix is_domain is_label
users_read = refl

pub user_read : (k : ℕ) → k < 34 → user_of (user_text k) ≡ Ok (user_text k)
user_read k less = go (user_of (user_text k)) refl (below_holds reads_user 34 k users_read less)
  where
    go : (r : Result UserName NameFault) → user_of (user_text k) ≡ r → (elim r as (λ _. Bool) [ Ok user ↦ bytes_eq user (user_text k) | Err fault ↦ false ]) ≡ true → r ≡ Ok (user_text k)
    go (Ok user) is h = ap (λ (u : UserName). Ok u) ((bytes_eq-Decides user (user_text k)).0 h)
    go (Err fault) is h = absurd (false≢true h)

-- the user of the session after the next one is another
abbrev next_differs : ℕ → Bool
next_differs k = not (bytes_eq (user_text (k + 2)) (user_text k))

nexts_differ : all_below next_differs 34 ≡ true
unfolding digits
nexts_differ = refl

pub not_true : (b : Bool) → not b ≡ true → b ≡ false
not_true false h = refl
not_true true h = absurd (false≢true h)

pub next_other : (k : ℕ) → k < 34 → bytes_eq (user_text (k + 2)) (user_text k) ≡ false
next_other k less = not_true (bytes_eq (user_text (k + 2)) (user_text k)) (below_holds next_differs 34 k nexts_differ less)

-- ---- paths

abbrev pub file_name : ℕ → Text
file_name j = codes "f" ++ decimal j

abbrev good_name : Text → Bool
good_name name = is_name name && nat_le (length name) 3

names_good : all_below (λ k. good_name (decimal k)) 34 ≡ true
unfolding digits is_element is_utf8 chars encode
names_good = refl

files_good : all_below (λ j. good_name (file_name j)) 16 ≡ true
unfolding digits is_element is_utf8 chars encode
files_good = refl

abbrev is_plain_path : PathName → Bool
is_plain_path path = elim (control_of path) [ control.Ordinary ↦ true | control.Access ↦ false | control.Group ↦ false ]

paths_plain : all_below (λ k. all_below (λ j. is_plain_path (record { owner = []; elements = decimal k ∷ file_name j ∷ [] })) 16) 34 ≡ true
unfolding digits
paths_plain = refl

directories_plain : all_below (λ k. is_plain_path (record { owner = []; elements = decimal k ∷ [] })) 34 ≡ true
unfolding digits
directories_plain = refl

-- no file of a session is an Access file
files_no_access : all_below (λ j. not (bytes_eq (file_name j) (codes "Access"))) 16 ≡ true
unfolding digits
files_no_access = refl

pub file_no_access : (j : ℕ) → j < 16 → bytes_eq (file_name j) (codes "Access") ≡ false
file_no_access j less = not_true (bytes_eq (file_name j) (codes "Access")) (below_holds (λ i. not (bytes_eq (file_name i) (codes "Access"))) 16 j files_no_access less)

plain_is : (path : PathName) → is_plain_path path ≡ true → control_of path ≡ control.Ordinary
plain_is path h = go (control_of path) refl h
  where
    go : (c : Control) → control_of path ≡ c → (elim c as (λ _. Bool) [ control.Ordinary ↦ true | control.Access ↦ false | control.Group ↦ false ]) ≡ true → control_of path ≡ control.Ordinary
    go control.Ordinary is h = is
    go control.Access is h = absurd (false≢true h)
    go control.Group is h = absurd (false≢true h)

abbrev pub directory_path : ℕ → PathName
directory_path k = record { owner = owner_text k; elements = decimal k ∷ [] }

abbrev pub file_path : ℕ → ℕ → PathName
file_path k j = record { owner = owner_text k; elements = decimal k ∷ file_name j ∷ [] }

pub file_ordinary : (k j : ℕ) → k < 34 → j < 16 → control_of (file_path k j) ≡ control.Ordinary
file_ordinary k j less small =
    plain_is (file_path k j)
    (below_holds (λ i. is_plain_path (record { owner = []; elements = decimal k ∷ file_name i ∷ [] })) 16 j
    (below_holds (λ m. all_below (λ i. is_plain_path (record { owner = []; elements = decimal m ∷ file_name i ∷ [] })) 16) 34 k paths_plain less) small)

pub directory_ordinary : (k : ℕ) → k < 34 → control_of (directory_path k) ≡ control.Ordinary
directory_ordinary k less = plain_is (directory_path k) (below_holds (λ m. is_plain_path (record { owner = []; elements = decimal m ∷ [] })) 34 k directories_plain less)

module _ (k : ℕ) (less : k < 34) where
  name_good : (is_name (decimal k) ≡ true) × (nat_le (length (decimal k)) 3 ≡ true)
  name_good = and_parts (is_name (decimal k)) (nat_le (length (decimal k)) 3) (below_holds (λ m. good_name (decimal m)) 34 k names_good less)

  pub decimal_short : length (decimal k) ≤ 3
  decimal_short = leb-true (length (decimal k)) 3 name_good.1

  pub directory_read : path_of (directory_text k) ≡ Ok (directory_path k)
  directory_read = proper-canonical (directory_path k) (record {
    owner = owner_read k;
    names = and_from (is_name (decimal k)) true name_good.0 refl;
    short = (let a = length-append (owner_text k) (47 ∷ decimal k) in let b = owner_short k in let c = leb-true (length (decimal k)) 3 name_good.1 in
        let d : length (47 ∷ decimal k) ≡ length (decimal k) + 1 = omega arith in omega (arith, a, b, c, d));
  })

  module _ (j : ℕ) (small : j < 16) where
    file_good : (is_name (file_name j) ≡ true) × (nat_le (length (file_name j)) 3 ≡ true)
    file_good = and_parts (is_name (file_name j)) (nat_le (length (file_name j)) 3) (below_holds (λ i. good_name (file_name i)) 16 j files_good small)

    text_is : file_text k j ≡ canonical (file_path k j)
    text_is = append_assoc (owner_text k) (47 ∷ decimal k) (47 ∷ file_name j)

    pub file_length : length (canonical (file_path k j)) ≤ 23
    file_length =
        let a = length-append (owner_text k) (47 ∷ (decimal k ++ 47 ∷ file_name j)) in
        let b = length-append (decimal k) (47 ∷ file_name j) in
        let c = leb-true (length (decimal k)) 3 name_good.1 in
        let d = leb-true (length (file_name j)) 3 file_good.1 in
        let e = owner_short k in
        let f : length (47 ∷ (decimal k ++ 47 ∷ file_name j)) ≡ length (decimal k ++ 47 ∷ file_name j) + 1 = omega arith in
        let g : length (47 ∷ file_name j) ≡ length (file_name j) + 1 = omega arith in
        omega (arith, a, b, c, d, e, f, g)

    pub file_read : path_of (file_text k j) ≡ Ok (file_path k j)
    file_read =
        ap path_of text_is
        ∙ proper-canonical (file_path k j) (record {
          owner = owner_read k;
          names = and_from (is_name (decimal k)) (is_name (file_name j) && true) name_good.0 (and_from (is_name (file_name j)) true file_good.0 refl);
          short = (let short = file_length in omega (arith, short));
        })

-- ---- the rules of an Access file

abbrev is_last : List Rule → Bool
is_last [] = true
is_last (other ∷ more) = false

abbrev is_end : List Item → Bool
is_end [] = true
is_end (other ∷ more) = false

abbrev is_one : UserName → Item → List Item → Bool
is_one user (User name) more = bytes_eq name user && is_end more
is_one user Everyone more = false
is_one user (Domain domain) more = false
is_one user (Group path) more = false

abbrev is_user_alone : UserName → List Item → Bool
is_user_alone user [] = false
is_user_alone user (item ∷ items) = is_one user item items

abbrev has_all : Rights → Bool
has_all held = held.read && (held.write && (held.list && (held.create && held.delete)))

-- one rule that gives all rights to one user
abbrev is_all_to : UserName → List Rule → Bool
is_all_to user [] = false
is_all_to user (rule ∷ rules) = has_all rule.rights && (is_user_alone user rule.items && is_last rules)

abbrev pub all_to : UserName → List Rule
all_to user = record { rights = all_rights; items = User user ∷ [] } ∷ []

five_true : (a b c d e : Bool) → (a && (b && (c && (d && e)))) ≡ true → ◌≡◌ {A = Rights} (record { read = a; write = b; list = c; create = d; delete = e }) all_rights
five_true true true true true true h = refl
five_true false b c d e h = absurd (false≢true h)
five_true true false c d e h = absurd (false≢true h)
five_true true true false d e h = absurd (false≢true h)
five_true true true true false e h = absurd (false≢true h)
five_true true true true true false h = absurd (false≢true h)

one_is : (user : UserName) (item : Item) (more : List Item) → is_one user item more ≡ true → item ∷ more ≡ User user ∷ []
one_is user (User name) [] h = ap (λ (n : UserName). User n ∷ []) ((bytes_eq-Decides name user).0 (and_parts (bytes_eq name user) true h).0)
one_is user (User name) (other ∷ more) h = absurd (false≢true (and_parts (bytes_eq name user) false h).1)
one_is user Everyone more h = absurd (false≢true h)
one_is user (Domain domain) more h = absurd (false≢true h)
one_is user (Group path) more h = absurd (false≢true h)

alone_is : (user : UserName) (items : List Item) → is_user_alone user items ≡ true → items ≡ User user ∷ []
alone_is user [] h = absurd (false≢true h)
alone_is user (item ∷ more) h = one_is user item more h

rules_are : (user : UserName) (rules : List Rule) → is_all_to user rules ≡ true → rules ≡ all_to user
rules_are user [] h = absurd (false≢true h)
rules_are user (rule ∷ []) h =
    let both = and_parts (has_all rule.rights) (is_user_alone user rule.items && true) h in
    let items = (and_parts (is_user_alone user rule.items) true both.1).0 in
    ap (λ (held : Rights). (record { rights = held; items = rule.items }) ∷ []) (five_true rule.rights.read rule.rights.write rule.rights.list rule.rights.create rule.rights.delete both.0)
    ∙ ap (λ (named : List Item). (record { rights = all_rights; items = named }) ∷ []) (alone_is user rule.items items)
rules_are user (rule ∷ (other ∷ more)) h =
    let both = and_parts (has_all rule.rights) (is_user_alone user rule.items && false) h in
    absurd (false≢true (and_parts (is_user_alone user rule.items) false both.1).1)

abbrev reads_access : ℕ → Bool
reads_access k = elim (access_of (owner_text k) (access_text k)) [ Ok rules ↦ is_all_to (user_text k) rules | Err fault ↦ false ]

accesses_read : all_below reads_access 32 ≡ true
unfolding digits access_of rules_in rule_of rights_of control_lines without_return words_in items_in item_of is_everyone user_of domain_of without_final_period is_local_part is_suffix is_domain is_label meaning_of path_of pieces_of is_element cleaned is_utf8 chars encode
accesses_read = refl

-- the Access file of session k gives all to its user
pub access_read : (k : ℕ) → k < 32 → access_of (owner_text k) (access_text k) ≡ Ok (all_to (user_text k))
access_read k less = go (access_of (owner_text k) (access_text k)) refl (below_holds reads_access 32 k accesses_read less)
  where
    go : (r : Result (List Rule) TextFault) → access_of (owner_text k) (access_text k) ≡ r
        → (elim r as (λ _. Bool) [ Ok rules ↦ is_all_to (user_text k) rules | Err fault ↦ false ]) ≡ true → r ≡ Ok (all_to (user_text k))
    go (Ok rules) is h = ap (λ (rs : List Rule). Ok rs) (rules_are (user_text k) rules h)
    go (Err fault) is h = absurd (false≢true h)
