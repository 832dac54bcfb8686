-- What an item is, whatever it was read from, and that its own text names it again, whoever's text it stands in.
use Rattle.std.proofs.Common.{◌≡◌, ◌∙◌, ℕ, ◌-◌, Bool, true, false, not, ◌&&◌, ◌||◌, cond, eqb, List, [], ◌∷◌, ◌++◌, length, take, drop, refl, ap, sym, Option, Some, None, Result, Ok, Err, arith, codes, IfSome}
use Rattle.std.proofs.lemmas.Bool.{and_left, and_right, and_parts, not_from_true, or_parts, or_from, or_right, cond_both, false≢true, false_from_ne_true}
use Rattle.std.proofs.lemmas.Bool.Decides.{nat_tests}
use Rattle.std.proofs.lemmas.List.Folds.{list_any-append}
use Rattle.std.proofs.lemmas.List.{take-append-drop}
use Rattle.std.proofs.lemmas.Slice.Eq.{bytes_eq-Decides}
use Rattle.std.specs.Char.{to_ascii_lowercase}
use Rattle.std.specs.List.{list_any, before_first, after_first, starts_with}
use Rattle.std.specs.Str.{bytes_eq, str_to_ascii_lowercase}
use lib.Pointwise.{pointwise}
use Rattle.up_names.specs.declared.fault.NameFault.{NameFault}
use Rattle.up_names.specs.declared.items.Item.{Item}
use Rattle.up_names.specs.declared.items.Item.TheVariants.{Everyone, Domain, User, Group}
use Rattle.up_names.specs.UserNames.{user_of, domain_of, is_domain, is_at, is_period, is_label_byte, without_final_period, name_part, domain_part}
use Rattle.up_names.specs.PathNames.{PathName, path_of, canonical, is_in_group, is_slash, IsCanonical}
use Rattle.up_names.specs.ItemNames.{item_of, is_everyone, is_domain_name, has_owner, has_slash, names_user, domain_item, user_item, group_item}
use Rattle.up_names.proofs.PathLaws.{canonical-proper}
use Rattle.up_names.proofs.Owners.{no_slash}
use Rattle.up_names.proofs.PathAgain.{path_of-again}
use Rattle.up_names.proofs.UserLemmas.{user_of-again, user_of-any, parts-of_text, parts-of_user, lowercase-twice, user-bytes, is_user_byte, domain-bytes, no_final_period}
use Rattle.up_names.proofs.CutLemmas.{before_first-all, before_first-joined, cut-joined, list_any-excluded}
use Rattle.up_names.proofs.ItemLemmas.{user_all-named, list_any-lowercase, at_lowercase}
use Rattle.up_names.proofs.Joined.{joined_text}

-- what is so of each item that a name stands for
abbrev pub IsCanonicalItem : Item → Type 0
IsCanonicalItem Everyone = Unit {0}
IsCanonicalItem (Domain domain) = (is_domain domain ≡ true) × (str_to_ascii_lowercase domain ≡ domain)
IsCanonicalItem (User user) = (user_of user ≡ Ok user) × (bytes_eq user (codes "all@upspin.io") ≡ false)
IsCanonicalItem (Group path) = IsCanonical path × (is_in_group path ≡ true)

-- an item as text: everyone as `all`, a group by its full path
abbrev pub item_text : Item → List ℕ
item_text Everyone = codes "all"
item_text (Domain domain) = codes "*@" ++ domain
item_text (User user) = user
item_text (Group path) = canonical path

domain_item-canonical : (text : List ℕ) → IfSome (domain_item (domain_of text)) IsCanonicalItem
unfolding domain_of
domain_item-canonical text =
    cond_both (is_domain (str_to_ascii_lowercase text)) (Some (str_to_ascii_lowercase text)) None (λ found. IfSome (domain_item found) IsCanonicalItem) (λ good. (good, lowercase-twice text)) (λ _. tt)

group_item-canonical : (text : List ℕ) → IfSome (group_item (path_of text)) IsCanonicalItem
group_item-canonical text = at (path_of text) refl
  where
    at : (result : Result PathName NameFault) → path_of text ≡ result → IfSome (group_item result) IsCanonicalItem
    at (Ok path) is =
        cond_both (is_in_group path) (Some (Group path)) None (λ found. IfSome found IsCanonicalItem) (λ good. (path_of-again text path is, good)) (λ _. tt)
    at (Err fault) is = tt

user_item-canonical : (text : List ℕ) → is_everyone text ≡ false → IfSome (user_item (user_of text)) IsCanonicalItem
unfolding is_everyone
user_item-canonical text others = at (user_of text) refl (or_parts _ _ others).1
  where
    at : (result : Result (List ℕ) NameFault) → user_of text ≡ result → names_user result (codes "all@upspin.io") ≡ false → IfSome (user_item result) IsCanonicalItem
    at (Ok user) is other = (user_of-again text user is, other)
    at (Err fault) is other = tt

-- whatever a name stands for is canonical
pub item_of-canonical : (owner name : List ℕ) → IfSome (item_of owner name) IsCanonicalItem
unfolding item_of
item_of-canonical owner name =
    let P : Option Item → Type 0 = λ found. IfSome found IsCanonicalItem in
    cond_both (is_everyone name) _ _ P (λ _. tt) (λ others.
    cond_both (is_domain_name name) _ _ P (λ _. domain_item-canonical (drop 2 name)) (λ _.
    cond_both (not (has_owner name)) _ _ P (λ _. group_item-canonical (owner ++ codes "/Group/" ++ name)) (λ _.
    cond_both (has_slash name) _ _ P (λ _. group_item-canonical name) (λ _. user_item-canonical name others))))

-- a name that is none of everyone's is read on
not_everyone : (name : List ℕ) → bytes_eq (str_to_ascii_lowercase name) (codes "all") ≡ false → names_user (user_of name) (codes "all@upspin.io") ≡ false → is_everyone name ≡ false
unfolding is_everyone
not_everyone name word user = or_from _ _ word user

-- a text that has a mark and one that has none differ
apart : (p : ℕ → Bool) → ((b : ℕ) → p (to_ascii_lowercase b) ≡ p b) → (name text : List ℕ) → list_any p name ≡ true → list_any p text ≡ false → bytes_eq (str_to_ascii_lowercase name) text ≡ false
apart p same name text any none =
    false_from_ne_true _ (λ equal. false≢true (sym none ∙ ap (list_any p) (sym ((bytes_eq-Decides (str_to_ascii_lowercase name) text).0 equal)) ∙ list_any-lowercase p same name ∙ any))

slash_lowercase : (b : ℕ) → is_slash (to_ascii_lowercase b) ≡ is_slash b
slash_lowercase b = grind (arith, nat_tests)

user_byte-no_slash : (b : ℕ) → is_user_byte b ≡ true → is_slash b ≡ false
user_byte-no_slash b h = grind (arith, nat_tests)

user_byte-no_star : (b : ℕ) → is_user_byte b ≡ true → eqb b 42 ≡ false
user_byte-no_star b h = grind (arith, nat_tests)

label_byte-no_slash : (b : ℕ) → (is_label_byte b || is_period b) ≡ true → is_slash b ≡ false
label_byte-no_slash b h = grind (arith, nat_tests)

has_at : (user : List ℕ) → user_of user ≡ Ok user → list_any is_at user ≡ true
has_at user is =
    let parts = parts-of_user user is in
    ap (list_any is_at) (sym parts.1) ∙ list_any-append is_at (name_part user) (64 ∷ domain_part user) ∙ or_right (list_any is_at (name_part user)) true refl

-- nothing begins with a star that holds none
begins_with_no_star : (name : List ℕ) → list_any (λ b. eqb b 42) name ≡ false → starts_with eqb name (codes "*@") ≡ false
begins_with_no_star [] none = refl
begins_with_no_star (b ∷ name) none =
    let same : eqb 42 b ≡ false = let h : eqb b 42 ≡ false = (or_parts (eqb b 42) (list_any (λ c. eqb c 42) name) none).0 in grind (arith, nat_tests, h) in
    ap (λ t. t && pointwise eqb (64 ∷ []) (take 1 name)) same

-- `*` is no user's name, and a slash stands in none
star_is_no_user : (domain : List ℕ) → is_domain domain ≡ true → names_user (user_of (codes "*@" ++ domain)) (codes "all@upspin.io") ≡ false
star_is_no_user domain good =
    let name = codes "*@" ++ domain in
    let kept : without_final_period name ≡ name = no_final_period (42 ∷ []) domain good in
    sym (user_all-named name (42 ∷ []) domain (ap (before_first is_at) (sym kept)) (ap (λ u. cond (list_any is_at u) (Some (after_first is_at u)) None) (sym kept)))

period_alone : (ys : List ℕ) → pointwise eqb (46 ∷ []) ys ≡ true → list_any is_slash ys ≡ false
period_alone [] same = absurd (false≢true same)
period_alone (y ∷ []) same = let h = (and_parts (eqb 46 y) true same).0 in grind (arith, nat_tests, h)
period_alone (y ∷ z ∷ ys) same = absurd (false≢true (and_parts (eqb 46 y) false same).1)

kept_slash : (name : List ℕ) → list_any is_slash name ≡ true → list_any is_slash (without_final_period name) ≡ true
unfolding without_final_period
kept_slash name slash =
    let n = length name - 1 in
    cond_both (pointwise eqb (46 ∷ []) (drop n name)) (take n name) name (λ kept. list_any is_slash kept ≡ true)
    (λ ends.
    let parts : (list_any is_slash (take n name) || list_any is_slash (drop n name)) ≡ true = sym (list_any-append is_slash (take n name) (drop n name)) ∙ ap (list_any is_slash) (take-append-drop n name) ∙ slash in
    sym (ap (λ t. list_any is_slash (take n name) || t) (period_alone (drop n name) ends) ∙ or_false (list_any is_slash (take n name))) ∙ parts)
    (λ _. slash)
  where
    or_false : (b : Bool) → (b || false) ≡ b
    or_false true = refl
    or_false false = refl

kept_in_name : (name user : List ℕ) → user_of name ≡ Ok user → list_any is_slash (without_final_period name) ≡ true → list_any is_slash user ≡ true
kept_in_name name user is slash =
    let u = without_final_period name in
    let joined : u ≡ name_part u ++ 64 ∷ domain_part u = cut-joined 64 u (user_of-any name user is) in
    ap (list_any is_slash) (sym (parts-of_text name user is).1)
    ∙ list_any-append is_slash (name_part u) (64 ∷ str_to_ascii_lowercase (domain_part u))
    ∙ ap (λ t. list_any is_slash (name_part u) || t) (list_any-lowercase is_slash slash_lowercase (domain_part u))
    ∙ sym (list_any-append is_slash (name_part u) (64 ∷ domain_part u))
    ∙ ap (list_any is_slash) (sym joined)
    ∙ slash

slash_is_no_user : (name : List ℕ) → list_any is_slash name ≡ true → names_user (user_of name) (codes "all@upspin.io") ≡ false
slash_is_no_user name slash = at (user_of name) refl
  where
    at : (result : Result (List ℕ) NameFault) → user_of name ≡ result → names_user result (codes "all@upspin.io") ≡ false
    at (Ok user) is = absurd (false≢true (sym (no_slash name user is) ∙ kept_in_name name user is (kept_slash name slash)))
    at (Err fault) is = refl

user_item-again : (owner user : List ℕ) → user_of user ≡ Ok user → bytes_eq user (codes "all@upspin.io") ≡ false → item_of owner user ≡ Some (User user)
unfolding item_of
user_item-again owner user is other =
    let bytes = user-bytes user is in
    let no_slash : has_slash user ≡ false = list_any-excluded is_user_byte is_slash user_byte-no_slash user bytes in
    let no_star = list_any-excluded is_user_byte (λ b. eqb b 42) user_byte-no_star user bytes in
    let everyone : is_everyone user ≡ false = not_everyone user (apart is_at at_lowercase user (codes "all") (has_at user is) refl) (ap (λ r. names_user r (codes "all@upspin.io")) is ∙ other) in
    let domain : is_domain_name user ≡ false = and_left _ _ (begins_with_no_star user no_star) in
    let owned : has_owner user ≡ true = ap (list_any is_at) (before_first-all is_slash user no_slash) ∙ has_at user is in
    rw (everyone, domain, owned, no_slash, is) refl

domain_item-again : (owner domain : List ℕ) → is_domain domain ≡ true → str_to_ascii_lowercase domain ≡ domain → item_of owner (codes "*@" ++ domain) ≡ Some (Domain domain)
unfolding item_of domain_of
domain_item-again owner domain good lower =
    let name = codes "*@" ++ domain in
    let no_slash : list_any is_slash domain ≡ false = list_any-excluded (λ b. is_label_byte b || is_period b) is_slash label_byte-no_slash domain (domain-bytes domain good) in
    let other : names_user (user_of name) (codes "all@upspin.io") ≡ false = star_is_no_user domain good in
    let everyone : is_everyone name ≡ false = not_everyone name refl other in
    rw (everyone, no_slash, lower, good) refl

group_item-again : (owner : List ℕ) (path : PathName) → IsCanonical path → is_in_group path ≡ true → item_of owner (canonical path) ≡ Some (Group path)
unfolding item_of
group_item-again owner path is group =
    let owned = (canonical-proper path is).owner in
    let bytes = user-bytes path.owner owned in
    let no_slash : list_any is_slash path.owner ≡ false = list_any-excluded is_user_byte is_slash user_byte-no_slash path.owner bytes in
    let slash : has_slash (canonical path) ≡ true = list_any-append is_slash path.owner (47 ∷ joined_text path.elements) ∙ or_right (list_any is_slash path.owner) true refl in
    let front : before_first is_slash (canonical path) ≡ path.owner = before_first-joined is_slash path.owner 47 (joined_text path.elements) no_slash refl in
    let at : has_owner (canonical path) ≡ true = ap (list_any is_at) front ∙ has_at path.owner owned in
    let everyone : is_everyone (canonical path) ≡ false = not_everyone (canonical path) (apart is_slash slash_lowercase (canonical path) (codes "all") slash refl) (slash_is_no_user (canonical path) slash) in
    let domain : is_domain_name (canonical path) ≡ false = and_right (starts_with eqb (canonical path) (codes "*@")) (not (has_slash (canonical path))) (not_from_true _ slash) in
    rw (everyone, domain, at, slash, is, group) refl

-- a canonical item's text names it, whoever's text it stands in
pub item_of-again : (owner : List ℕ) (item : Item) → IsCanonicalItem item → item_of owner (item_text item) ≡ Some item
unfolding item_of is_everyone
item_of-again owner Everyone is = refl
item_of-again owner (Domain domain) is = domain_item-again owner domain is.0 is.1
item_of-again owner (User user) is = user_item-again owner user is.0 is.1
item_of-again owner (Group path) is = group_item-again owner path is.0 is.1
