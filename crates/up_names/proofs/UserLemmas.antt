-- The parts of a canonical name, and that it parses to itself.
use Rattle.std.proofs.Common.{◌≡◌, ◌∙◌, ℕ, ◌+◌, ◌-◌, ◌<◌, ◌≤◌, Bool, true, false, not, ◌&&◌, ◌||◌, cond, ltb, leb, eqb, List, [], ◌∷◌, ◌++◌, length, drop, refl, ap, sym, arith, subst, Ok, Err, length-append, length-take, get_or, suc}
use Rattle.std.proofs.lemmas.Bool.Decides.{nat_tests}
use Rattle.std.proofs.lemmas.Bool.{and_parts, and_from, and_left, or_left, eqb-true, ltb-false, leb-true, le-ltb, not-false, false_from_ne_true, true_from_ne_false}
use Rattle.std.proofs.lemmas.List.{length-map}
use Rattle.std.proofs.lemmas.List.Sums.{AllPass-from_list_all, suffix_len-take_no, suffix_len-le-length, sum_by-append, sum_by-cons}
use Rattle.std.proofs.lemmas.List.Folds.{list_all-append}
use Rattle.std.proofs.lemmas.List.Elements.{All-weaker}
use Rattle.std.proofs.lemmas.Str.Ascii.{IsAscii-from_all, lowercase-lowercase}
use Rattle.std.proofs.Math.Seq.{take-length, drop-append-add, drop-cons}
use Rattle.std.specs.List.{All, list_any, list_all, before_first, after_first, after_last, suffix_len, count_by, slice_split, position_or_len}
use Rattle.std.specs.Char.{to_ascii_lowercase}
use Rattle.std.specs.Str.{IsAscii, str_to_ascii_lowercase}
use lib.Pointwise.{pointwise}
use Rattle.up_names.specs.UserNames.{user_of, without_final_period, is_local_part, is_suffix, is_label, is_domain, is_label_byte, is_name_byte, is_period, is_plus, is_at, name_part, domain_part, base_of}
use Rattle.up_names.proofs.CutLemmas.{cut-joined, before_first-none, before_first-joined, after_first-joined, before_first-all, list_any-counted, list_any-excluded, list_any-take, list_all-weaker, length-cut, list_all-parts}
use Rattle.up_names.proofs.DomainLemmas.{length-after_last}

-- what a canonical name is made of
pub record IsUserParts (name domain : List ℕ) : Type 0 where
  pub name_has_no_at : list_any is_at name ≡ false
  pub fits : length name + 1 + length domain ≤ 254
  pub local_part : is_local_part (before_first is_plus name) ≡ true
  pub suffix : (list_any is_plus name && not (is_suffix (after_first is_plus name))) ≡ false
  pub is_a_domain : is_domain domain ≡ true
  pub is_lower : str_to_ascii_lowercase domain ≡ domain

-- a list that ends in a byte has nothing behind the last such byte
suffix_len-ends : (c : ℕ) (xs : List ℕ) → 0 < length xs → pointwise eqb (c ∷ []) (drop (length xs - 1) xs) ≡ true → suffix_len (λ b. not (eqb b c)) xs ≡ 0
suffix_len-ends c xs some last =
    let split : drop (length xs - 1) xs ≡ get_or xs (length xs - 1) 0 ∷ drop (suc (length xs - 1)) xs = drop-cons xs (length xs - 1) 0 (omega arith) in
    let same : (eqb c (get_or xs (length xs - 1) 0) && pointwise eqb [] (drop (suc (length xs - 1)) xs)) ≡ true = sym (ap (pointwise eqb (c ∷ [])) split) ∙ last in
    let is : c ≡ get_or xs (length xs - 1) 0 = eqb-true _ _ (and_parts _ _ same).0 in
    let stops : not (eqb (get_or xs (length xs - 1) 0) c) ≡ false = grind (arith, nat_tests, is) in
    sym (ap (suffix_len (λ b. not (eqb b c))) (take-length xs)) ∙ suffix_len-take_no (λ b. not (eqb b c)) xs (length xs) 0 some (omega arith) stops

domain-has_last : (domain : List ℕ) → is_domain domain ≡ true → (0 < length domain) × (pointwise eqb (46 ∷ []) (drop (length domain - 1) domain) ≡ false)
unfolding is_domain
domain-has_last domain good =
    let tested : leb 2 (length (after_last is_period domain)) ≡ true = (and_parts (leb 2 (length (slice_split is_period domain)) && list_all is_label (slice_split is_period domain)) (leb 2 (length (after_last is_period domain))) good).1 in
    let long : 2 ≤ length (after_last is_period domain) = leb-true 2 (length (after_last is_period domain)) tested in
    let longer : 2 ≤ suffix_len (λ b. not (is_period b)) domain = omega (arith, long, length-after_last is_period domain) in
    let some : 0 < length domain = let h = suffix_len-le-length (λ b. not (is_period b)) domain in omega arith in
    (some, false_from_ne_true _ (λ last. let h = suffix_len-ends 46 domain some last in absurd (omega arith)))

drop_last-joined : (xs : List ℕ) (y : ℕ) (ys : List ℕ) → 0 < length ys → drop (length (xs ++ y ∷ ys) - 1) (xs ++ y ∷ ys) ≡ drop (length ys - 1) ys
drop_last-joined xs y ys some =
    let n : length (xs ++ y ∷ ys) - 1 ≡ length xs + (suc (length ys - 1)) = omega (arith, length-append xs (y ∷ ys)) in
    rw n (drop-append-add xs (y ∷ ys) (suc (length ys - 1)))

pub no_final_period : (name domain : List ℕ) → is_domain domain ≡ true → without_final_period (name ++ 64 ∷ domain) ≡ name ++ 64 ∷ domain
unfolding without_final_period
no_final_period name domain good =
    let h = domain-has_last domain good in
    rw (drop_last-joined name 64 domain h.0, h.1) refl

is_label-bytes : (label : List ℕ) → is_label label ≡ true → list_all is_label_byte label ≡ true
unfolding is_label
is_label-bytes label good = (and_parts _ _ (and_parts _ _ (and_parts _ _ good).0).0).1

pub domain-bytes : (domain : List ℕ) → is_domain domain ≡ true → list_all (λ b. is_label_byte b || is_period b) domain ≡ true
unfolding is_domain
domain-bytes domain good =
    list_all-parts is_period is_label_byte domain (list_all-weaker is_label (list_all is_label_byte) is_label-bytes (slice_split is_period domain) (and_parts _ _ (and_parts _ _ good).0).1)

no_at_in_label : (b : ℕ) → (is_label_byte b || is_period b) ≡ true → is_at b ≡ false
no_at_in_label b h = grind (arith, nat_tests)

domain-no_at : (domain : List ℕ) → is_domain domain ≡ true → list_any is_at domain ≡ false
domain-no_at domain good = list_any-excluded (λ b. is_label_byte b || is_period b) is_at no_at_in_label domain (domain-bytes domain good)

pub count_by-joined : (name domain : List ℕ) → list_any is_at name ≡ false → list_any is_at domain ≡ false → count_by is_at (name ++ 64 ∷ domain) ≡ 1
count_by-joined name domain none none' =
    sum_by-append (λ b. cond (is_at b) 1 0) name (64 ∷ domain) ∙ ap (λ n. n + count_by is_at (64 ∷ domain)) (list_any-counted is_at name none)
    ∙ ap (λ n. 0 + n) (sum_by-cons (λ b. cond (is_at b) 1 0) 64 domain ∙ ap (λ n. 1 + n) (list_any-counted is_at domain none'))

-- the parts of a canonical name make a user, which is itself
pub user_of-parts : (name domain : List ℕ) → IsUserParts name domain → user_of (name ++ 64 ∷ domain) ≡ Ok (name ++ 64 ∷ domain)
unfolding user_of
user_of-parts name domain parts =
    let fits : ltb 254 (length (name ++ 64 ∷ domain)) ≡ false = le-ltb _ _ (let h = parts.fits in omega (arith, length-append name (64 ∷ domain))) in
    let once = count_by-joined name domain parts.name_has_no_at (domain-no_at domain parts.is_a_domain) in
    rw (no_final_period name domain parts.is_a_domain, fits, once, before_first-joined is_at name 64 domain parts.name_has_no_at refl, after_first-joined is_at name 64 domain parts.name_has_no_at refl, parts.local_part, parts.suffix, parts.is_lower, parts.is_a_domain) refl

-- five tests in a row, of which none fitted
none_of_five : {X Y : Type 0} (a b c d e : Y) (p q r s t : Bool) (x y : X) → cond p (Err a) (cond q (Err b) (cond r (Err c) (cond s (Err d) (cond t (Err e) (Ok x))))) ≡ Ok y → (p ≡ false) × (q ≡ false) × (r ≡ false) × (s ≡ false) × (t ≡ false) × (x ≡ y)
none_of_five a b c d e true q r s t x y is = absurd (cc)
none_of_five a b c d e false true r s t x y is = absurd (cc)
none_of_five a b c d e false false true s t x y is = absurd (cc)
none_of_five a b c d e false false false true t x y is = absurd (cc)
none_of_five a b c d e false false false false true x y is = absurd (cc)
none_of_five a b c d e false false false false false x y is = (refl, refl, refl, refl, refl, cc)

pub lowercase-twice : (xs : List ℕ) → str_to_ascii_lowercase (str_to_ascii_lowercase xs) ≡ str_to_ascii_lowercase xs
lowercase-twice [] = refl
lowercase-twice (x ∷ xs) = ap (λ y. y ∷ str_to_ascii_lowercase (str_to_ascii_lowercase xs)) (lowercase-lowercase x) ∙ ap (λ ys. to_ascii_lowercase x ∷ ys) (lowercase-twice xs)

-- the tests of a text that names a user
pub record IsUserText (user : List ℕ) : Type 0 where
  pub fits : ltb 254 (length user) ≡ false
  pub one_at : not (eqb (count_by is_at user) 1) ≡ false
  pub local_part : not (is_local_part (before_first is_plus (name_part user))) ≡ false
  pub suffix : (list_any is_plus (name_part user) && not (is_suffix (after_first is_plus (name_part user)))) ≡ false
  pub is_a_domain : not (is_domain (str_to_ascii_lowercase (domain_part user))) ≡ false

user_of-tests : (text user : List ℕ) → user_of text ≡ Ok user → IsUserText (without_final_period text) × (name_part (without_final_period text) ++ 64 ∷ str_to_ascii_lowercase (domain_part (without_final_period text)) ≡ user)
unfolding user_of
user_of-tests text user is =
    let h = none_of_five _ _ _ _ _ _ _ _ _ _ _ _ is in
    (record { fits = h.0; one_at = h.1; local_part = h.2; suffix = h.3; is_a_domain = h.4 }, h.5)

pub user_of-passes : (text : List ℕ) → IsUserText (without_final_period text) → user_of text ≡ Ok (name_part (without_final_period text) ++ 64 ∷ str_to_ascii_lowercase (domain_part (without_final_period text)))
unfolding user_of
user_of-passes text tests = rw (tests.fits, tests.one_at, tests.local_part, tests.suffix, tests.is_a_domain) refl

one_at-any : (user : List ℕ) → IsUserText user → list_any is_at user ≡ true
one_at-any user tests =
    let once : count_by is_at user ≡ 1 = eqb-true _ _ (not-false _ tests.one_at) in
    true_from_ne_false _ (λ none. let h = list_any-counted is_at user none in absurd (omega arith))

-- a text that names a user has an `@`
pub user_of-any : (text user : List ℕ) → user_of text ≡ Ok user → list_any is_at (without_final_period text) ≡ true
user_of-any text user is = one_at-any (without_final_period text) (user_of-tests text user is).0

parts-of_tests : (user : List ℕ) → IsUserText user → IsUserParts (name_part user) (str_to_ascii_lowercase (domain_part user))
parts-of_tests user tests =
    let any = one_at-any user tests in
    let short : length user ≤ 254 = ltb-false _ _ tests.fits in
    record {
      name_has_no_at = before_first-none is_at user;
      fits = omega (arith, length-cut is_at user any, length-map (domain_part user) to_ascii_lowercase);
      local_part = not-false _ tests.local_part;
      suffix = tests.suffix;
      is_a_domain = not-false _ tests.is_a_domain;
      is_lower = lowercase-twice (domain_part user);
    }

-- a text that names a user has such parts
pub parts-of_text : (text user : List ℕ) → user_of text ≡ Ok user → IsUserParts (name_part (without_final_period text)) (str_to_ascii_lowercase (domain_part (without_final_period text))) × (name_part (without_final_period text) ++ 64 ∷ str_to_ascii_lowercase (domain_part (without_final_period text)) ≡ user)
parts-of_text text user is =
    let tests = user_of-tests text user is in
    (parts-of_tests _ tests.0, tests.1)

-- a canonical name parses to itself
pub user_of-again : (text user : List ℕ) → user_of text ≡ Ok user → user_of user ≡ Ok user
user_of-again text user is =
    let parts = parts-of_text text user is in
    let P : List ℕ → Type 0 = λ u. user_of u ≡ Ok u in
    subst P parts.1 (user_of-parts _ _ parts.0)

parts-joined : (name domain : List ℕ) → IsUserParts name domain → IsUserParts (name_part (name ++ 64 ∷ domain)) (domain_part (name ++ 64 ∷ domain)) × (name_part (name ++ 64 ∷ domain) ++ 64 ∷ domain_part (name ++ 64 ∷ domain) ≡ name ++ 64 ∷ domain)
parts-joined name domain parts = rw (before_first-joined is_at name 64 domain parts.name_has_no_at refl, after_first-joined is_at name 64 domain parts.name_has_no_at refl) (parts, refl)

-- the parts of a canonical name
pub parts-of_user : (user : List ℕ) → user_of user ≡ Ok user → IsUserParts (name_part user) (domain_part user) × (name_part user ++ 64 ∷ domain_part user ≡ user)
parts-of_user user is =
    let parts = parts-of_text user user is in
    let P : List ℕ → Type 0 = λ u. IsUserParts (name_part u) (domain_part u) × (name_part u ++ 64 ∷ domain_part u ≡ u) in
    subst P parts.1 (parts-joined _ _ parts.0)

-- the bytes that a canonical name is made of
abbrev pub is_user_byte : ℕ → Bool
is_user_byte b = is_name_byte b || is_period b || is_plus b || is_at b

list_all-joined : (p : ℕ → Bool) (xs : List ℕ) (y : ℕ) (ys : List ℕ) → list_all p xs ≡ true → p y ≡ true → list_all p ys ≡ true → list_all p (xs ++ y ∷ ys) ≡ true
list_all-joined p xs y ys before between behind = list_all-append p xs (y ∷ ys) ∙ and_from _ _ before (and_from _ _ between behind)

local_part-bytes : (part : List ℕ) → is_local_part part ≡ true → list_all is_user_byte part ≡ true
unfolding is_local_part
local_part-bytes part good = list_all-weaker (λ b. is_name_byte b || is_period b) is_user_byte (λ b h. or_left _ _ (or_left _ _ h)) part (and_parts _ _ good).1

suffix-bytes : (part : List ℕ) → is_suffix part ≡ true → list_all is_user_byte part ≡ true
unfolding is_suffix
suffix-bytes part good = list_all-weaker is_name_byte is_user_byte (λ b h. or_left _ _ (or_left _ _ (or_left _ _ h))) part (and_parts _ _ good).1

name-bytes : (name : List ℕ) → is_local_part (before_first is_plus name) ≡ true → (list_any is_plus name && not (is_suffix (after_first is_plus name))) ≡ false → list_all is_user_byte name ≡ true
name-bytes name local suffix = at (list_any is_plus name) refl suffix
  where
    at : (b : Bool) → list_any is_plus name ≡ b → (b && not (is_suffix (after_first is_plus name))) ≡ false → list_all is_user_byte name ≡ true
    at false none _ = ap (list_all is_user_byte) (sym (before_first-all is_plus name none)) ∙ local_part-bytes (before_first is_plus name) local
    at true any suffix' =
        ap (list_all is_user_byte) (cut-joined 43 name any)
        ∙ list_all-joined is_user_byte (before_first is_plus name) 43 (after_first is_plus name) (local_part-bytes (before_first is_plus name) local) refl (suffix-bytes (after_first is_plus name) (not-false (is_suffix (after_first is_plus name)) suffix'))

pub label-user : (b : ℕ) → (is_label_byte b || is_period b) ≡ true → is_user_byte b ≡ true
label-user b h = grind (arith, nat_tests)

pub user-bytes : (user : List ℕ) → user_of user ≡ Ok user → list_all is_user_byte user ≡ true
user-bytes user is =
    let parts = parts-of_user user is in
    ap (list_all is_user_byte) (sym parts.1)
    ∙ list_all-joined is_user_byte (name_part user) 64 (domain_part user) (name-bytes (name_part user) parts.0.local_part parts.0.suffix) refl
    (list_all-weaker (λ b. is_label_byte b || is_period b) is_user_byte label-user (domain_part user) (domain-bytes (domain_part user) parts.0.is_a_domain))

all_ascii : (p : ℕ → Bool) → ((b : ℕ) → p b ≡ true → b < 128) → (xs : List ℕ) → list_all p xs ≡ true → All (λ b. b < 128) xs
all_ascii p small xs all = All-weaker (λ b. p b ≡ true) (λ b. b < 128) small xs (AllPass-from_list_all p xs all)

ascii_user_byte : (b : ℕ) → is_user_byte b ≡ true → b < 128
ascii_user_byte b h = grind (arith, nat_tests)

ascii_label : (b : ℕ) → (is_label_byte b || is_period b) ≡ true → b < 128
ascii_label b h = grind (arith, nat_tests)

pub domain-ascii : (domain : List ℕ) → is_domain domain ≡ true → All (λ b. b < 128) domain
domain-ascii domain good = all_ascii _ ascii_label domain (domain-bytes domain good)

-- it is ASCII, so UTF-8
pub IsAscii-user : (user : List ℕ) → user_of user ≡ Ok user → IsAscii user
IsAscii-user user is = IsAscii-from_all user (all_ascii is_user_byte ascii_user_byte user (user-bytes user is))

-- the parts of its base
pub parts-of_base : (name domain : List ℕ) → IsUserParts name domain → IsUserParts (before_first is_plus name) domain
parts-of_base name domain parts =
    let no_plus = before_first-none is_plus name in
    record {
      name_has_no_at = list_any-take is_at (position_or_len is_plus name) name parts.name_has_no_at;
      fits = let h = parts.fits in omega (arith, length-take (position_or_len is_plus name) name);
      local_part = rw (before_first-all is_plus (before_first is_plus name) no_plus) parts.local_part;
      suffix = and_left _ _ no_plus;
      is_a_domain = parts.is_a_domain;
      is_lower = parts.is_lower;
    }

-- a canonical name's base is canonical
pub base_of-again : (user : List ℕ) → user_of user ≡ Ok user → user_of (base_of user) ≡ Ok (base_of user)
base_of-again user is = user_of-parts _ _ (parts-of_base _ _ (parts-of_user user is).0)

-- its base is made of its parts, and lowering its domain changes nothing
pub base_of-joined : (user bytes name local domain : List ℕ) → user_of user ≡ Ok user → bytes ≡ user → name ≡ name_part bytes → local ≡ before_first is_plus name → domain ≡ domain_part bytes → local ++ 64 ∷ str_to_ascii_lowercase domain ≡ base_of user
base_of-joined user bytes name local domain is same same_name same_local same_domain =
    let local_is : local ≡ before_first is_plus (name_part user) = same_local ∙ ap (before_first is_plus) (same_name ∙ ap name_part same) in
    let domain_is : str_to_ascii_lowercase domain ≡ domain_part user = ap str_to_ascii_lowercase (same_domain ∙ ap domain_part same) ∙ (parts-of_user user is).0.is_lower in
    rw (local_is, domain_is) refl
