-- The user `all@upspin.io`, who is everyone.
use Rattle.std.proofs.Common.{◌≡◌, ◌∙◌, ℕ, Bool, true, false, ◌&&◌, cond, List, [], ◌∷◌, ◌++◌, length, refl, ap, sym, Some, None, Result, Ok, Err, arith, codes, length-append}
use Rattle.std.proofs.lemmas.Bool.{and_parts, false_from_ne_true, le-ltb}
use Rattle.std.proofs.lemmas.Bool.Decides.{nat_tests, same_from_decides, Decides-and, Decides-like}
use Rattle.std.proofs.lemmas.List.{length-map}
use Rattle.std.proofs.lemmas.Slice.Eq.{bytes_eq-Decides}
use Rattle.std.specs.Char.{to_ascii_lowercase}
use Rattle.std.specs.List.{list_any, before_first, after_first, count_by}
use Rattle.std.specs.Str.{bytes_eq, str_to_ascii_lowercase}
use Rattle.up_names.specs.declared.fault.NameFault.{NameFault}
use Rattle.up_names.specs.UserNames.{user_of, without_final_period, is_local_part, is_suffix, is_domain, is_label, is_at, name_part, domain_part}
use Rattle.up_names.specs.ItemNames.{names_user}
use Rattle.up_names.proofs.CutLemmas.{before_first-none, before_first-joined, after_first-joined, cut-joined, something_behind}
use Rattle.up_names.proofs.UserLemmas.{IsUserText, user_of-any, user_of-passes, parts-of_text, count_by-joined}

-- both parts of a canonical name are known by the whole
parts_decide : (local domain : List ℕ) → list_any is_at local ≡ false → (bytes_eq local (codes "all") && bytes_eq domain (codes "upspin.io")) ≡ bytes_eq (local ++ 64 ∷ domain) (codes "all@upspin.io")
parts_decide local domain none =
    same_from_decides _ _
    (Decides-and _ _ (bytes_eq-Decides local (codes "all")) (bytes_eq-Decides domain (codes "upspin.io")))
    (Decides-like _ whole parts (bytes_eq-Decides (local ++ 64 ∷ domain) (codes "all@upspin.io")))
  where
    whole : local ++ 64 ∷ domain ≡ codes "all@upspin.io" → (local ≡ codes "all") × (domain ≡ codes "upspin.io")
    whole e = (sym (before_first-joined is_at local 64 domain none refl) ∙ ap (before_first is_at) e, sym (after_first-joined is_at local 64 domain none refl) ∙ ap (after_first is_at) e)

    parts : (local ≡ codes "all") × (domain ≡ codes "upspin.io") → local ++ 64 ∷ domain ≡ codes "all@upspin.io"
    parts e = ap (λ xs. xs ++ 64 ∷ domain) e.0 ∙ ap (λ xs. codes "all" ++ 64 ∷ xs) e.1

-- lowering makes and loses no byte that is no letter
pub list_any-lowercase : (p : ℕ → Bool) → ((b : ℕ) → p (to_ascii_lowercase b) ≡ p b) → (xs : List ℕ) → list_any p (str_to_ascii_lowercase xs) ≡ list_any p xs
list_any-lowercase p same [] = refl
list_any-lowercase p same (x ∷ xs) = rw (same x, list_any-lowercase p same xs) refl

pub at_lowercase : (b : ℕ) → is_at (to_ascii_lowercase b) ≡ is_at b
at_lowercase b = grind (arith, nat_tests)

-- a text of these parts passes all tests
passes : (user : List ℕ) → list_any is_at user ≡ true → name_part user ≡ codes "all" → str_to_ascii_lowercase (domain_part user) ≡ codes "upspin.io" → IsUserText user
unfolding is_local_part is_suffix is_domain is_label
passes user any local domain =
    let joined : user ≡ name_part user ++ 64 ∷ domain_part user = cut-joined 64 user any in
    let no_at : list_any is_at (domain_part user) ≡ false = sym (list_any-lowercase is_at at_lowercase (domain_part user)) ∙ ap (list_any is_at) domain in
    let once : count_by is_at user ≡ 1 = ap (count_by is_at) joined ∙ count_by-joined (name_part user) (domain_part user) (before_first-none is_at user) no_at in
    record {
      fits = le-ltb _ _ (omega (arith, ap length joined, length-append (name_part user) (64 ∷ domain_part user), ap length local, ap length domain, length-map (domain_part user) to_ascii_lowercase));
      one_at = rw once refl;
      local_part = rw local refl;
      suffix = rw local refl;
      is_a_domain = rw domain refl;
    }

-- whichever way, the parts tell whether the text names that user
named : (name : List ℕ) (result : Result (List ℕ) NameFault) → user_of name ≡ result → list_any is_at (without_final_period name) ≡ true → (bytes_eq (name_part (without_final_period name)) (codes "all") && bytes_eq (str_to_ascii_lowercase (domain_part (without_final_period name))) (codes "upspin.io")) ≡ names_user result (codes "all@upspin.io")
named name (Ok user) e any =
    let parts = parts-of_text name user e in
    parts_decide (name_part (without_final_period name)) (str_to_ascii_lowercase (domain_part (without_final_period name))) parts.0.name_has_no_at
    ∙ ap (λ xs. bytes_eq xs (codes "all@upspin.io")) parts.1
named name (Err fault) e any = false_from_ne_true _ refused
  where
    refused : (bytes_eq (name_part (without_final_period name)) (codes "all") && bytes_eq (str_to_ascii_lowercase (domain_part (without_final_period name))) (codes "upspin.io")) ≡ true → ⊥
    refused both =
        let h = and_parts _ _ both in
        let local = (bytes_eq-Decides (name_part (without_final_period name)) (codes "all")).0 h.0 in
        let domain = (bytes_eq-Decides (str_to_ascii_lowercase (domain_part (without_final_period name))) (codes "upspin.io")).0 h.1 in
        let good = user_of-passes name (passes (without_final_period name) any local domain) in
        let clash = sym good ∙ e in
        cc

some_any : (b : Bool) (xs ys : List ℕ) → Some xs ≡ cond b (Some ys) None → b ≡ true
some_any true xs ys e = refl
some_any false xs ys e = absurd (cc)

pub user_all-named : (name local domain : List ℕ) → local ≡ before_first is_at (without_final_period name) → Some domain ≡ cond (list_any is_at (without_final_period name)) (Some (after_first is_at (without_final_period name))) None → (bytes_eq local (codes "all") && bytes_eq (str_to_ascii_lowercase domain) (codes "upspin.io")) ≡ names_user (user_of name) (codes "all@upspin.io")
user_all-named name local domain same behind =
    rw (same, something_behind is_at (without_final_period name) domain behind) (named name (user_of name) refl (some_any _ _ _ behind))

pub user_all-not_named : (name : List ℕ) → None ≡ cond (list_any is_at (without_final_period name)) (Some (after_first is_at (without_final_period name))) None → false ≡ names_user (user_of name) (codes "all@upspin.io")
user_all-not_named name behind = at (user_of name) refl
  where
    at : (result : Result (List ℕ) NameFault) → user_of name ≡ result → false ≡ names_user result (codes "all@upspin.io")
    at (Ok user) e =
        let any = user_of-any name user e in
        let clash : None ≡ Some (after_first is_at (without_final_period name)) = behind ∙ ap (λ b. cond b (Some (after_first is_at (without_final_period name))) None) any in
        absurd (cc)
    at (Err fault) e = refl

pub ruleset user_all = (user_all-named, user_all-not_named)
