-- What a canonical user name is, as the front of a path: without a slash, and short.
use Rattle.std.proofs.Common.{◌≡◌, ℕ, ◌+◌, ◌-◌, ◌≤◌, Bool, true, false, cond, not, ◌||◌, List, ◌∷◌, ◌++◌, length, take, refl, sym, ap, subst, inl, inr, ◌∙◌, arith, count_by, Result, Ok, Err}
use Rattle.std.specs.List.{list_all, list_any, before_first, after_first, slice_split, position_or_len}
use Rattle.std.specs.Str.{str_to_ascii_lowercase}
use Rattle.std.specs.Char.{to_ascii_lowercase}
use Rattle.std.proofs.lemmas.Bool.{and_parts, or_from, not_from_false, not-false, and_cases, cond_both, eqb-true, ltb-false, false≢true}
use Rattle.std.proofs.lemmas.List.{length-append, length-map, length-drop, length-take}
use Rattle.std.proofs.lemmas.List.Folds.{list_any-append}
use Rattle.up_names.specs.UserNames.{user_of, without_final_period, is_local_part, is_suffix, is_domain, is_label, is_at, is_plus, is_period, is_name_byte, is_label_byte, has_bytes, name_part, domain_part}
use Rattle.up_names.specs.PathNames.{is_slash}
use Rattle.up_names.proofs.Firsts.{none_of_all, none_of_parts, none_of_split, list_all_weaker, place_found}
use Rattle.up_names.specs.declared.fault.NameFault.{NameFault}

is_slash-is : (b : ℕ) → is_slash b ≡ true → b ≡ 47
is_slash-is b e = eqb-true b 47 e

-- a slash is none of the bytes of a user name
name_byte-slash : (b : ℕ) → is_slash b ≡ true → (is_name_byte b || is_period b) ≡ false
name_byte-slash b e = subst (λ b. (is_name_byte b || is_period b) ≡ false) (sym (is_slash-is b e)) refl

suffix_byte-slash : (b : ℕ) → is_slash b ≡ true → is_name_byte b ≡ false
suffix_byte-slash b e = subst (λ b. is_name_byte b ≡ false) (sym (is_slash-is b e)) refl

label_byte-slash : (b : ℕ) → is_slash b ≡ true → is_label_byte b ≡ false
label_byte-slash b e = subst (λ b. is_label_byte b ≡ false) (sym (is_slash-is b e)) refl

has_bytes-all : (low high : ℕ) (test : ℕ → Bool) (part : List ℕ) → has_bytes low high test part ≡ true → list_all test part ≡ true
has_bytes-all low high test part h = (and_parts _ (list_all test part) h).1

-- what an accepted user text is made of
record Accepted (text user : List ℕ) : Type 0 where
  short : length (without_final_period text) ≤ 254
  one_at : count_by is_at (without_final_period text) ≡ 1
  local : is_local_part (before_first is_plus (name_part (without_final_period text))) ≡ true
  suffix : list_any is_plus (name_part (without_final_period text)) ≡ true → is_suffix (after_first is_plus (name_part (without_final_period text))) ≡ true
  domain : is_domain (str_to_ascii_lowercase (domain_part (without_final_period text))) ≡ true
  made : user ≡ name_part (without_final_period text) ++ 64 ∷ str_to_ascii_lowercase (domain_part (without_final_period text))

-- a test that would refuse has failed
pub peel : {X : Type 0} (refuses : Bool) (fault : NameFault) (rest : Result X NameFault) (value : X) → cond refuses (Err fault) rest ≡ Ok value → (refuses ≡ false) × (rest ≡ Ok value)
peel true fault rest value e = absurd (err-ok fault value e)
  where
    err-ok : {X : Type 0} (fault : NameFault) (value : X) → Err fault ≡ Ok value → ⊥
    err-ok fault value e = cc
peel false fault rest value e = (refl, e)

ok-value : (x y : List ℕ) → ◌≡◌ {A = Result (List ℕ) NameFault} (Ok x) (Ok y) → x ≡ y
ok-value x y e = cc

accepted : (text user : List ℕ) → user_of text ≡ Ok user → Accepted text user
unfolding user_of
accepted text user e =
    let long = peel _ _ _ _ e in
    let ats = peel _ _ _ _ long.1 in
    let local = peel _ _ _ _ ats.1 in
    let suffix = peel _ _ _ _ local.1 in
    let domain = peel _ _ _ _ suffix.1 in
    record {
      short = ltb-false 254 (length (without_final_period text)) long.0;
      one_at = eqb-true _ 1 (not-false _ ats.0);
      local = not-false _ local.0;
      suffix = λ plus. not-false _ (elim (and_cases _ _ suffix.0) [ inl h ↦ absurd (false≢true (sym h ∙ plus)) | inr h ↦ h ]);
      domain = not-false _ domain.0;
      made = sym (ok-value _ _ domain.1);
    }

no_slash-label : (label : List ℕ) → is_label label ≡ true → not (list_any is_slash label) ≡ true
unfolding is_label
no_slash-label label h =
    not_from_false _ (none_of_all is_label_byte is_slash label_byte-slash label (has_bytes-all 1 63 is_label_byte label (and_parts _ _ (and_parts _ _ h).0).0))

no_slash-domain : (domain : List ℕ) → is_domain domain ≡ true → list_any is_slash domain ≡ false
unfolding is_domain
no_slash-domain domain h =
    none_of_split is_period is_slash (λ b h. subst (λ b. is_slash b ≡ false) (sym (eqb-true b 46 h)) refl) domain
    (list_all_weaker is_label (λ part. not (list_any is_slash part)) no_slash-label (slice_split is_period domain) (and_parts _ _ (and_parts _ _ h).0).1)

module _ (text user : List ℕ) (e : user_of text ≡ Ok user) where
  abbrev kept : List ℕ
  kept = without_final_period text

  no_slash-name : list_any is_slash (name_part kept) ≡ false
  unfolding is_local_part is_suffix
  no_slash-name =
      let a = accepted text user e in
      none_of_parts is_plus is_slash (λ b h. subst (λ b. is_slash b ≡ false) (sym (eqb-true b 43 h)) refl) (name_part kept)
      (let local = before_first is_plus (name_part kept) in
      none_of_all (λ b. is_name_byte b || is_period b) is_slash name_byte-slash local (has_bytes-all 1 64 (λ b. is_name_byte b || is_period b) local a.local))
      (λ plus. let suffix = after_first is_plus (name_part kept) in
      none_of_all is_name_byte is_slash suffix_byte-slash suffix (has_bytes-all 1 32 is_name_byte suffix (a.suffix plus)))

  -- a canonical user name has no slash
  pub no_slash : list_any is_slash user ≡ false
  no_slash =
      let a = accepted text user e in
      ap (list_any is_slash) a.made
      ∙ list_any-append is_slash (name_part kept) (64 ∷ str_to_ascii_lowercase (domain_part kept))
      ∙ or_from _ _ no_slash-name (no_slash-domain (str_to_ascii_lowercase (domain_part kept)) a.domain)

  length-kept : length kept ≤ length text
  unfolding without_final_period
  length-kept = cond_both _ (take (length text - 1) text) text (λ t. length t ≤ length text) (λ _. omega (arith, length-take (length text - 1) text)) (λ _. omega arith)

  length-user : length user ≡ length kept
  length-user =
      let a = accepted text user e in
      let found = place_found is_at kept (omega arith) in
      ap length a.made
      ∙ length-append (name_part kept) (64 ∷ str_to_ascii_lowercase (domain_part kept))
      ∙ omega (arith, length-take (position_or_len is_at kept) kept, length-drop (position_or_len is_at kept + 1) kept, length-map (domain_part kept) to_ascii_lowercase)

  -- a canonical user name has at most 254 bytes
  pub at_most_254 : length user ≤ 254
  at_most_254 = let a = accepted text user e in omega (arith, length-user)

  -- and no more than the text
  pub no_longer : length user ≤ length text
  no_longer = omega (arith, length-user, length-kept)
