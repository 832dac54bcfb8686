-- The text of a pattern: an owner, and perhaps pieces behind a slash.
use Rattle.std.proofs.Common.{◌≡◌, ◌∙◌, ℕ, ◌≤◌, List, [], length, Some, None, Ok, Err, refl, ap, inl, inr, if◌then◌else◌}
use Rattle.std.specs.List.{after_first, before_first, list_any, slice_split}
use Rattle.std.proofs.lemmas.Bool.{cases_Bool, le-ltb}
use Rattle.up_names.specs.PathNames.{cleaned, is_slash, pieces_of}
use Rattle.up_names.specs.UserNames.{user_of}
use Rattle.up_pattern.specs.declared.terms.Term.{Term}
use Rattle.up_pattern.specs.Patterns.{elements_of, pattern_from, pattern_of, with_owner}
use Rattle.up_pattern.specs.declared.fault.PatternFault.TheVariants.{Name}

-- what stands behind the slash is cut into the pieces
pub pieces_of-some : (text behind : List ℕ) → Some behind ≡ (if list_any is_slash text then Some (after_first is_slash text) else None)
    → pieces_of text ≡ slice_split is_slash behind
unfolding pieces_of
pieces_of-some text behind same = elim (cases_Bool (list_any is_slash text)) [
  | inl any ↦
      let behind_is : Some behind ≡ Some (after_first is_slash text) = rw any at same in
      let rest : behind ≡ after_first is_slash text = cc in
      rw (any, rest) refl
  | inr none ↦ let never = rw none at same in cc never
]

-- there is no slash
pub pieces_of-none : (text : List ℕ) → None ≡ (if list_any is_slash text then Some (after_first is_slash text) else None) → pieces_of text ≡ []
unfolding pieces_of
pieces_of-none text same = elim (cases_Bool (list_any is_slash text)) [
  | inl any ↦ let never = rw any at same in cc never
  | inr none ↦ rw none refl
]

pub elements_of-nil : elements_of [] ≡ Ok []
unfolding elements_of cleaned
elements_of-nil = refl

pub pattern_of-good : (text owner : List ℕ) (elements : List (List Term)) → length text ≤ 4096 → user_of (before_first is_slash text) ≡ Ok owner
    → elements_of (pieces_of text) ≡ Ok elements → pattern_of text ≡ Ok (record { owner = owner; elements = elements })
unfolding pattern_of
pattern_of-good text owner elements short named read =
    ap (λ over. if over then Err Name else pattern_from (pieces_of text) (user_of (before_first is_slash text))) (le-ltb 4096 (length text) short)
    ∙ ap (pattern_from (pieces_of text)) named ∙ ap (with_owner owner) read
