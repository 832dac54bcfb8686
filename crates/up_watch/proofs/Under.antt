-- Paths under a path: it, and those whose parent is under it.
use Rattle.std.proofs.Common.{◌≡◌, ℕ, zero, suc, ◌<◌, ◌≤◌, Bool, true, false, length, take, refl, sym, ap, ◌∙◌, arith, inl, inr, Option, Some, None, bytes_eq, Decides}
use Rattle.std.proofs.lemmas.Slice.Eq.{bytes_eq-Decides, slice_eq-Decides}
use lib.Pointwise.{pointwise}
use Rattle.std.proofs.lemmas.Bool.{and_from, and_parts, cases_lt, false_from_ne_true}
use Rattle.std.proofs.lemmas.List.{take_all}
use Rattle.up_names.specs.PathNames.{PathName, cut, is_under, parent_of}
use Rattle.up_names.specs.PathOrder.{path_eq}
use Rattle.up_names.proofs.PathComparisons.{not_under}
use Rattle.up_log_tree.proofs.Paths.{cut_cut, cut_whole, length_cut, parent_is, parent_none, path_other}

-- a path is under another where its first elements make that one
under-Decides : (p q : PathName) → Decides (is_under p q) (cut (length q.elements) p ≡ q)
under-Decides p q =
    let owners = bytes_eq-Decides p.owner q.owner in
    let elements = slice_eq-Decides bytes_eq-Decides q.elements (take (length q.elements) p.elements) (pointwise bytes_eq q.elements (take (length q.elements) p.elements)) refl in (
      λ under. let both = and_parts (bytes_eq p.owner q.owner) (pointwise bytes_eq q.elements (take (length q.elements) p.elements)) under in
          ap (λ owner. record { owner = owner; elements = take (length q.elements) p.elements }) (owners.0 both.0)
          ∙ ap (λ elements. record { owner = q.owner; elements = elements }) (sym (elements.0 both.1)),
      λ same. and_from _ _ (owners.1 (ap (λ (p : PathName). p.owner) same)) (elements.1 (sym (ap (λ (p : PathName). p.elements) same))),
    )

cut_past : (n : ℕ) (path : PathName) → length path.elements ≤ n → cut n path ≡ path
cut_past n path h = ap (λ elements. record { owner = path.owner; elements = elements }) (take_all n path.elements h)

pub under_itself : (path : PathName) → is_under path path ≡ true
under_itself path = (under-Decides path path).1 (cut_whole path)

-- another path that is no longer is not under it
not_longer : (q top : PathName) → path_eq q top ≡ false → length q.elements ≤ length top.elements → is_under q top ≡ false
not_longer q top other short = false_from_ne_true (is_under q top) (λ is. path_other q top other (sym (cut_past (length top.elements) q short) ∙ (under-Decides q top).0 is))

same_test : (a b : Bool) → (a ≡ true → b ≡ true) → (b ≡ true → a ≡ true) → a ≡ b
same_test true b f g = sym (f refl)
same_test false true f g = g refl
same_test false false f g = refl

-- another path is under it exactly where its parent is
pub under_by_parent : (q top : PathName) → path_eq q top ≡ false → is_under q top ≡ elim (parent_of q) [ None ↦ false | Some parent ↦ is_under parent top ]
under_by_parent q top other = go (length q.elements) refl
  where
    go : (n : ℕ) → length q.elements ≡ n → is_under q top ≡ elim (parent_of q) [ None ↦ false | Some parent ↦ is_under parent top ]
    go zero size = not_longer q top other (omega (arith, size)) ∙ sym (ap (λ o. elim o as (λ _. Bool) [ None ↦ false | Some parent ↦ is_under parent top ]) (parent_none q size))
    go (suc n) size = elim (cases_lt n (length top.elements)) [
      | inl lt ↦ not_longer q top other (omega (arith, size, lt)) ∙ sym (not_under (cut n q) top (let e = length_cut n q (omega (arith, size)) in omega (arith, e, lt))) ∙ above
      | inr low ↦ same_test (is_under q top) (is_under (cut n q) top)
          (λ is. (under-Decides (cut n q) top).1 (cut_cut (length top.elements) n q low ∙ (under-Decides q top).0 is))
          (λ is. (under-Decides q top).1 (sym (cut_cut (length top.elements) n q low) ∙ (under-Decides (cut n q) top).0 is)) ∙ above
    ]
      where
        above : is_under (cut n q) top ≡ elim (parent_of q) [ None ↦ false | Some parent ↦ is_under parent top ]
        above = sym (ap (λ o. elim o as (λ _. Bool) [ None ↦ false | Some parent ↦ is_under parent top ]) (parent_is q n size))

-- a parent is shorter
pub parent_shorter : (q dir : PathName) → parent_of q ≡ Some dir → length dir.elements < length q.elements
parent_shorter q dir is = go (length q.elements) refl
  where
    go : (n : ℕ) → length q.elements ≡ n → length dir.elements < length q.elements
    go zero size = absurd (let e : None ≡ Some dir = sym (parent_none q size) ∙ is in cc)
    go (suc n) size =
        let e : length (cut n q).elements ≡ length dir.elements = ap (λ (o : Option PathName). elim o as (λ _. ℕ) [ None ↦ 0 | Some p ↦ length p.elements ]) (sym (parent_is q n size) ∙ is) in
        let f = length_cut n q (omega (arith, size)) in
        omega (arith, size, e, f)

-- and not under it
pub parent_above : (top dir : PathName) → parent_of top ≡ Some dir → is_under dir top ≡ false
parent_above top dir is = not_under dir top (parent_shorter top dir is)
