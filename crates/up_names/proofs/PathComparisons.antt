-- Canonical paths are compared by their texts, and the tests of their elements.
use Rattle.std.proofs.Common.{◌≡◌, ℕ, ◌-◌, ◌<◌, Bool, true, false, ◌&&◌, leb, List, [], ◌∷◌, length, take, drop, suc, Some, refl, sym, ap, ◌∙◌, arith, bytes_eq, Decides, slice_get}
use lib.Pointwise.{pointwise}
use Rattle.std.specs.List.{ends_with}
use Rattle.std.proofs.lemmas.Bool.{and_parts, and_from, false_from_ne_true, leb-false}
use Rattle.std.proofs.lemmas.List.{length-take}
use Rattle.std.proofs.lemmas.Option.{none-some, same_Some}
use Rattle.std.specs.declared.cmp.Ordering.TheVariants.{Less, Equal, Greater}
use Rattle.std.specs.Ordering.{nat_cmp, ordering_then}
use Rattle.std.specs.Cmp.{tied_itself}
use Rattle.std.specs.Cmp.Lexicographic.{slice_cmp}
use Rattle.std.proofs.lemmas.Cmp.{nat_list_eq_equiv}
use Rattle.std.proofs.lemmas.Bool.Decides.{same_from_decides}
use Rattle.std.proofs.lemmas.Map.Lookups.{exact_bytes}
use Rattle.std.proofs.lemmas.Slice.Eq.{bytes_eq-Decides, slice_eq-Decides}
use Rattle.up_names.specs.PathNames.{PathName, canonical, cut, is_under, IsCanonical}
use Rattle.up_names.specs.PathOrder.{path_eq, parts_cmp, path_cmp}
use Rattle.up_names.specs.PathOrderLaws.{path_eq-Decides, parts_total}
use Rattle.up_names.proofs.PathLaws.{IsProper, canonical-proper, canonical-injective}
use Rattle.up_names.proofs.PathEdits.{cut_proper}

-- of canonical paths the canonical texts decide
pub path_cmp-canonical : (p q : PathName) → IsProper p → IsProper q → slice_cmp nat_cmp (canonical p) (canonical q) ≡ path_cmp p q
path_cmp-canonical p q of_p of_q =
    elim (slice_cmp nat_cmp (canonical p) (canonical q)) as (λ o. slice_cmp nat_cmp (canonical p) (canonical q) ≡ o → o ≡ ordering_then o (parts_cmp p q)) [
      | Less ↦ λ _. refl
      | Equal ↦ λ tied.
          let same = canonical-injective p q of_p of_q (exact_bytes (canonical p) (canonical q) tied) in
          sym (ap (λ r. parts_cmp p r) (sym same) ∙ tied_itself parts_total p)
      | Greater ↦ λ _. refl
    ] refl

pub path_eq-canonical : (p q : PathName) → IsProper p → IsProper q → bytes_eq (canonical p) (canonical q) ≡ path_eq p q
path_eq-canonical p q of_p of_q =
    let texts = bytes_eq-Decides (canonical p) (canonical q) in
    same_from_decides (bytes_eq (canonical p) (canonical q)) (path_eq p q)
    (λ same. canonical-injective p q of_p of_q (texts.0 same), λ same. texts.1 (ap canonical same)) (path_eq-Decides p q)

and_true : (b : Bool) → (b && true) ≡ b
and_true true = refl
and_true false = refl

-- a path is under q where its first elements make q
under-Decides : (p q : PathName) → Decides (is_under p q) (cut (length q.elements) p ≡ q)
under-Decides p q =
    let owners = bytes_eq-Decides p.owner q.owner in
    let elements = slice_eq-Decides bytes_eq-Decides q.elements (take (length q.elements) p.elements) (pointwise bytes_eq q.elements (take (length q.elements) p.elements)) refl in (
      λ under. let both = and_parts (bytes_eq p.owner q.owner) (pointwise bytes_eq q.elements (take (length q.elements) p.elements)) under in
          ap (λ owner. record { owner = owner; elements = take (length q.elements) p.elements }) (owners.0 both.0)
          ∙ ap (λ elements. record { owner = q.owner; elements = elements }) (sym (elements.0 both.1)),
      λ same. and_from _ _ (owners.1 (ap (λ (p : PathName). p.owner) same)) (elements.1 (sym (ap (λ (p : PathName). p.elements) same))),
    )

-- never where q has more elements
pub not_under : (p q : PathName) → length p.elements < length q.elements → is_under p q ≡ false
not_under p q fewer =
    false_from_ne_true (is_under p q) (λ under.
    let same = ap (λ (p : PathName). length p.elements) ((under-Decides p q).0 under) in
    omega (arith, length-take (length q.elements) p.elements))

-- and of canonical paths, by the texts
pub under-canonical : (p q : PathName) → IsProper p → IsProper q → bytes_eq (canonical (cut (length q.elements) p)) (canonical q) ≡ is_under p q
under-canonical p q of_p of_q =
    let front = cut (length q.elements) p in
    let texts = bytes_eq-Decides (canonical front) (canonical q) in
    same_from_decides (bytes_eq (canonical front) (canonical q)) (is_under p q)
    (λ same. canonical-injective front q (cut_proper (length q.elements) p of_p) of_q (texts.0 same), λ same. texts.1 (ap canonical same)) (under-Decides p q)

-- both at once
pub under_by_texts : (p q : PathName) → IsCanonical p → IsCanonical q → is_under p q ≡ (leb (length q.elements) (length p.elements) && bytes_eq (canonical (cut (length q.elements) p)) (canonical q))
under_by_texts p q of_p of_q =
    elim (leb (length q.elements) (length p.elements)) as (λ b. leb (length q.elements) (length p.elements) ≡ b → is_under p q ≡ (b && bytes_eq (canonical (cut (length q.elements) p)) (canonical q))) [
      | true ↦ λ _. sym (under-canonical p q (canonical-proper p of_p) (canonical-proper q of_q))
      | false ↦ λ more. not_under p q (leb-false _ _ more)
    ] refl

-- the last element alone is tested
pub ends_in : (es : List (List ℕ)) (last name : List ℕ) → slice_get es (length es - 1) ≡ Some last → ends_with bytes_eq es (name ∷ []) ≡ bytes_eq last name
ends_in [] last name found = absurd (none-some last found)
ends_in (e ∷ []) last name found =
    and_true (bytes_eq name e) ∙ nat_list_eq_equiv.symm name e ∙ ap (λ e. bytes_eq e name) (same_Some e last found)
ends_in (e ∷ f ∷ es) last name found =
    let n : suc (suc (length es)) - 1 ≡ suc (length es) = omega arith in
    let rest : length es ≡ suc (length es) - 1 = omega arith in
    ap (λ n. pointwise bytes_eq (name ∷ []) (drop n (e ∷ f ∷ es))) n
    ∙ ap (λ n. pointwise bytes_eq (name ∷ []) (drop n (f ∷ es))) rest
    ∙ ends_in (f ∷ es) last name (ap (slice_get (f ∷ es)) (sym rest) ∙ ap (slice_get (e ∷ f ∷ es)) (sym n) ∙ found)
