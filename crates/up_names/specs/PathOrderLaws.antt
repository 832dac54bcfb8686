-- Equality and order of paths are lawful, and exact: paths that are equal, or compare alike, are one path.
use Rattle.std.proofs.Common.{◌≡◌, true, refl, sym, ap, ◌∙◌, Decides, bytes_eq}
use Rattle.std.specs.declared.cmp.Ordering.{Ordering}
use Rattle.std.specs.declared.cmp.Ordering.TheVariants.{Less, Equal, Greater}
use Rattle.std.specs.Ordering.{nat_cmp, ordering_then, is_eq, as_partial_cmp}
use Rattle.std.specs.Cmp.{IsTotalOrder, IsEquivalence, IsPartialEquivalence, IsPartialOrder, partial_equiv_from_equiv, po}
use Rattle.std.specs.Cmp.Lexicographic.{slice_cmp}
use Rattle.std.specs.Hash as fed
use lib.Pointwise.{pointwise}
use Rattle.std.proofs.lemmas.Bool.{and_parts, and_from, false≢true}
use Rattle.std.proofs.lemmas.Bool.Decides.{same_from_decides}
use Rattle.std.proofs.lemmas.Cmp.{nat_list_cmp_total, lists_total, on_total, then_total, tied_itself, nat_list_eq_equiv}
use Rattle.std.proofs.lemmas.Cmp.{lists_equiv, on_equiv, and_equiv}
use Rattle.std.specs.FinMap.{IsAntisymmetric, nat_cmp-IsAntisymmetric, slice_cmp-IsAntisymmetric}
use Rattle.std.proofs.lemmas.Map.Lookups.{CmpEqualImpliesEq}
use Rattle.std.proofs.lemmas.Slice.Eq.{bytes_eq-Decides, slice_eq-Decides}
use Rattle.up_names.specs.PathNames.{PathName, canonical}
use Rattle.up_names.specs.PathOrder.{path_eq, parts_cmp, path_cmp}

-- `==` on paths decides whether they are one path
pub path_eq-Decides : (p q : PathName) → Decides (path_eq p q) (p ≡ q)
path_eq-Decides p q =
    let owners = bytes_eq-Decides p.owner q.owner in
    let elements = slice_eq-Decides bytes_eq-Decides p.elements q.elements (pointwise bytes_eq p.elements q.elements) refl in (
      λ same. let both = and_parts (bytes_eq p.owner q.owner) (pointwise bytes_eq p.elements q.elements) same in
          ap (λ owner. record { owner = owner; elements = p.elements }) (owners.0 both.0) ∙ ap
          (λ elements. record { owner = q.owner; elements = elements }) (elements.0 both.1),
      λ same. and_from _ _ (owners.1 (ap (λ (p : PathName). p.owner) same)) (elements.1 (ap (λ (p : PathName). p.elements) same)),
    )

-- the order of paths by owner and elements is a total order
pub parts_total : IsTotalOrder parts_cmp
parts_total =
    then_total (on_total (λ (p : PathName). p.owner) nat_list_cmp_total)
    (on_total (λ (p : PathName). p.elements) (lists_total nat_list_cmp_total))

-- the order of paths is a total order
pub path_cmp_total : IsTotalOrder path_cmp
path_cmp_total = then_total (on_total canonical nat_list_cmp_total) parts_total

-- two comparisons, one after the other, say Equal only where each of them does
then_equal : (o r : Ordering) → ordering_then o r ≡ Equal → (o ≡ Equal) × (r ≡ Equal)
then_equal Less r h = absurd (false≢true (ap is_eq h))
then_equal Equal r h = (refl, h)
then_equal Greater r h = absurd (false≢true (ap is_eq h))

-- texts that compare as Equal are equal
same_bytes : IsAntisymmetric (slice_cmp nat_cmp)
same_bytes = slice_cmp-IsAntisymmetric nat_cmp-IsAntisymmetric

-- paths that compare alike are one path
pub path_exact : CmpEqualImpliesEq path_cmp
path_exact p q h =
    let parts = (then_equal (slice_cmp nat_cmp (canonical p) (canonical q)) (parts_cmp p q) h).1 in
    let both = then_equal (slice_cmp nat_cmp p.owner q.owner) (slice_cmp (slice_cmp nat_cmp) p.elements q.elements) parts in
    ap (λ owner. record { owner = owner; elements = p.elements }) (same_bytes p.owner q.owner both.0)
    ∙ ap (λ elements. record { owner = q.owner; elements = elements }) (slice_cmp-IsAntisymmetric same_bytes p.elements q.elements both.1)

-- a comparison that tells equality says Equal
is_eq-Equal : (o : Ordering) → is_eq o ≡ true → o ≡ Equal
is_eq-Equal Less h = absurd (false≢true h)
is_eq-Equal Equal h = refl
is_eq-Equal Greater h = absurd (false≢true h)

-- comparing two paths decides whether they are equal
path_cmp-Decides : (p q : PathName) → Decides (is_eq (path_cmp p q)) (p ≡ q)
path_cmp-Decides p q = (
  λ h. path_exact p q (is_eq-Equal (path_cmp p q) h),
  λ same. ap (λ r. is_eq (path_cmp p r)) (sym same) ∙ ap is_eq (tied_itself path_cmp_total p),
)

-- `==` and the order say one thing
pub path_cmp_eq : (p q : PathName) → path_eq p q ≡ is_eq (path_cmp p q)
path_cmp_eq p q = same_from_decides (path_eq p q) (is_eq (path_cmp p q)) (path_eq-Decides p q) (path_cmp-Decides p q)

-- equality of paths is an equivalence
pub path_eq_equivalence : IsEquivalence path_eq
path_eq_equivalence =
    and_equiv (on_equiv (λ (p : PathName). p.owner) nat_list_eq_equiv)
    (on_equiv (λ (p : PathName). p.elements) (lists_equiv nat_list_eq_equiv))

-- equal paths are hashed alike
pub path_hash : (p q : PathName) → path_eq p q ≡ true → fed.str (canonical p) ≡ fed.str (canonical q)
path_hash p q same = ap (λ path. fed.str (canonical path)) ((path_eq-Decides p q).0 same)

-- equality of paths is a partial equivalence
pub path_eq_partial : IsPartialEquivalence path_eq
path_eq_partial = partial_equiv_from_equiv path_eq_equivalence

-- the order of paths is a partial order too
pub path_partial_order : IsPartialOrder path_eq (as_partial_cmp path_cmp)
path_partial_order = po path_cmp_total path_cmp_eq
