-- The order of locations is total.
use Rattle.std.proofs.Common.{refl}
use Rattle.std.specs.Ordering.{eq_by_cmp, as_partial_cmp}
use Rattle.std.specs.Cmp.{IsTotalOrder, IsEquivalence, IsPartialEquivalence, IsPartialOrder, partial_equiv_from_equiv, po}
use Rattle.std.proofs.lemmas.Cmp.{nat_list_cmp_total, on_total, then_total, eq_by_cmp_equiv}
use Rattle.up_entry.specs.declared.entries.Location.{Location}
use Rattle.up_edits.specs.Places.{rank, location_cmp}

-- the order of locations is a total order
pub location_total : IsTotalOrder location_cmp
location_total =
    then_total (on_total (λ (l : Location). l.reference) nat_list_cmp_total)
    (on_total (λ (l : Location). rank l.endpoint) nat_list_cmp_total)

-- being equal by this order is an equivalence
pub location_equivalence : IsEquivalence (eq_by_cmp location_cmp)
location_equivalence = eq_by_cmp_equiv location_total

-- being equal by this order is a partial equivalence
pub location_partial : IsPartialEquivalence (eq_by_cmp location_cmp)
location_partial = partial_equiv_from_equiv location_equivalence

-- the order of locations is a partial order too
pub location_partial_order : IsPartialOrder (eq_by_cmp location_cmp) (as_partial_cmp location_cmp)
location_partial_order = po location_total (λ _ _. refl)
