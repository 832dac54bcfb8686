-- Items that the order of readers says are alike are one item.
use Rattle.std.proofs.Common.{◌≡◌, ℕ, List, refl, sym, ap, ◌∙◌, arith}
use Rattle.std.specs.Cmp.Lexicographic.{slice_cmp}
use Rattle.std.specs.FinMap.{nat_cmp-IsAntisymmetric, slice_cmp-IsAntisymmetric}
use Rattle.std.specs.Ordering.{is_eq, nat_cmp, ordering_then}
use Rattle.std.specs.declared.cmp.Ordering.{Ordering}
use Rattle.std.specs.declared.cmp.Ordering.TheVariants.{Less, Equal, Greater}
use Rattle.std.proofs.lemmas.Bool.{false≢true}
use Rattle.std.proofs.lemmas.Map.Lookups.{CmpEqualImpliesEq}
use Rattle.up_names.specs.declared.items.Item.{Item}
use Rattle.up_names.specs.declared.items.Item.TheVariants.{Everyone, Domain, User, Group}
use Rattle.up_names.specs.PathOrder.{path_cmp}
use Rattle.up_names.specs.PathOrderLaws.{path_exact}
use Rattle.up_share.specs.Orders.{item_cmp, name_in, path_in, rank}

-- two comparisons, one after the other, say Equal only where each of them does
both_equal : (o r : Ordering) → ordering_then o r ≡ Equal → (o ≡ Equal) × (r ≡ Equal)
both_equal Less r h = absurd (false≢true (ap is_eq h))
both_equal Equal r h = (refl, h)
both_equal Greater r h = absurd (false≢true (ap is_eq h))

-- an item is its kind and its name or path
one_item : (one other : Item) → rank one ≡ rank other → name_in one ≡ name_in other → path_in one ≡ path_in other → one ≡ other
one_item Everyone Everyone kind name path = refl
one_item (Domain domain) (Domain other) kind name path = ap Domain name
one_item (User user) (User other) kind name path = ap User name
one_item (Group group) (Group other) kind name path = ap Group path
one_item Everyone (Domain other) kind name path = absurd (omega (arith, kind))
one_item Everyone (User other) kind name path = absurd (omega (arith, kind))
one_item Everyone (Group other) kind name path = absurd (omega (arith, kind))
one_item (Domain domain) Everyone kind name path = absurd (omega (arith, kind))
one_item (Domain domain) (User other) kind name path = absurd (omega (arith, kind))
one_item (Domain domain) (Group other) kind name path = absurd (omega (arith, kind))
one_item (User user) Everyone kind name path = absurd (omega (arith, kind))
one_item (User user) (Domain other) kind name path = absurd (omega (arith, kind))
one_item (User user) (Group other) kind name path = absurd (omega (arith, kind))
one_item (Group group) Everyone kind name path = absurd (omega (arith, kind))
one_item (Group group) (Domain other) kind name path = absurd (omega (arith, kind))
one_item (Group group) (User other) kind name path = absurd (omega (arith, kind))

-- items that compare as Equal are equal
pub item_cmp_exact : CmpEqualImpliesEq item_cmp
item_cmp_exact one other h =
    let kinds =
    both_equal (nat_cmp (rank one) (rank other))
    (ordering_then (slice_cmp nat_cmp (name_in one) (name_in other)) (path_cmp (path_in one) (path_in other))) h in
    let parts = both_equal (slice_cmp nat_cmp (name_in one) (name_in other)) (path_cmp (path_in one) (path_in other)) kinds.1 in
    one_item one other (nat_cmp-IsAntisymmetric (rank one) (rank other) kinds.0)
    (slice_cmp-IsAntisymmetric nat_cmp-IsAntisymmetric (name_in one) (name_in other) parts.0)
    (path_exact (path_in one) (path_in other) parts.1)
