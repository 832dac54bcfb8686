use Rattle.std.proofs.Common.{◌≡◌, true, ap, subst, sym, ◌∙◌, slice_get}
use Rattle.std.specs.FinMap.Entries.{is_sorted}
use Rattle.std.specs.List.{remove}
use Rattle.up_maps.proofs.PlaceLemmas.{others_fresh, others_there, sorted_others}
use Rattle.up_maps.proofs.map.OrderedMap.remove.Goals as goal

pub returns-then-there-clause-entries : goal.returns-then-there-clause-entries
returns-then-there-clause-entries g c =
    let i = c.place_of-place.result in
    let now = c.args.self.now.entries in
    let same : c.self.inside.entries.items ≡ now = ap (λ m. m.entries) c.self.view_is in
    let there = ap (λ xs. slice_get xs i) (sym same) ∙ c.remove-entry.ensures.item in
    c.remove-entry.ensures.items ∙ ap (λ xs. remove xs i) same
    ∙ sym (others_there g.K.Ord.cmp g.met.K.Ord.total c.args.key.now now i c.remove-entry.result c.place_of-place.ensures.sorted c.place_of-place.ensures.place there (sym c.is_at-there.ensures ∙ c.if-there.true))

pub returns-else-there-clause-entries : goal.returns-else-there-clause-entries
returns-else-there-clause-entries g c =
    sym (others_fresh g.K.Ord.cmp g.met.K.Ord.total c.args.key.now c.args.self.now.entries c.place_of-place.result c.place_of-place.ensures.sorted c.place_of-place.ensures.place (sym c.is_at-there.ensures ∙ c.if-there.false))

pub invariant_of-self : goal.invariant_of-self
invariant_of-self g c =
    subst (λ xs. is_sorted g.K.Ord.cmp xs ≡ true) (sym (returns-then-there-clause-entries g c))
    (sorted_others g.K.Ord.cmp g.met.K.Ord.total c.args.key.now c.args.self.now.entries c.place_of-place.ensures.sorted)
