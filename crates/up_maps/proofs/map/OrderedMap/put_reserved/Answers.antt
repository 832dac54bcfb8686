use Rattle.std.proofs.Common.{◌≡◌, true, ap, subst, sym, ◌∙◌, slice_get}
use Rattle.std.specs.FinMap.Entries.{is_sorted}
use Rattle.std.specs.List.{insert, remove}
use Rattle.up_maps.proofs.PlaceLemmas.{put_fresh, put_there, sorted_put}
use Rattle.up_maps.proofs.map.OrderedMap.put_reserved.Goals as goal

pub returns-then-is_at : goal.returns-then-is_at
returns-then-is_at g c =
    let i = c.place_of-place.result in
    let now = c.args.self.now.entries in
    let entry = c.remove-kept.result in
    let same : c.self.inside.entries.items ≡ now = ap (λ m. m.entries) c.self.view_is in
    let there = ap (λ xs. slice_get xs i) (sym same) ∙ c.remove-kept.ensures.item in
    c.insert_reserved.ensures.items ∙ ap (λ xs. insert xs i (entry.0, c.args.value)) (c.remove-kept.ensures.items ∙ ap (λ xs. remove xs i) same)
    ∙ sym (put_there g.K.Ord.cmp g.met.K.Ord.total c.args.key c.args.value now i entry c.place_of-place.ensures.place there (sym c.is_at.ensures ∙ c.if-is_at.true))

pub returns-else-is_at : goal.returns-else-is_at
returns-else-is_at g c =
    let i = c.place_of-place.result in
    let now = c.args.self.now.entries in
    let same : c.self.inside.entries.items ≡ now = ap (λ m. m.entries) c.self.view_is in
    c.insert_reserved-else-is_at.ensures.items ∙ ap (λ xs. insert xs i (c.args.key, c.args.value)) same
    ∙ sym (put_fresh g.K.Ord.cmp g.met.K.Ord.total c.args.key c.args.value now i c.place_of-place.ensures.place (sym c.is_at.ensures ∙ c.if-is_at.false))

pub invariant_of-self : goal.invariant_of-self
invariant_of-self g c =
    subst (λ xs. is_sorted g.K.Ord.cmp xs ≡ true) (sym (returns-then-is_at g c))
    (sorted_put g.K.Ord.cmp g.met.K.Ord.total c.args.key c.args.value c.args.self.now.entries c.place_of-place.ensures.sorted)

pub invariant_of-self-else-is_at : goal.invariant_of-self-else-is_at
invariant_of-self-else-is_at g c =
    subst (λ xs. is_sorted g.K.Ord.cmp xs ≡ true) (sym (returns-else-is_at g c))
    (sorted_put g.K.Ord.cmp g.met.K.Ord.total c.args.key c.args.value c.args.self.now.entries c.place_of-place.ensures.sorted)
