use Rattle.std.proofs.Common.{map, sym, ap, subst, ◌∙◌}
use Rattle.std.specs.List.{AllByRecursion, filter_map}
use Rattle.up_list.specs.Founds.{entry_found}
use Rattle.up_list.specs.Looks.{Look}
use Rattle.up_list.specs.Places.{IsOwned}
use Rattle.up_list.specs.Rooted.{IsRooted}
use Rattle.up_watch.specs.Items.{IsClosed}
use Rattle.up_watch.specs.Watching.{item_told, now}
use Rattle.up_watch.proofs.ItemsFound.{found_owned, items_sorted}
use Rattle.up_watch.proofs.items.items_under.Goals as goal

pub items_told-requires-clause-owned : goal.items_told-requires-clause-owned
items_told-requires-clause-owned g c =
    let look = now c.args.reader.now in
    let rooted : IsRooted look.owner look.tree = subst (λ (l : Look). IsRooted l.owner l.tree) c.requires.look c.in_ok-found.ensures.rooted in
    let closed : IsClosed look.tree c.args.path.now (map entry_found c.in_ok-found.found.items) = subst (λ (l : Look). IsClosed l.tree c.args.path.now (map entry_found c.in_ok-found.found.items)) c.requires.look c.in_ok-found.ensures.closed in
    subst (λ found. AllByRecursion (IsOwned look) (map entry_found found)) (sym c.deref.ensures.value) (found_owned look rooted c.args.path.now (map entry_found c.in_ok-found.found.items) closed)

pub returns : goal.returns
returns g c =
    let look = now c.args.reader.now in
    let rooted : IsRooted look.owner look.tree = subst (λ (l : Look). IsRooted l.owner l.tree) c.requires.look c.in_ok-found.ensures.rooted in
    let closed : IsClosed look.tree c.args.path.now (map entry_found c.in_ok-found.found.items) = subst (λ (l : Look). IsClosed l.tree c.args.path.now (map entry_found c.in_ok-found.found.items)) c.requires.look c.in_ok-found.ensures.closed in
    items_sorted look rooted c.args.path.now (map entry_found c.in_ok-found.found.items) c.in_ok-events.events.items c.sort_events.new.events.items closed
    (c.in_ok-events.ensures ∙ ap (λ found. filter_map (item_told look) (map entry_found found)) c.deref.ensures.value)
    c.in_ok-sort_events.ensures.sorted c.sort_events.ensures.stable c.sort_events.ensures.len
