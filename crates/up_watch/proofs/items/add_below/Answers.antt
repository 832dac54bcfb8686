use Rattle.std.proofs.Common.{◌++◌, map, sym, ap, ◌∙◌}
use Rattle.std.proofs.lemmas.List.{map-append}
use Rattle.std.proofs.lemmas.Option.{slice_get-map}
use Rattle.std.specs.Prelude.{slice_get}
use Rattle.std.specs.Option.{option_copied, option_map}
use Rattle.up_entry.specs.declared.entries.Entry.{Entry}
use Rattle.up_list.specs.Entries.{entries_in}
use Rattle.up_list.specs.Founds.{entry_found}
use Rattle.up_watch.proofs.ItemsFound.{walks_next}
use Rattle.up_watch.proofs.items.add_below.Goals as goal

-- the items in one more
pub loop-i-preserved : goal.loop-i-preserved
loop-i-preserved g c =
    let tree = (g.O.Onlooker.look c.args.onlooker.now).tree in
    walks_next tree (map entry_found c.args.found.now.items) c.loop-i.i (map entry_found c.loop-i.found.items) (map entry_found c.append.new.self.items) (entry_found c.in-Some.item.now)
    (slice_get-map entry_found c.loop-i.found.items c.loop-i.i
    ∙ ap (option_map entry_found) (sym (ap (λ l. slice_get l c.loop-i.i) c.deref.ensures.value) ∙ (sym c.item_at.ensures ∙ ap option_copied c.in-Some.is)))
    c.loop-i.invariant
    (ap (map entry_found) c.in_ok-append.ensures.items
    ∙ (map-append entry_found c.loop-i.found.items c.in_ok-inside.inside.items
    ∙ ap (λ l. map entry_found c.loop-i.found.items ++ l) (c.in_ok-inside.ensures ∙ ap (λ (e : Entry). entries_in tree e.name) c.entry.ensures)))
