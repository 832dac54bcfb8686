use Rattle.std.proofs.Common.{◌≡◌, Option, Some, ap, sym, subst, ◌∙◌}
use Rattle.std.specs.Prelude.{IfOk}
use Rattle.std.specs.Option.{option_map}
use Rattle.up_entry.specs.declared.entries.Entry.{Entry}
use Rattle.up_entry.specs.Showing.{shown_as}
use Rattle.up_rights.specs.RightSets.{Rights}
use Rattle.up_list.specs.Entries.{entry_at}
use Rattle.up_list.specs.Founds.{entry_found}
use Rattle.up_list.specs.Looks.{rights, shown}
use Rattle.up_list.proofs.ItemLemmas.{entry_named}
use Rattle.up_list.proofs.reads.entry_shown.Goals as goal

-- the entry is shown by the rights on its name, which is the path
pub returns-in-Some : goal.returns-in-Some
returns-in-Some g c =
    let look = g.O.Onlooker.look c.args.onlooker.now in
    let path = c.args.path.now in
    let entry : Entry = entry_found c.in-Some.found in
    let there : Some entry ≡ entry_at look.tree path = sym (ap (option_map entry_found) c.in-Some.is) ∙ c.in_ok-found.ensures.found in
    let named : entry.name ≡ path = entry_named look.owner look.tree path entry c.item.ensures.rooted there in
    let whole : c.has.result ≡ (rights look entry.name).read = c.has.ensures ∙ ap (λ (r : Rights). r.read) (c.requires ∙ sym (ap (rights look) named)) in
    subst (λ (o : Option Entry). IfOk c.shown_whole.result (λ e. e ≡ o))
    (ap (λ b. Some (shown_as b entry)) whole ∙ ap (option_map (shown look)) there)
    c.shown_whole.ensures
