use Rattle.std.proofs.Common.{◌≡◌, subst}
use Rattle.std.specs.Prelude.{IfOk, option_map}
use Rattle.up_names.specs.PathNames.{extended}
use Rattle.up_list.specs.Entries.{entry_at}
use Rattle.up_list.specs.Founds.{entry_found}
use Rattle.up_list.specs.Looks.{Look}
use Rattle.up_snap.proofs.look.SnapLookOnlooker.item_in.Goals as goal

pub item_named-requires : goal.item_named-requires
item_named-requires c = c.self.invariant.named

pub returns : goal.returns
returns c = subst (λ (l : Look). IfOk c.item_named.result (λ found. option_map entry_found found ≡ entry_at l.tree (extended c.args.dir.now c.args.name.now))) c.self.view_is c.item_named.ensures
