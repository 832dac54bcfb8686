use Rattle.std.proofs.Common.{◌≡◌, map, subst}
use Rattle.std.specs.Prelude.{IfOk}
use Rattle.up_list.specs.Entries.{entries_in}
use Rattle.up_list.specs.Founds.{entry_found}
use Rattle.up_list.specs.Looks.{Look}
use Rattle.up_snap.proofs.look.SnapLookOnlooker.items_in.Goals as goal

pub items_in-requires : goal.items_in-requires
items_in-requires c = c.self.invariant.named

pub returns : goal.returns
returns c = subst (λ (l : Look). IfOk c.items_in.result (λ found. map entry_found found.items ≡ entries_in l.tree c.args.dir.now)) c.self.view_is c.items_in.ensures
