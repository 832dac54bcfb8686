use Rattle.std.proofs.Common.{◌≡◌, subst}
use Rattle.std.specs.Prelude.{IfOk, is_some}
use Rattle.up_log_tree.specs.Rights.{access_node}
use Rattle.up_list.specs.Looks.{Look}
use Rattle.up_snap.proofs.look.SnapLookOnlooker.has_access.Goals as goal

pub has_access-requires : goal.has_access-requires
has_access-requires c = c.self.invariant.named

pub returns : goal.returns
returns c = subst (λ (l : Look). IfOk c.has_access.result (λ found. found ≡ is_some (access_node l.tree c.args.dir.now))) c.self.view_is c.has_access.ensures
