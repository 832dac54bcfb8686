use Rattle.std.proofs.Common.{◌≡◌, subst}
use Rattle.std.specs.Prelude.{IfOk}
use Rattle.up_log_tree.specs.Trees.{node_at}
use Rattle.up_list.specs.Reads.{file_text}
use Rattle.up_list.specs.Looks.{Look}
use Rattle.up_snap.proofs.look.SnapLookOnlooker.text.Goals as goal

pub text_at-requires : goal.text_at-requires
text_at-requires c = c.self.invariant.named

pub returns : goal.returns
returns c = subst (λ (l : Look). IfOk c.text_at.result (λ found. found ≡ file_text (node_at l.tree c.args.path.now))) c.self.view_is c.text_at.ensures
