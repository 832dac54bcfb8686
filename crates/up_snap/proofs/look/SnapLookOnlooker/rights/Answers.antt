use Rattle.std.proofs.Common.{◌≡◌, ◌∙◌, ap, subst}
use Rattle.up_list.specs.Looks.{Look, rights}
use Rattle.up_snap.specs.Looked.{held_by}
use Rattle.up_snap.proofs.LookLemmas.{rights_at}
use Rattle.up_snap.proofs.look.SnapLookOnlooker.rights.Goals as goal

pub returns : goal.returns
returns c =
    subst (λ (l : Look). c.held_by.result ≡ rights l c.args._path.now) c.self.view_is
    (c.held_by.ensures ∙ (ap (held_by c.self.inside.user.now) c.owner.ensures ∙ rights_at c.self.inside.tree.now.owner c.self.inside.snap_user.now c.self.inside.tree.now.log c.self.inside.user.now c.self.invariant c.args._path.now))
