use Rattle.std.proofs.Common.{◌≡◌, None, subst}
use Rattle.up_list.specs.Governing.{governing_file}
use Rattle.up_list.specs.Looks.{Look}
use Rattle.up_list.specs.Rooted.{IsRooted}
use Rattle.up_snap.proofs.LookLemmas.{nothing_governs}
use Rattle.up_snap.proofs.PlacedLemmas.{shown_rooted}
use Rattle.up_snap.proofs.look.SnapLookOnlooker.governing.Goals as goal

pub returns-clause-rooted : goal.returns-clause-rooted
returns-clause-rooted c =
    subst (λ (l : Look). IsRooted l.owner l.tree) c.self.view_is (shown_rooted c.self.inside.tree.now.owner c.self.inside.tree.now.log c.recall.ensures.log)

pub returns-clause-found : goal.returns-clause-found
returns-clause-found c =
    subst (λ (l : Look). None ≡ governing_file l c.args._path.now) c.self.view_is
    (nothing_governs c.self.inside.tree.now.owner c.self.inside.snap_user.now c.self.inside.tree.now.log c.self.inside.user.now c.self.invariant c.args._path.now)
