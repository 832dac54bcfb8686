use Rattle.std.proofs.Common.{ap, position, ◌∙◌}
use Rattle.std.specs.Prelude.{is_some}
use Rattle.up_shared.specs.Sharing.{is_cell_of}
use Rattle.up_shared.proofs.Places.{has_same}
use Rattle.up_shared.proofs.caller.CallerLogs.has.Goals as goal

pub returns : goal.returns
returns g c =
    let owner = c.args.owner.now in
    c.is_some.ensures ∙ ap is_some (c.place_among.ensures ∙ ap (position (is_cell_of owner)) c.deref.ensures.value)
    ∙ has_same owner c.args.self.now.shared.now.trees.items c.args.self.now.seats.now.trees.items c.requires.trees
