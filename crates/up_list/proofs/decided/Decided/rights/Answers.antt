use Rattle.std.proofs.Common.{subst, sym, ap, ◌∙◌}
use Rattle.up_list.specs.Deciding.{IsDecided, with_decided}
use Rattle.up_list.proofs.DecidingLemmas.{decided_more}
use Rattle.up_list.proofs.decided.Decided.rights.Goals as goal

pub returns-clause-kept : goal.returns-clause-kept
returns-clause-kept g c = λ dir is alike.
    let look = g.O.Onlooker.look c.args.onlooker.now in
    subst (IsDecided look dir) (ap (λ b. with_decided c.args.self.now b c.in_ok-held.held) (sym c.is_control-control.ensures) ∙ sym c.set.ensures)
    (decided_more look dir c.args.path.now c.args.self.now c.in_ok-held.held is alike c.in_ok-held.ensures)
