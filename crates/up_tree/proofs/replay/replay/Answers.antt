use Rattle.std.proofs.Common.{ℕ, List, [], subst}
use Rattle.up_journal.specs.Logs.{log_step}
use Rattle.up_journal.specs.Opened.{IsDamageOf}
use Rattle.up_journal.specs.Records.{replay}
use Rattle.up_log_tree.specs.Fits.{fits}
use Rattle.up_tree.specs.States.{record_in}
use Rattle.up_tree.proofs.replay.replay.Goals as goal

pub returns-in-Err-clause-damaged : goal.returns-in-Err-clause-damaged
returns-in-Err-clause-damaged g c =
    subst (λ (o : List ℕ). IsDamageOf (replay (log_step record_in (fits o)) []) c.args.journal.now.log c.in-Err.why) c.new-tree.ensures.owner c.in-Err.ensures.damaged
