use Rattle.std.proofs.Common.{[]}
use Rattle.up_storm.proofs.Ending.{storm_err, storm_ok}
use Rattle.up_storm.proofs.storm.storm_within.Goals as goal
use Rattle.up_storm.proofs.storm.storm_within.Goals.{in-Ok, in-Err}

pub returns : goal.returns
returns g c = elim c.match-ended.branch [
  | in-Ok w ↦
      storm_ok _ _ [] c.args.plan c.in_ok-host.host c.match-ended.told w.tell-told.result (λ text. text.items) c.in_ok-shared.shared c.in_ok-shared.seats c.end_all-ended.new.seats w.deref.result.now w.in-Ok.said.items
      c.in_ok-host.ensures c.in_ok-shared.ensures.shared c.in_ok-shared.ensures.told w.in-Ok.ensures.ended c.end_all-ended.ensures.sits w.deref.ensures.value w.tell-told.ensures w.told-is
  | in-Err w ↦ storm_err _ _ [] c.args.plan c.in_ok-host.host c.match-ended.told (λ text. text.items) c.in_ok-host.ensures w.told-is
]
