use Rattle.std.proofs.Common.{◌≡◌, ◌++◌, ◌∷◌, [], ap, sym, ◌∙◌, arith}
use Rattle.std.proofs.Math.ListN.{get_or}
use Rattle.up_disk.proofs.BlankLemmas.{fails_passed, fails_taken}
use Rattle.up_disk.proofs.blank.fails_of.Goals as goal
use Rattle.up_disk.proofs.blank.fails_of.Goals.{then-fault-place+in_ok-push, else-fault-place}

pub loop-fault-preserved : goal.loop-fault-preserved
loop-fault-preserved c = elim c.if-fault-place.branch [
  | then-fault-place+in_ok-push w ↦
      w.fails-is ∙ w.in_ok-push.ensures.items ∙ ap (λ fails. fails ++ (get_or c.args.faults.now c.loop-fault.fault-index (record { disk = 0; call = 0 })).call ∷ []) c.loop-fault.invariant
      ∙ sym (fails_taken c.args.place c.loop-fault.fault-index c.args.faults.now (record { disk = 0; call = 0 }) c.loop-fault-test.true w.if-fault-place.true)
  | else-fault-place w ↦
      w.fails-is ∙ c.loop-fault.invariant ∙ sym (fails_passed c.args.place c.loop-fault.fault-index c.args.faults.now (record { disk = 0; call = 0 }) c.loop-fault-test.true w.if-fault-place.false)
]
