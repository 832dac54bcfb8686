use Rattle.std.proofs.Common.{◌≡◌, ℕ, ◌+◌, List, IfSome, length, slice_get, arith, subst, sym, rules}
use Rattle.std.specs.List.{AllByRecursion}
use Rattle.std.proofs.lemmas.Grind.{common_steps}
use Rattle.up_lists.specs.Calls.{no_call_made}
use Rattle.up_disk.specs.Memory.{plan_of}
use Rattle.up_disk.specs.Planned.{fails_at}
use Rattle.up_disk.specs.declared.memory.MemDisk.{MemDisk}
use Rattle.up_disk.specs.contracts.memory.MemDiskDisk.TheImpl as memory
use Rattle.up_disk.specs.Leaving.{IsBlank}
use Rattle.up_disk.proofs.BlankLemmas.{all_more, each_more}
use Rattle.up_disk.proofs.blank.blank_disks.Goals as goal

pub loop-place-preserved : goal.loop-place-preserved
loop-place-preserved c =
    let i = c.loop-place.invariant in
    let disks = c.loop-place.disks.disks in
    let disk = c.in_ok-blank_disk.field-0 in
    let more = c.in_ok-push.ensures.disks in
    let at = c.in_ok-blank_disk.ensures.plan in
    record {
      count = grind (arith, common_steps, more, i.count);
      blank = subst (AllByRecursion (IsBlank memory.ghosts)) (sym more) (all_more (IsBlank memory.ghosts) disks disk i.blank c.in_ok-blank_disk.ensures.blank);
      plans = subst (λ (ds : List MemDisk). (place : ℕ) → IfSome (slice_get ds place) (λ d. plan_of d ≡ no_call_made (fails_at place c.args.faults.now))) (sym more)
          (each_more (λ place d. plan_of d ≡ no_call_made (fails_at place c.args.faults.now)) disks disk i.plans
          (subst (λ n. plan_of disk ≡ no_call_made (fails_at n c.args.faults.now)) (sym i.count) at));
    }
