use Rattle.std.proofs.Common.{◌≡◌, [], ◌∷◌, ◌++◌, length, map, sym, ap, subst, ◌∙◌, arith, append_assoc}
use Rattle.std.specs.List.{AllByRecursion}
use Rattle.up_disk.specs.Leaving.{LeavesNow}
use Rattle.up_journal.specs.Logs.{StandsForLog}
use Rattle.up_reports.proofs.opening.put_trees.Goals as goal
use Rattle.up_reports.specs.Opens.{LeavesTree, disk_of}
use Rattle.up_tree.specs.States.{records_in}

pub loop-state-preserved : goal.loop-state-preserved
loop-state-preserved g c =
    let state = c.in-Some.state in
    let rest = c.pop_front.new.self.items in
    let items : c.loop-state.left.items ≡ c.in-Some.state ∷ c.pop_front.new.self.items = c.in-Some.ensures.items in
    let one : LeavesTree g.D.Disk c.in-Some.state =
    subst (λ d. LeavesNow g.D.Disk d (StandsForLog (records_in c.in-Some.state.owner c.in-Some.state.limits.largest) c.in-Some.state.log c.in-Some.state.further)) c.into_disk.ensures.disk c.into_disk.ensures.safe
    in
    record {
      disks = ap (λ xs. xs ++ map disk_of rest) (c.put_back.ensures.disks ∙ ap (λ d. c.loop-state.disks.disks ++ d ∷ []) c.into_disk.ensures.disk)
          ∙ append_assoc c.loop-state.disks.disks (state.disk ∷ []) (map disk_of rest)
          ∙ ap (λ xs. c.loop-state.disks.disks ++ map disk_of xs) (sym items)
          ∙ c.loop-state.invariant.disks;
      safe = λ all. c.loop-state.invariant.safe (subst (AllByRecursion (LeavesTree g.D.Disk)) (sym items) (one, all));
      spare = let a = c.put_back.ensures.spare in let b = c.loop-state.invariant.spare in let d = ap length items in let e = c.requires in omega (arith, a, b, d, e);
    }
