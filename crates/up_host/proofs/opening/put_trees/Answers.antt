use Rattle.std.proofs.Common.{◌≡◌, [], ◌∷◌, ◌++◌, length, map, sym, ap, subst, ◌∙◌, arith, append_assoc}
use Rattle.std.specs.List.{AllByRecursion}
use Rattle.up_host.specs.Opens.{LeavesTree, disk_of}
use Rattle.up_disk.specs.Leaving.{LeavesNow}
use Rattle.up_journal.specs.Logs.{StandsForLog}
use Rattle.up_tree.specs.States.{records_in}
use Rattle.up_host.proofs.opening.put_trees.Goals as goal

pub loop-held-preserved : goal.loop-held-preserved
loop-held-preserved g c =
    let held = c.in-Some.held in
    let rest = c.pop_front.new.self.items in
    let items : c.loop-held.left.items ≡ c.in-Some.held ∷ c.pop_front.new.self.items = c.in-Some.ensures.items in
    let one : LeavesTree g.D.Disk c.in-Some.held =
    subst (λ d. LeavesNow g.D.Disk d (StandsForLog (records_in c.in-Some.held.state.owner c.in-Some.held.state.limits.largest) c.in-Some.held.state.log c.in-Some.held.state.further)) c.into_disk.ensures.disk c.into_disk.ensures.safe
    in
    record {
      disks = ap (λ xs. xs ++ map disk_of rest) (c.put_back.ensures.disks ∙ ap (λ d. c.loop-held.room.disks ++ d ∷ []) c.into_disk.ensures.disk)
          ∙ append_assoc c.loop-held.room.disks (held.state.disk ∷ []) (map disk_of rest)
          ∙ ap (λ xs. c.loop-held.room.disks ++ map disk_of xs) (sym items)
          ∙ c.loop-held.invariant.disks;
      safe = λ all. c.loop-held.invariant.safe (subst (AllByRecursion (LeavesTree g.D.Disk)) (sym items) (one, all));
      spare = let a = c.put_back.ensures.spare in let b = c.loop-held.invariant.spare in let d = ap length items in let e = c.requires in omega (arith, a, b, d, e);
    }
