use Rattle.std.proofs.Common.{subst}
use Rattle.std.specs.Map.{keys_of}
use Rattle.up_mem_tree.specs.MemTrees.{TreeLog}
use Rattle.up_mem_tree.specs.Others.{HasAllOthers}
use Rattle.up_mem_tree.proofs.Othered.{has_all}
use Rattle.up_mem_tree.proofs.mem_tree.MemTree.others.Goals as goal

pub returns : goal.returns
returns c =
    let kept = c.self.inside.kept in
    let others = c.self.inside.others in
    subst (λ (v : TreeLog). HasAllOthers v.owner v.log (keys_of others.numbers.entries)) c.self.view_is (has_all kept.owner others kept.log.items c.self.invariant.others)
