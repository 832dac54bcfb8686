use Rattle.std.proofs.Common.{◌≡◌, take}
use Rattle.std.specs.Prelude.{map}
use Rattle.up_shared.proofs.Halves.{owner_of}
use Rattle.up_shared.proofs.splitting.owners_of.Given as goal

-- the owners so far are those of the trees so far
abbrev pub invariant-loop-tree : goal.invariant-loop-tree
invariant-loop-tree g l = l.owners.items ≡ map owner_of (take l.tree-index l.trees)
