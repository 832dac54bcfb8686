use Rattle.std.proofs.Common.{◌≡◌, take}
use Rattle.up_policy.specs.Marks.{hasher_after}
use Rattle.up_policy.proofs.marks.hash_of.Given as goal

-- the elements so far are hashed
abbrev pub invariant-loop-i : goal.invariant-loop-i
invariant-loop-i l = l.hasher ≡ hasher_after l.fn.keys (take l.i l.path.elements)
