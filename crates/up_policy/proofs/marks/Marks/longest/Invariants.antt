use Rattle.std.proofs.Common.{◌≡◌, ◌≤◌, ◌-◌, length, take}
use Rattle.up_policy.specs.Marks.{hasher_after}
use Rattle.up_policy.proofs.MarkLemmas.{NonePass}
use Rattle.up_policy.proofs.marks.Marks.longest.Given as goal

-- the elements so far are hashed, and no longer prefix among them passes
abbrev pub invariant-loop-len : goal.invariant-loop-len
invariant-loop-len l = record {
  hashed : l.hasher ≡ hasher_after l.self.keys (take l.len l.path.elements);
  within : l.len ≤ length l.path.elements;
  longest_within : l.longest ≤ l.len;
  none : NonePass l.self l.path l.longest l.len;
}

abbrev pub decreases-loop-len : goal.decreases-loop-len
decreases-loop-len l = length l.path.elements - l.len
