use Rattle.std.proofs.Common.{◌≡◌, drop, take}
use Rattle.up_snap.proofs.old.old_path.Given as goal

-- the elements behind the fourth, as far as they were taken
abbrev pub invariant-loop-i : goal.invariant-loop-i
invariant-loop-i l = l.old ≡ record { owner = l.owner; elements = drop 4 (take l.i l.path.elements) }
