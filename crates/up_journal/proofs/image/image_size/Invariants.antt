use Rattle.std.proofs.Common.{◌≡◌, ◌≤◌, ◌+◌, ◌^◌, take}
use Rattle.up_journal.specs.Journal.{gate_behind}
use Rattle.up_journal.specs.Kept.{sizes_of}
use Rattle.up_journal.specs.Moving.{KeepUpTo}
use Rattle.up_journal.proofs.image.image_size.Given as goal

abbrev pub invariant-loop-n : goal.invariant-loop-n
invariant-loop-n l = record {
  place : l.gate ≡ gate_behind (take l.n (sizes_of l.spans));
  small : l.gate + 1 ≤ 2 ^ 62;
  kept : KeepUpTo l.limits (sizes_of l.spans) l.n;
}
