use Rattle.std.proofs.Common.{◌≤◌, ◌+◌, length, take}
use Rattle.std.specs.Prelude.{vec_capacity, vec_len}
use Rattle.up_host.specs.Runs.{IsHistory}
use Rattle.up_host.proofs.run.ask_each.Given as goal

-- those before it were made, and there is room for the others
abbrev pub invariant-loop-call : goal.invariant-loop-call
invariant-loop-call g l = record {
  history : IsHistory g.D.Disk g.L.Loader l.fn.host l.fn.loader (take l.call-index l.calls) l.host l.loader l.events.items;
  room : vec_len l.events + length l.calls ≤ vec_capacity l.events + l.call-index;
}
