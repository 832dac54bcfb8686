use Rattle.std.proofs.Common.{◌≡◌, drop}
use Rattle.up_disk.specs.Pending.{content_after}
use Rattle.up_disk.proofs.landing.redo_all.Given as goal

abbrev pub invariant-loop-call : goal.invariant-loop-call
invariant-loop-call l = content_after l.bytes.items (drop l.call-index l.calls) ≡ content_after l.fn.bytes.items l.calls
