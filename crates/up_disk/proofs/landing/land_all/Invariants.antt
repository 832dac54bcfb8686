use Rattle.std.proofs.Common.{◌≡◌, drop}
use Rattle.up_disk.specs.Image.{landed_all}
use Rattle.up_disk.proofs.landing.land_all.Given as goal

abbrev pub invariant-loop-call : goal.invariant-loop-call
invariant-loop-call l = landed_all l.landing l.image.items (drop l.call-index l.calls) ≡ landed_all l.landing l.fn.image.items l.calls
