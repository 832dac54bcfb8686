-- Some first lines were done.
use Rattle.std.proofs.Common.{◌+◌, ◌≤◌, length}
use Rattle.up_text.specs.Lines.{script_lines}
use Rattle.up_serve.proofs.EnrolLemmas.{Enrolling}
use Rattle.up_serve.proofs.enrolling.enrol_users.Given as goal

abbrev pub invariant-loop-line : goal.invariant-loop-line
invariant-loop-line g l =
    Enrolling g.D.Disk l.fn.text l.fn.host l.host l.number (script_lines l.rest) × (l.number + length l.rest ≤ length l.fn.text + 1)

abbrev pub decreases-loop-line : goal.decreases-loop-line
decreases-loop-line g l = length l.rest
