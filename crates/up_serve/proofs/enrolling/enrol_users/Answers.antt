-- Each turn does the next line.
use Rattle.std.proofs.Common.{arith, rules}
use Rattle.up_serve.proofs.EnrolLemmas.{enrolling_end, enrolling_first, enrolling_step, enrolling_stop}
use Rattle.up_serve.proofs.enrolling.enrol_users.Goals as goal

pub loop-line-init : goal.loop-line-init
loop-line-init g c = (search (enrolling_first, rules), omega arith)

pub returns-in-Err : goal.returns-in-Err
returns-in-Err g c = enrolling_stop g.D.Disk c.loop-line.invariant.0 c.in-Some.ensures.lines c.in-Err.ensures

pub loop-line-preserved : goal.loop-line-preserved
loop-line-preserved g c =
    let within = c.loop-line.invariant.1 in
    let shorter = c.in-Some.ensures.shorter in
    (enrolling_step g.D.Disk c.loop-line.invariant.0 c.in-Some.ensures.lines c.in_default-do_line.ensures, omega (arith, within, shorter))

pub returns : goal.returns
returns g c = enrolling_end g.D.Disk c.loop-line.invariant.0 c.in_default.ensures.no_line
