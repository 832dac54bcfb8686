-- A line says nothing, or is bad, or there was no memory to read it.
use Rattle.std.proofs.Common.{◌≡◌, Some, None, rules}
use Rattle.up_serve.proofs.EnrolLemmas.{line_bad, line_silent, line_unread}
use Rattle.up_serve.specs.EnrolLines.{enrol_line}
use Rattle.up_serve.specs.declared.enrol_line.EnrolLine.TheVariants as lines
use Rattle.up_serve.proofs.enrolling.do_line.Goals as goal

pub returns-in-Ok-Some-Silent : goal.returns-in-Ok-Some-Silent
returns-in-Ok-Some-Silent g c =
    let says = c.in-Ok-Some-Silent.ensures.says in
    let found = c.in-Ok-Some-Silent.field-0-is in
    let silent = c.in-Ok-Some-Silent.field-0-0-is in
    let is : Some lines.Silent ≡ enrol_line c.args.line.now = cc in
    line_silent g.D.Disk c.args.host.now c.args.number c.args.line.now is

pub returns-in-Ok-None : goal.returns-in-Ok-None
returns-in-Ok-None g c =
    let says = c.in-Ok-None.ensures.says in
    let found = c.in-Ok-None.field-0-is in
    let is : None ≡ enrol_line c.args.line.now = cc in
    search (line_bad, rules)

pub returns-in-Err : goal.returns-in-Err
returns-in-Err g c = line_unread g.D.Disk c.args.host.now c.args.number c.args.line.now
