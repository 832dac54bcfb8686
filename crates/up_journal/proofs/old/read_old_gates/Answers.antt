use Rattle.std.proofs.Common.{◌≡◌, [], false, Ok, ◌∙◌, ap, arith}
use Rattle.up_journal.proofs.Olds.{gates_within, old_closed}
use Rattle.up_journal.proofs.Opened.{sized_as}
use Rattle.up_journal.proofs.old.read_old_gates.Goals as goal

pub returns-clause-log : goal.returns-clause-log
returns-clause-log g c =
    let d = g.D.Disk in
    let disk = c.args.disk.now in
    let after = c.next_old.new.disk in
    let found = c.next_old.new.found in
    let same = c.next_old.ensures.read.same ∙ c.loop-found.invariant.read.same in
    let device : c.args.device ≡ d.size_of after = omega (arith, c.requires.device, c.loop-found.invariant.read.size, c.next_old.ensures.read.size) in
    let end : c.next_old.result ≡ Ok false = c.in_ok-next_old.was ∙ ap Ok c.if-branch.false in
    rw (← same) (old_closed c.args.largest c.requires.small found.spans.items found.gate [] c.args.device (d.content after) c.in_ok-next_old.ensures.gates
    (sized_as (d.content after) (d.size_of after) c.args.device device (g.met.D.Disk.sized after)) c.requires.long (c.next_old.ensures.closed end))

pub returns-clause-within : goal.returns-clause-within
returns-clause-within g c =
    let found = c.next_old.new.found in
    rw (← c.requires.device) (gates_within c.args.largest found.spans.items found.gate [] c.args.device (g.D.Disk.content c.next_old.new.disk) c.in_ok-next_old.ensures.gates)
