use Rattle.std.proofs.Common.{◌≡◌, drop, false, is_some, IfSome, ◌∙◌, ap, arith, rules}
use Rattle.up_journal.specs.Format2.{format2}
use Rattle.up_journal.specs.Gates.{is_open}
use Rattle.up_journal.specs.Kept.{AreGates, log_seen}
use Rattle.up_journal.specs.Opened.{IsLogOf}
use Rattle.up_journal.proofs.Opened.{begun_opened, gates_closed, if_ok_both, kept_new, log_new, not_synced, read_opened, sized_as}
use Rattle.up_journal.proofs.Runs.{read_both}
use Rattle.up_journal.proofs.open.find.Goals as goal

pub returns-in_err-sync-clause-opened : goal.returns-in_err-sync-clause-opened
returns-in_err-sync-clause-opened g c =
    let e = c.sync.ensures in
    not_synced g.D.Disk g.met.D.Disk.only_now c.args.limits.largest c.args.disk.now c.sync.new.self e.content e.crash e.time _ (search rules)

pub returns-in_err-start-clause-opened : goal.returns-in_err-start-clause-opened
returns-in_err-start-clause-opened g c =
    let e = c.sync.ensures in
    let only = c.in_ok-sync.ensures.durable in
    begun_opened g.D.Disk g.met.D.Disk.only_now c.args.limits.largest c.args.disk.now c.sync.new.self e.content e.crash e.time c.start.new.disk _
    (omega (arith, c.size-device.ensures, e.size, c.if-device.true)) c.start.ensures.told only (c.start.ensures.any_moment only c.args.limits.largest)

pub returns-in_err-check_name-clause-opened : goal.returns-in_err-check_name-clause-opened
returns-in_err-check_name-clause-opened g c =
    let e = c.sync.ensures in
    read_opened g.D.Disk g.met.D.Disk.only_now c.args.limits.largest c.args.disk.now c.sync.new.self e.content e.crash e.time c.check_name.new.disk _ c.in_ok-sync.ensures.durable c.check_name.ensures.read

pub returns-then-device-clause-kept : goal.returns-then-device-clause-kept
returns-then-device-clause-kept g c =
    let start = c.in_ok-start.ensures in
    rw (c.new.ensures.items, c.from_bytes.ensures) (kept_new g.D.Disk c.start.new.disk c.args.limits c.requires start.size start.begun start.durable)

pub returns-then-device-clause-log : goal.returns-then-device-clause-log
returns-then-device-clause-log g c =
    let d = g.D.Disk in
    let disk = c.args.disk.now in
    rw c.new.ensures.items (log_new c.args.limits.largest (d.content disk) (d.content c.start.new.disk) (d.size_of disk) (g.met.D.Disk.sized disk)
    (omega (arith, c.size-device.ensures, c.sync.ensures.size, c.if-device.true)) (c.start.ensures.told ∙ ap is_some c.sync.ensures.content))

pub returns-then-device-clause-opened : goal.returns-then-device-clause-opened
returns-then-device-clause-opened g c =
    let e = c.sync.ensures in
    let only = c.in_ok-sync.ensures.durable in
    begun_opened g.D.Disk g.met.D.Disk.only_now c.args.limits.largest c.args.disk.now c.sync.new.self e.content e.crash e.time c.start.new.disk _
    (omega (arith, c.size-device.ensures, e.size, c.if-device.true)) c.start.ensures.told only (c.start.ensures.any_moment only c.args.limits.largest)

pub returns-clause-opened : goal.returns-clause-opened
returns-clause-opened g c =
    let e = c.sync.ensures in
    read_opened g.D.Disk g.met.D.Disk.only_now c.args.limits.largest c.args.disk.now c.sync.new.self e.content e.crash e.time c.read_gates.new.disk _ c.in_ok-sync.ensures.durable
    (read_both g.D.Disk g.met.D.Disk.only_now c.sync.new.self c.check_name.new.disk c.read_gates.new.disk c.check_name.ensures.read c.read_gates.ensures.read)

pub returns-clause-log : goal.returns-clause-log
returns-clause-log g c =
    let d = g.D.Disk in
    let disk = c.args.disk.now in
    let after = c.read_gates.new.disk in
    let largest = c.args.limits.largest in
    let same = c.read_gates.ensures.read.same ∙ c.check_name.ensures.read.same ∙ c.sync.ensures.content in
    let device : c.size-device.result ≡ d.size_of after = omega (arith, c.size-device.ensures, c.check_name.ensures.read.size, c.read_gates.ensures.read.size) in
    rw (← same) (if_ok_both c.read_gates.result
    (λ found. AreGates format2 largest found.spans.items found.gate found.head c.size-device.result (d.content after))
    (λ found. IfSome (d.content after) (λ bytes. is_open (drop found.gate bytes) ≡ false))
    (λ found. IsLogOf largest (d.content after) (log_seen (d.content after) found.spans.items))
    (λ found gates closed. gates_closed largest c.requires.largest found.spans.items found.gate found.head c.size-device.result (d.content after) gates (sized_as (d.content after) (d.size_of after) c.size-device.result device (g.met.D.Disk.sized after)) closed)
    c.read_gates.ensures.gates c.read_gates.ensures.closed)
