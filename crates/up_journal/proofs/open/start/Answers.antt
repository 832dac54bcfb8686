use Rattle.up_disk.proofs.Moments.{goes_on, started}
use Rattle.up_journal.proofs.Opened.{new_same, new_torn}
use Rattle.up_journal.proofs.open.start.Goals as goal

pub returns-in_err-write_at-clause-any_moment : goal.returns-in_err-write_at-clause-any_moment
returns-in_err-write_at-clause-any_moment g c only largest =
    let d = g.D.Disk in
    let disk = c.args.disk.now in
    let torn = new_torn largest (d.content disk) (d.size_of disk) (d.may_leave disk) (d.may_leave c.write_at.new.self) (g.met.D.Disk.sized disk) c.requires only c.write_at.ensures.crash in
    let first = started d.moment d.left_since disk _ (λ image left. new_same largest (d.content disk) image (only image (g.met.D.Disk.only_now disk image left))) in
    goes_on d.moment d.left_since disk disk c.write_at.new.self _ _ first c.write_at.ensures.time torn

pub returns-clause-any_moment : goal.returns-clause-any_moment
returns-clause-any_moment g c only largest =
    let d = g.D.Disk in
    let disk = c.args.disk.now in
    let torn = new_torn largest (d.content disk) (d.size_of disk) (d.may_leave disk) (d.may_leave c.write_at.new.self) (g.met.D.Disk.sized disk) c.requires only c.write_at.ensures.crash in
    let first = started d.moment d.left_since disk _ (λ image left. new_same largest (d.content disk) image (only image (g.met.D.Disk.only_now disk image left))) in
    let next = goes_on d.moment d.left_since disk disk c.write_at.new.self _ _ first c.write_at.ensures.time torn in
    goes_on d.moment d.left_since disk c.write_at.new.self c.sync.new.self _ _ next c.sync.ensures.time (λ image left. torn image (c.sync.ensures.crash image left))
