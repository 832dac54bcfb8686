-- What follows from what came of it.
use Rattle.up_audit.proofs.RunLemmas.{complete, later, rose, statuses}
use Rattle.up_audit.proofs.run.audit_within.Goals as goal

pub returns-clause-statuses : goal.returns-clause-statuses
returns-clause-statuses g c = statuses g.D.Disk c.args.limits c.args.owners c.args.disks.now.disks c.audit_logs.new.disks.disks (g.K.Sink.held c.args.sink.now) (g.K.Sink.held c.audit_logs.new.sink) c.audit_logs.result c.audit_logs.ensures.audits

pub returns-clause-disk_fault : goal.returns-clause-disk_fault
returns-clause-disk_fault g c = rose g.D.Disk c.args.limits c.args.owners c.args.disks.now.disks c.audit_logs.new.disks.disks (g.K.Sink.held c.args.sink.now) (g.K.Sink.held c.audit_logs.new.sink) c.audit_logs.result c.audit_logs.ensures.audits

pub returns-clause-disk_counts : goal.returns-clause-disk_counts
returns-clause-disk_counts g c = later g.D.Disk c.args.limits c.args.owners c.args.disks.now.disks c.audit_logs.new.disks.disks (g.K.Sink.held c.args.sink.now) (g.K.Sink.held c.audit_logs.new.sink) c.audit_logs.result c.audit_logs.ensures.audits

pub returns-clause-complete : goal.returns-clause-complete
returns-clause-complete g c =
    complete g.D.Disk c.args.limits c.args.owners c.args.disks.now.disks c.audit_logs.new.disks.disks (g.K.Sink.held c.args.sink.now) (g.K.Sink.held c.audit_logs.new.sink) (g.K.Sink.faults c.args.sink.now) (g.K.Sink.faults c.audit_logs.new.sink)
    c.audit_logs.result c.audit_logs.ensures.audits c.audit_logs.ensures.write_fault
