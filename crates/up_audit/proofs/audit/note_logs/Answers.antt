use Rattle.std.proofs.Common.{List, subst, arith}
use Rattle.up_audit.proofs.NoteLemmas.{logs_all, logs_next, notes_none}
use Rattle.up_audit.proofs.audit.note_logs.Goals as goal
use Rattle.up_audit.specs.Audits.{used_in}
use Rattle.up_audit.specs.Marks.{Notes}
use Rattle.up_entry.specs.declared.records.Rec.{Rec}
use Rattle.up_tree.specs.States.{entries_of}

pub loop-tree-init : goal.loop-tree-init
loop-tree-init g c = notes_none c.args.used.now.noted.entries

pub loop-tree-preserved : goal.loop-tree-preserved
loop-tree-preserved g c =
    logs_next entries_of c.args.trees.now c.loop-tree.tree-index c.tree-item.result (omega arith) c.tree-item.is c.loop-tree.invariant
    (subst (λ (log : List Rec). Notes c.loop-tree.used.noted.entries c.note_log.new.used.noted.entries (used_in log)) c.memory.ensures.log c.in_ok-note_log.ensures)

pub returns : goal.returns
returns g c = logs_all entries_of c.args.trees.now c.loop-tree.tree-index (omega arith) c.loop-tree.invariant
