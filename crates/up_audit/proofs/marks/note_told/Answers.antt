use Rattle.up_audit.proofs.NoteLemmas.{told_both}
use Rattle.up_audit.proofs.marks.note_told.Goals as goal

pub returns : goal.returns
returns c = told_both c.args.tree.now.log c.args.n c.args.snap c.requires c.in_ok-note_gone.ensures c.in_ok-note_standing.ensures
