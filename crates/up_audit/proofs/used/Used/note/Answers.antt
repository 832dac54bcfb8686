-- The reference was put.
use Rattle.std.proofs.Common.{true, ap, ◌∙◌}
use Rattle.std.specs.FinMap.Entries.{put}
use Rattle.up_audit.proofs.NoteLemmas.{put_notes}
use Rattle.up_audit.proofs.used.Used.note.Goals as goal
use Rattle.up_blocks.specs.Records.{reference_cmp}

pub returns : goal.returns
returns c =
    put_notes c.args.self.now.noted.entries c.put_reserved.new.self.entries c.args.reference (c.put_reserved.ensures ∙ ap (put reference_cmp c.args.reference true) c.reserve_one.ensures.entries)
