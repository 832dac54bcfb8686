use Rattle.std.proofs.Common.{sym}
use Rattle.std.proofs.lemmas.Option.{slice_get_within}
use Rattle.up_mem_tree.proofs.SlotLemmas.{get-set}
use Rattle.up_mem_tree.proofs.Ways.{noted_more, under_read}
use Rattle.up_mem_tree.proofs.changes_below.note_at.Goals as goal

pub returns-clause-more : goal.returns-clause-more
returns-clause-more c =
    let within = slice_get_within c.args.changes_below.now.items c.args.id c.requires.0 c.requires.1 in
    noted_more c.args.changes_below.now.items c.args.id c.args.position c.index_mut.result.now _ (under_read c.args.changes_below.now.items c.args.id c.index_mut.result.now within c.index_mut.ensures.value) c.push_reserved.ensures.items

pub returns-clause-others : goal.returns-clause-others
returns-clause-others c i apart = get-set c.args.changes_below.now.items c.args.id i _ (λ same. apart (sym same))
