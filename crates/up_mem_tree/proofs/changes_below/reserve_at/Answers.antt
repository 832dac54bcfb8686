use Rattle.std.proofs.Common.{sym}
use Rattle.up_mem_tree.proofs.Reserved.{on_ok}
use Rattle.up_mem_tree.proofs.SlotLemmas.{get-set, get_set}
use Rattle.up_mem_tree.proofs.Ways.{noted_set, under_read}
use Rattle.up_mem_tree.proofs.changes_below.reserve_at.Goals as goal

pub returns-clause-same : goal.returns-clause-same
returns-clause-same c =
    noted_set c.args.changes_below.now.items c.args.id c.index_mut.result.now _ (under_read c.args.changes_below.now.items c.args.id c.index_mut.result.now c.requires c.index_mut.ensures.value) c.reserve_one.ensures.items

pub returns-clause-others : goal.returns-clause-others
returns-clause-others c i apart = get-set c.args.changes_below.now.items c.args.id i _ (λ same. apart (sym same))

pub returns-clause-room : goal.returns-clause-room
returns-clause-room c = on_ok c.reserve_one.result (λ room. (
  _,
  get_set c.args.changes_below.now.items c.args.id c.index_mut.result.now _ (under_read c.args.changes_below.now.items c.args.id c.index_mut.result.now c.requires c.index_mut.ensures.value),
  room,
)) c.reserve_one.ensures.room
