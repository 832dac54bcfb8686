use Rattle.std.proofs.Common.{sym, refl}
use Rattle.up_maps.proofs.Moves.{join_made, cut_joined, placed_joined}
use Rattle.up_maps.proofs.table.join.Goals as goal

pub returns-clause-items : goal.returns-clause-items
returns-clause-items g c =
    let ps = c.args.pieces.now.items in
    let cut = join_made ps c.remove-next.new.self.items _ c.args.p c.index_mut.result.now c.remove-next.result c.join.new.self c.args.starts.now.items c.requires.placed c.requires.next c.remove-next.ensures.items
    c.index_mut.ensures.value c.remove-next.ensures.value c.join.ensures refl in
    sym (cut_joined _ ps c.args.p c.index_mut.result.now c.remove-next.result cut)

pub returns-clause-placed : goal.returns-clause-placed
returns-clause-placed g c =
    let ps = c.args.pieces.now.items in
    let cut = join_made ps c.remove-next.new.self.items _ c.args.p c.index_mut.result.now c.remove-next.result c.join.new.self c.args.starts.now.items c.requires.placed c.requires.next c.remove-next.ensures.items
    c.index_mut.ensures.value c.remove-next.ensures.value c.join.ensures refl in
    placed_joined ps _ c.args.starts.now.items c.remove.new.self.items c.args.p c.index_mut.result.now c.remove-next.result c.requires.placed cut c.remove.ensures.items
