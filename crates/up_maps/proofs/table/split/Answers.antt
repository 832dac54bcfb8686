use Rattle.std.proofs.Common.{◌≡◌, ◌<◌, ◌+◌, ◌^◌, List, ℕ, [], length, take, get_or, ap, ◌∙◌, arith}
use Rattle.std.proofs.lemmas.List.{get_or_read, length-take-le}
use Rattle.up_maps.specs.Joined.{before}
use Rattle.up_maps.proofs.Moves.{places_small, cut_made, cut_joined, cut_low, cut_at, placed_cut}
use Rattle.up_maps.proofs.table.split.Goals as goal

pub overflow_add-start : goal.overflow_add-start
overflow_add-start g c =
    let same = c.requires.placed.same in
    let p = c.requires.piece in
    let read = get_or_read c.args.starts.now.items c.args.p c.index.result.now (omega arith) c.index.ensures 0 in
    omega (arith, read, places_small c.args.pieces.now.items c.args.starts.now.items (2 ^ 63) c.args.p c.requires.placed c.requires.small (omega (arith, c.requires.piece)))

-- the front is as long as half a piece
half : {X : Type 0} (pieces : List (List X)) (p : ℕ) (front r : List X) → p < length pieces → 256 < length (get_or pieces p []) → r ≡ get_or pieces p r → front ≡ take 256 r → length front ≡ 256
half pieces p front r within long read is =
    let n = ap length (get_or_read pieces p r within read []) in
    ap length is ∙ length-take-le 256 r (omega arith)

pub returns-clause-items : goal.returns-clause-items
returns-clause-items g c =
    let cut = cut_made c.args.pieces.now.items c.insert.new.self.items c.args.p c.split_into.new.self c.split_into.new.tail c.index_mut.result.now c.requires.piece c.requires.long c.index_mut.ensures.value c.split_into.ensures.front c.split_into.ensures.back c.in-Ok.ensures.items in
    cut_joined c.args.pieces.now.items c.insert.new.self.items c.args.p c.split_into.new.self c.split_into.new.tail cut

pub returns-clause-before : goal.returns-clause-before
returns-clause-before g c =
    let cut = cut_made c.args.pieces.now.items c.insert.new.self.items c.args.p c.split_into.new.self c.split_into.new.tail c.index_mut.result.now c.requires.piece c.requires.long c.index_mut.ensures.value c.split_into.ensures.front c.split_into.ensures.back c.in-Ok.ensures.items in
    cut_low c.args.pieces.now.items c.insert.new.self.items c.args.p c.args.p c.split_into.new.self c.split_into.new.tail cut (omega arith)

pub returns-clause-after : goal.returns-clause-after
returns-clause-after g c =
    let cut = cut_made c.args.pieces.now.items c.insert.new.self.items c.args.p c.split_into.new.self c.split_into.new.tail c.index_mut.result.now c.requires.piece c.requires.long c.index_mut.ensures.value c.split_into.ensures.front c.split_into.ensures.back c.in-Ok.ensures.items in
    cut_at c.args.pieces.now.items c.insert.new.self.items c.args.p c.split_into.new.self c.split_into.new.tail cut
    ∙ ap (λ n. before c.args.pieces.now.items c.args.p + n) (half c.args.pieces.now.items c.args.p c.split_into.new.self c.index_mut.result.now c.requires.piece c.requires.long c.index_mut.ensures.value c.split_into.ensures.front)

pub returns-clause-placed : goal.returns-clause-placed
returns-clause-placed g c =
    let cut = cut_made c.args.pieces.now.items c.insert.new.self.items c.args.p c.split_into.new.self c.split_into.new.tail c.index_mut.result.now c.requires.piece c.requires.long c.index_mut.ensures.value c.split_into.ensures.front c.split_into.ensures.back c.in-Ok.ensures.items in
    let same = c.requires.placed.same in
    let read = get_or_read c.args.starts.now.items c.args.p c.index.result.now (omega (arith, c.requires.piece)) c.index.ensures 0 in
    let long = half c.args.pieces.now.items c.args.p c.split_into.new.self c.index_mut.result.now c.requires.piece c.requires.long c.index_mut.ensures.value c.split_into.ensures.front in
    placed_cut c.args.pieces.now.items c.insert.new.self.items c.args.starts.now.items c.insert-2.new.self.items c.args.p (c.index.result.now + 256) c.split_into.new.self c.split_into.new.tail c.requires.placed cut
    (omega (arith, read, long)) c.in-Ok-insert.ensures.items
