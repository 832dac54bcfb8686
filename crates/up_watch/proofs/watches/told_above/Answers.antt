use Rattle.std.proofs.Common.{◌≡◌, ◌≤◌, List, ℕ, length, sym, ap, subst, ◌∙◌, arith}
use Rattle.std.specs.Prelude.{IfOk}
use Rattle.std.specs.List.{AllByRecursion, filter_map}
use Rattle.up_answers.specs.Watches.{batch}
use Rattle.up_watch.specs.Batches.{IsPosition}
use Rattle.up_watch.specs.Watching.{Watching, told}
use Rattle.up_watch.proofs.Told.{positions_within, watched_above}
use Rattle.up_watch.proofs.watches.told_above.Goals as goal

pub batch-reply-requires-clause-positions : goal.batch-reply-requires-clause-positions
batch-reply-requires-clause-positions c =
    let within : c.args.sequence ≤ length c.args.tree.now.log = omega (arith, c.if-sequence-position.false, c.position.ensures.count) in
    subst (λ (w : Watching). AllByRecursion (IsPosition w.log) c.positions_under-positions.result.now) (sym c.new-reader.ensures)
    (subst (AllByRecursion (IsPosition c.args.tree.now.log)) (sym c.positions_under-positions.ensures) (positions_within c.args.tree.now.log c.args.path.now c.args.sequence within))

pub returns : goal.returns
returns c =
    let within : c.args.sequence ≤ length c.args.tree.now.log = omega (arith, c.if-sequence-position.false, c.position.ensures.count) in
    λ limits. subst (λ m. IfOk c.batch-reply.result (λ reply. reply ≡ m))
    (ap (λ (w : Watching). batch (length w.log) (filter_map (told w) c.positions_under-positions.result.now)) c.new-reader.ensures
    ∙ (ap (λ (positions : List ℕ). batch (length c.args.tree.now.log) (filter_map (told (record { owner = c.args.tree.now.owner; log = c.args.tree.now.log; loaded = c.args.loaded.now; user = c.args.user.now })) positions)) c.positions_under-positions.ensures
    ∙ watched_above c.args.tree.now c.position.ensures.log limits c.args.loaded.now c.args.user.now c.args.path.now c.args.sequence within))
    c.batch-reply.ensures
