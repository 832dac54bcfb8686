use Rattle.std.proofs.Common.{◌≡◌, ◌++◌, ◌-◌, ◌∷◌, min, [], ap, arith, drop, sym, take, ◌∙◌}
use Rattle.up_entry.specs.Spelling as spelling
use Rattle.up_feed.proofs.BatchLemmas.{batch_grows, batch_whole}
use Rattle.up_feed.proofs.batch.batch_in.Goals as goal
use Rattle.up_feed.specs.Feeding.{texts_of}

pub loop-at-preserved : goal.loop-at-preserved
loop-at-preserved g c =
    c.in_ok-add_record.ensures ∙ ap (λ b. b ++ spelling.rec c.in-Some.rec.now ∷ []) c.loop-at.invariant
    ∙ sym (batch_grows c.args.from c.loop-at.at c.args.tree.now.log c.in-Some.rec.now (sym c.in-Some.ensures))

pub returns : goal.returns
returns g c =
    let end : c.loop-at.at ≡ c.min-more.result = omega (arith, c.loop-at.auto.at-end, c.loop-at-test.false) in
    c.loop-at.invariant ∙ ap (λ n. take n (drop c.args.from (texts_of c.args.tree.now.log))) end
    ∙ batch_whole c.args.from c.min-more.result c.args.tree.now.log (c.min-more.ensures ∙ ap (λ n. min 64 n) (c.saturating_sub.ensures ∙ ap (λ n. n - c.args.from) c.position.ensures.count))
