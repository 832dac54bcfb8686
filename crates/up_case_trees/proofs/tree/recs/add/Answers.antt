use Rattle.std.proofs.Common.{◌≤◌, ◌<◌, ◌-◌, ◌^◌, ℕ, length, min, arith, subst}
use Rattle.up_entry.specs.Spelling as spelling
use Rattle.up_case_trees.proofs.tree.recs.add.Goals as goal

-- a number that is not cut off at a bound is what it was
within : (n most : ℕ) → min n (2 ^ 64 - 1) ≤ most → most < 2 ^ 32 → n ≤ most
within n most short low = grind arith

pub apply-requires-clause-size : goal.apply-requires-clause-size
apply-requires-clause-size c =
    within (length (spelling.rec c.args.rec)) c.args.tree.now.limits.largest
    (subst (λ n. n ≤ c.args.tree.now.limits.largest) c.rec_size.ensures (subst (λ most. c.rec_size.result ≤ most) c.largest.ensures c.if-rec_size-largest.true))
    c.recall.ensures.limits.largest
