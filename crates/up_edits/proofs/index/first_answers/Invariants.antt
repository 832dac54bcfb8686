use Rattle.std.proofs.Common.{drop}
use Rattle.up_edits.specs.Places.{AreFirst}
use Rattle.up_edits.proofs.index.first_answers.Given as goal

-- with what is left behind them
abbrev pub invariant-loop-pair : goal.invariant-loop-pair
invariant-loop-pair l = AreFirst l.answers.entries (drop l.pair-index l.fetched) l.fetched
