use Rattle.std.proofs.Common.{◌≡◌, drop}
use Rattle.up_answers.specs.Fetching.{joined_bytes}
use Rattle.up_edits.specs.Texts.{behind}
use Rattle.up_edits.proofs.texts.joined_bytes.Given as goal

-- the bytes so far, with those of what is left behind them
abbrev pub invariant-loop-block : goal.invariant-loop-block
invariant-loop-block l = behind l.text.items (joined_bytes l.fetched (drop l.block-index l.blocks)) ≡ joined_bytes l.fetched l.blocks
