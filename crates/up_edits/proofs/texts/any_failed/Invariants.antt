use Rattle.std.proofs.Common.{◌≡◌, drop}
use Rattle.std.specs.List.{list_any}
use Rattle.up_answers.specs.Fetching.{fetch_for, is_failed}
use Rattle.up_edits.proofs.texts.any_failed.Given as goal

-- none so far failed
abbrev pub invariant-loop-block : goal.invariant-loop-block
invariant-loop-block l = list_any (λ block. is_failed (fetch_for l.fetched block)) (drop l.block-index l.blocks) ≡ list_any (λ block. is_failed (fetch_for l.fetched block)) l.blocks
