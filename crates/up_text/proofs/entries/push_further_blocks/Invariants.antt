-- The blocks so far are added, each behind a comma.
use Rattle.std.proofs.Common.{◌≡◌, ◌++◌, codes, take}
use Rattle.std.specs.List.{flat_map}
use Rattle.up_text.specs.Entries.{block_word}
use Rattle.up_text.proofs.entries.push_further_blocks.Given as goal

abbrev pub invariant-loop-block : goal.invariant-loop-block
invariant-loop-block l =
    l.out.items ≡ l.fn.out.items ++ flat_map (λ b. codes "," ++ block_word b) (take l.block-index l.blocks)
