-- A line stands for each of the rows so far.
use Rattle.std.proofs.Common.{◌≡◌, ◌++◌, map, take}
use Rattle.std.specs.List.{flat_map}
use Rattle.up_text.specs.Lines.{spaced}
use Rattle.up_text.specs.Replies.{line_behind, row_words}
use Rattle.up_text.proofs.replies.push_rows.Given as goal

abbrev pub invariant-loop-row : goal.invariant-loop-row
invariant-loop-row l =
    l.out.items ≡ l.fn.out.items ++ flat_map (λ words. line_behind l.fn.front (spaced words)) (map (λ row. row_words row) (take l.row-index l.rows))
