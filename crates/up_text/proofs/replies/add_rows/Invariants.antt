-- A line stands for each of the rows so far.
use Rattle.std.proofs.Common.{◌≡◌, ◌++◌, map, take}
use Rattle.up_text.specs.Lines.{spaced}
use Rattle.up_text.specs.Replies.{row_words}
use Rattle.up_text.proofs.replies.add_rows.Given as goal

abbrev pub invariant-loop-row : goal.invariant-loop-row
invariant-loop-row l =
    l.lines.items ≡ l.fn.lines.items ++ map (λ words. spaced words) (map (λ row. row_words row) (take l.row-index l.rows))
