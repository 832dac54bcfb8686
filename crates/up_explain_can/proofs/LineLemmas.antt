-- What stands in words stays on one line.
use Rattle.std.proofs.Common.{◌≡◌, ℕ, ◌==◌, ◌<◌, ◌^◌, ◌≤◌, false, List, [], ◌∷◌, ◌++◌, decimal, refl, arith}
use Rattle.std.proofs.lemmas.Bool.{leb-false, ne_eqb, or_from, or_parts}
use Rattle.std.specs.List.{list_any}
use Rattle.up_text.proofs.WordBytes.{coded_word, decimal_visible, free_append}
use Rattle.up_text.specs.Laws.{is_blank}
use Rattle.up_text.specs.Lines.{is_line_end}
use Rattle.up_text.specs.Words.{coded}

visible_line : (word : List ℕ) → list_any is_blank word ≡ false → list_any is_line_end word ≡ false
visible_line [] visible = refl
visible_line (b ∷ bs) visible =
    let parts = or_parts (is_blank b) (list_any is_blank bs) visible in
    let high = leb-false b 32 parts.0 in
    or_from (is_line_end b) (list_any is_line_end bs) (ne_eqb b 10 (λ is. omega (arith, is, high))) (visible_line bs parts.1)

pub coded_line : (text : List ℕ) → list_any is_line_end (coded text) ≡ false
coded_line text = visible_line (coded text) (coded_word text).1

pub decimal_line : (n : ℕ) → n < 2 ^ 64 → list_any is_line_end (decimal n) ≡ false
decimal_line n small = visible_line (decimal n) (decimal_visible n small)

pub joined_line : (one other : List ℕ) → list_any is_line_end one ≡ false → list_any is_line_end other ≡ false → list_any is_line_end (one ++ other) ≡ false
joined_line one other a b = free_append is_line_end one other a b

pub ruleset one_lines = (coded_line, decimal_line, joined_line)
