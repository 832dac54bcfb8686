-- A list cut at the first element that passes a test, and the lines and words that the cut gives.
use Rattle.std.proofs.Common.{◌≡◌, ◌==◌, ℕ, ◌+◌, ◌-◌, ◌<◌, ◌≤◌, Bool, true, false, nat_lt, List, [], ◌∷◌, length, take, drop, cond, not, Option, None, Some, refl, sym, ◌∙◌, ap, arith}
use Rattle.std.specs.List.{position, position_or_len, before_first, after_first, slice_split}
use Rattle.std.proofs.lemmas.Bool.{ltb-true, ltb-false, cond_below, cond_above, ne_eqb}
use Rattle.std.proofs.lemmas.List.{take_rest}
use Rattle.std.proofs.lemmas.Option.{cond_some}
use Rattle.std.proofs.lemmas.List.Sums.{position_or_len_is, prefix_len-le-length, fails_before_first}
use Rattle.std.proofs.lemmas.List.Splits.{slice_split_first, slice_split_none, length-slice_split}
use Rattle.up_text.specs.Lines.{without_empty_last, script_lines, line_words, is_space}
use Rattle.memchr.specs.Find.{IsFirstByte}

-- a test that is not passed
pub failed : (b : Bool) → (b ≡ true → ⊥) → b ≡ false
failed true never = absurd (never refl)
failed false never = refl

-- the first place that passes, as `memchr` finds it
pub position-from_first : (test : ℕ → Bool) (bytes : List ℕ) (found : Option ℕ) → IsFirstByte test bytes found → found ≡ position test bytes
position-from_first test bytes None nowhere =
    let is : position_or_len test bytes ≡ length bytes =
    position_or_len_is test bytes (length bytes) 0 (omega arith) (λ k small. failed _ (nowhere k (omega arith) small)) (λ low. absurd (omega arith)) in
    cond_above (position_or_len test bytes) (length bytes) (Some (position_or_len test bytes)) None None (omega arith) refl
position-from_first test bytes (Some i) first =
    let before = first.0 in
    let is : position_or_len test bytes ≡ i =
    position_or_len_is test bytes i 0 (omega (arith, before.high)) (λ k small. failed _ (before.before k (omega arith) small)) (λ low. first.1) in
    rw is (cond_below i (length bytes) (Some i) None before.high)

pub position-some : (test : ℕ → Bool) (bytes : List ℕ) (i : ℕ) → Some i ≡ position test bytes → (position_or_len test bytes ≡ i) × (i < length bytes)
position-some test bytes i found =
    let parts = cond_some (nat_lt (position_or_len test bytes) (length bytes)) (position_or_len test bytes) i (sym found) in
    let below : position_or_len test bytes < length bytes = ltb-true _ _ parts.0 in
    let is : position_or_len test bytes ≡ i = parts.1 in
    (is, omega arith)

none_from : (b : Bool) (i : ℕ) → None ≡ cond b (Some i) None → b ≡ false
none_from true i e = cc
none_from false i e = refl

pub position-none : (test : ℕ → Bool) (bytes : List ℕ) → None ≡ position test bytes → position_or_len test bytes ≡ length bytes
position-none test bytes found =
    let at_end : length bytes ≤ position_or_len test bytes = ltb-false _ _ (none_from _ _ found) in
    omega (arith, prefix_len-le-length (λ b. not (test b)) bytes)

-- the pieces round the first place that passes
split-some : (test : ℕ → Bool) (bytes : List ℕ) (i : ℕ) → Some i ≡ position test bytes → slice_split test bytes ≡ take i bytes ∷ slice_split test (take (length bytes - (i + 1)) (drop (i + 1) bytes))
split-some test bytes i found =
    let at = position-some test bytes i found in
    let is : position_or_len test bytes ≡ i = at.0 in
    let cut : slice_split test bytes ≡ before_first test bytes ∷ slice_split test (after_first test bytes) = slice_split_first test bytes 0 (omega (arith, at.1)) in
    cut ∙ rw (is, take_rest) refl

split-none : (test : ℕ → Bool) (bytes : List ℕ) → None ≡ position test bytes → slice_split test bytes ≡ bytes ∷ []
split-none test bytes found =
    let is = position-none test bytes found in
    slice_split_none test bytes (λ k d low. fails_before_first test bytes k d (omega arith))

-- the empty text has no line
pub lines-empty : (text : List ℕ) → length text ≡ 0 → script_lines text ≡ []
unfolding script_lines
lines-empty [] none = refl
lines-empty (b ∷ bs) none = absurd (omega (arith, none))

-- a piece that others follow stays
kept-piece : (piece : List ℕ) (pieces : List (List ℕ)) → 0 < length pieces → without_empty_last (piece ∷ pieces) ≡ piece ∷ without_empty_last pieces
kept-piece piece [] some = absurd (omega arith)
kept-piece piece (next ∷ more) some = refl

-- the lines of a text whose first line ends at i
pub lines-some : (text : List ℕ) (i : ℕ) → Some i ≡ position (λ b. b == 10) text → script_lines text ≡ take i text ∷ script_lines (take (length text - (i + 1)) (drop (i + 1) text))
unfolding script_lines
lines-some text i found =
    let rest = take (length text - (i + 1)) (drop (i + 1) text) in
    ap without_empty_last (split-some (λ b. b == 10) text i found)
    ∙ kept-piece (take i text) (slice_split (λ b. b == 10) rest) (omega (arith, length-slice_split (λ b. b == 10) rest))

not-empty : (text : List ℕ) → 0 < length text → cond (length text == 0) [] (text ∷ []) ≡ text ∷ []
not-empty [] some = absurd (omega arith)
not-empty (b ∷ bs) some =
    ap (λ empty. cond empty [] ((b ∷ bs) ∷ [])) (ne_eqb (length (b ∷ bs)) 0 (λ none. omega (arith, none)))

-- the lines of a text of one line that lacks its LF
pub lines-none : (text : List ℕ) → 0 < length text → None ≡ position (λ b. b == 10) text → script_lines text ≡ text ∷ script_lines []
unfolding script_lines
lines-none text some found =
    ap without_empty_last (split-none (λ b. b == 10) text found) ∙ not-empty text some

-- the words of a line whose first word ends at i, and those of a line of one word
pub words-some : (line : List ℕ) (i : ℕ) → Some i ≡ position (λ b. b == 32) line → line_words line ≡ take i line ∷ line_words (take (length line - (i + 1)) (drop (i + 1) line))
unfolding line_words
words-some line i found = split-some (λ b. b == 32) line i found

pub words-none : (line : List ℕ) → None ≡ position (λ b. b == 32) line → line_words line ≡ line ∷ []
unfolding line_words
words-none line found = split-none (λ b. b == 32) line found

-- a line has at least one piece
pub some-words : (line : List ℕ) → 0 < length (line_words line)
unfolding line_words
some-words line = omega (arith, length-slice_split is_space line)
