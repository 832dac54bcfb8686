-- Lines, each with its LF, and the lines of a text.
use Rattle.std.proofs.Common.{◌≡◌, ◌≢◌, ◌||◌, ℕ, zero, suc, ◌+◌, ◌<◌, ◌≤◌, Bool, true, false, not, List, [], ◌∷◌, ◌++◌, length, take, cond, refl, ap, subst, ◌∙◌, append_assoc, append-nil, arith}
use Rattle.std.specs.Prelude.{codes}
use Rattle.std.proofs.lemmas.Bool.{eqb-true, ne_eqb}
use Rattle.std.proofs.lemmas.Grind.{flat_map-append, common_steps}
use Rattle.std.proofs.lemmas.List.{take_all}
use Rattle.std.proofs.lemmas.List.Folds.{list_any-append, list_any_none}
use Rattle.std.proofs.lemmas.List.Splits.{length-slice_split, slice_split_at, slice_split_none}
use Rattle.std.proofs.lemmas.List.Sums.{fails_before_first, passes_at_first, prefix_len-le-length, split_at_first}
use Rattle.std.proofs.Math.ListN.{get_or}
use Rattle.std.specs.List.{All, AllByRecursion, after_first, before_first, list_any, position_or_len, slice_split}
use Rattle.up_command.specs.Printed.{ended}
use Rattle.up_names.specs.Texts.{Text}
use Rattle.up_text.specs.Lines.{is_line_end, script_lines, without_empty_last}
use Rattle.up_terminal.specs.Lines.{IsLine, lines_text}

-- no LF stands in a text
abbrev pub IsUnbroken : Text → Type 0
IsUnbroken text = list_any is_line_end text ≡ false

unbroken-tail : (b : ℕ) (bytes : Text) → IsUnbroken (b ∷ bytes) → (is_line_end b ≡ false) × IsUnbroken bytes
unbroken-tail b bytes none = by (is_line_end b) (list_any is_line_end bytes) none
  where
    by : (one more : Bool) → (one || more) ≡ false → (one ≡ false) × (more ≡ false)
    by true more e = absurd (cc)
    by false more e = (refl, e)

-- each byte of it is no LF
pub all_fail : (bytes : Text) → IsUnbroken bytes → All (λ b. is_line_end b ≡ false) bytes
all_fail [] none k d low = absurd (omega arith)
all_fail (b ∷ bytes) none zero d low = (unbroken-tail b bytes none).0
all_fail (b ∷ bytes) none (suc k) d low = all_fail bytes (unbroken-tail b bytes none).1 k d (omega arith)

-- ---- the bytes round the first LF

pub before_is_unbroken : (bytes : Text) → IsUnbroken (before_first is_line_end bytes)
before_is_unbroken bytes =
    list_any_none is_line_end (before_first is_line_end bytes)
    (λ k e m. let k' = fails_before_first is_line_end bytes k e (grind (arith, common_steps)) in grind (arith, common_steps))

pub length-before : (bytes : Text) → length (before_first is_line_end bytes) ≡ position_or_len is_line_end bytes
length-before bytes = let le = prefix_len-le-length (λ b. not (is_line_end b)) bytes in grind (arith, common_steps)

pub cut_at : (bytes : Text) → length (before_first is_line_end bytes) ≢ length bytes → bytes ≡ before_first is_line_end bytes ++ 10 ∷ after_first is_line_end bytes
cut_at bytes shorter =
    let le = prefix_len-le-length (λ b. not (is_line_end b)) bytes in
    let same = length-before bytes in
    let low : position_or_len is_line_end bytes < length bytes = omega (arith, le, same, shorter) in
    let lf : get_or bytes (position_or_len is_line_end bytes) 0 ≡ 10 = eqb-true _ 10 (passes_at_first is_line_end bytes 0 low) in
    split_at_first is_line_end bytes 0 low ∙ ap (λ b. before_first is_line_end bytes ++ b ∷ after_first is_line_end bytes) lf

pub no_cut : (bytes : Text) → length (before_first is_line_end bytes) ≡ length bytes → IsUnbroken bytes
no_cut bytes same =
    let at_end : length bytes ≤ position_or_len is_line_end bytes = omega (arith, same, length-before bytes) in
    subst IsUnbroken (take_all (position_or_len is_line_end bytes) bytes at_end) (before_is_unbroken bytes)

-- the first LF behind a text without one
position_cons : (line more : Text) → IsUnbroken line → position_or_len is_line_end (line ++ 10 ∷ more) ≡ length line
position_cons [] more none = refl
position_cons (b ∷ line) more none =
    let rest = position_cons line more (unbroken-tail b line none).1 in
    ap (λ t. cond (not t) (1 + position_or_len is_line_end (line ++ 10 ∷ more)) 0) (unbroken-tail b line none).0 ∙ omega (arith, rest)

position_none : (line : Text) → IsUnbroken line → position_or_len is_line_end line ≡ length line
position_none [] none = refl
position_none (b ∷ line) none =
    let rest = position_none line (unbroken-tail b line none).1 in
    ap (λ t. cond (not t) (1 + position_or_len is_line_end line) 0) (unbroken-tail b line none).0 ∙ omega (arith, rest)

take_front : (line more : Text) → take (length line) (line ++ more) ≡ line
take_front [] more = refl
take_front (b ∷ line) more = ap (λ bytes. b ∷ bytes) (take_front line more)

pub before_cons : (line more : Text) → IsUnbroken line → before_first is_line_end (line ++ 10 ∷ more) ≡ line
before_cons line more none = ap (λ n. take n (line ++ 10 ∷ more)) (position_cons line more none) ∙ take_front line (10 ∷ more)

pub before_none : (line : Text) → IsUnbroken line → before_first is_line_end line ≡ line
before_none line none = ap (λ n. take n line) (position_none line none) ∙ take_all (length line) line (omega arith)

-- two texts without LF
pub unbroken_append : (one other : Text) → IsUnbroken one → IsUnbroken other → IsUnbroken (one ++ other)
unbroken_append one other first second = list_any-append is_line_end one other ∙ ap (λ b. b || list_any is_line_end other) first ∙ second

-- ---- the lines of a text

-- a piece that others follow stays
kept_piece : (piece : Text) (pieces : List Text) → 0 < length pieces → without_empty_last (piece ∷ pieces) ≡ piece ∷ without_empty_last pieces
kept_piece piece [] some = absurd (omega arith)
kept_piece piece (next ∷ more) some = refl

one_piece : (b : ℕ) (line : Text) → without_empty_last ((b ∷ line) ∷ []) ≡ (b ∷ line) ∷ []
one_piece b line = ap (λ empty. cond empty [] ((b ∷ line) ∷ [])) (ne_eqb (length (b ∷ line)) 0 (λ none. omega (arith, none)))

pub lines_cons : (line more : Text) → IsUnbroken line → script_lines (line ++ 10 ∷ more) ≡ line ∷ script_lines more
unfolding script_lines
lines_cons line more none =
    ap without_empty_last (slice_split_at is_line_end line 10 more (all_fail line none) refl)
    ∙ kept_piece line (slice_split is_line_end more) (omega (arith, length-slice_split is_line_end more))

pub lines_last : (line : Text) → IsUnbroken line → line ≢ [] → script_lines line ≡ line ∷ []
unfolding script_lines
lines_last [] none some = absurd (some refl)
lines_last (b ∷ line) none some = ap without_empty_last (slice_split_none is_line_end (b ∷ line) (all_fail (b ∷ line) none)) ∙ one_piece b line

pub lines_none : script_lines [] ≡ []
unfolding script_lines
lines_none = refl

-- lines that LF ends stand before all others
pub lines_front : (done : List Text) (more : Text) → AllByRecursion IsLine done → script_lines (lines_text done ++ more) ≡ done ++ script_lines more
lines_front [] more each = refl
lines_front (line ∷ done) more each =
    let regroup : lines_text (line ∷ done) ++ more ≡ line ++ 10 ∷ (lines_text done ++ more) =
    append_assoc (ended line) (lines_text done) more ∙ append_assoc line (codes "\n") (lines_text done ++ more) in
    ap script_lines regroup ∙ lines_cons line (lines_text done ++ more) each.0.unbroken ∙ ap (λ lines. line ∷ lines) (lines_front done more each.1)

-- a line more
pub lines_text-snoc : (done : List Text) (line : Text) → lines_text (done ++ line ∷ []) ≡ lines_text done ++ ended line
lines_text-snoc done line = flat_map-append ended done (line ∷ []) ∙ ap (λ text. lines_text done ++ text) (append-nil (ended line))

pub each-snoc : (P : Text → Type 0) (done : List Text) (line : Text) → AllByRecursion P done → P line → AllByRecursion P (done ++ line ∷ [])
each-snoc P [] line each one = (one, tt)
each-snoc P (first ∷ done) line each one = (each.0, each-snoc P done line each.1 one)
