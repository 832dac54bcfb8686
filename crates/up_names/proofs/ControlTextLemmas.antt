-- Lines and words taken off the front of a text.
use Rattle.std.proofs.Common.{◌≡◌, ◌∙◌, ℕ, ◌+◌, ◌-◌, ◌<◌, Bool, true, false, not, cond, List, [], ◌∷◌, length, take, drop, refl, ap, sym, Option, Some, None, arith, subst, one-add, suc, get_or}
use denote.Ref.{Bor}
use Rattle.std.proofs.Math.Seq.{drop-length, drop-cons}
use Rattle.std.proofs.lemmas.Bool.{ltb-true, not-true}
use Rattle.std.proofs.Math.Numerals.{suc-eq-add-one}
use Rattle.std.proofs.lemmas.List.Sums.{passes_at_first}
use Rattle.std.proofs.lemmas.Slice.{between_to_end}
use Rattle.std.specs.List.{list_any, before_first, after_first, position_or_len, position}
use Rattle.std.specs.Option.{MatchOption, option_copied}
use Rattle.up_names.specs.ControlTexts.{control_lines, words_in, line_of, is_gap, is_line_feed}
use Rattle.up_names.proofs.CutLemmas.{before_first-all, list_any-placed, place_is, no_place, position_or_len-none, slice_split-whole, slice_split-cut}

-- a text of one line
lines_whole : (text : List ℕ) → list_any is_line_feed text ≡ false → control_lines text ≡ line_of text ∷ []
unfolding control_lines
lines_whole text none = rw (slice_split-whole is_line_feed text none) refl

-- a text of several: the first, and those of the rest
lines_cut : (text : List ℕ) → list_any is_line_feed text ≡ true → control_lines text ≡ line_of (before_first is_line_feed text) ∷ control_lines (after_first is_line_feed text)
unfolding control_lines
lines_cut text any = rw (slice_split-cut is_line_feed text any) refl

-- what a cut at the first LF tells of the lines
pub first_line : (text line : List ℕ) (rest : Option (Bor (List ℕ))) → line ≡ line_of (before_first is_line_feed text) → option_copied rest ≡ cond (list_any is_line_feed text) (Some (after_first is_line_feed text)) None → MatchOption rest (control_lines text ≡ line ∷ []) (λ r. control_lines text ≡ line ∷ control_lines r.now)
first_line text line rest same behind = at rest (list_any is_line_feed text) refl behind
  where
    at : (o : Option (Bor (List ℕ))) (b : Bool) → list_any is_line_feed text ≡ b → option_copied o ≡ cond b (Some (after_first is_line_feed text)) None → MatchOption o (control_lines text ≡ line ∷ []) (λ r. control_lines text ≡ line ∷ control_lines r.now)
    at None true any e = absurd (cc)
    at None false none e =
        let all : before_first is_line_feed text ≡ text = before_first-all is_line_feed text none in
        lines_whole text none ∙ ap (λ l. l ∷ []) (ap line_of (sym all) ∙ sym same)
    at (Some r) true any e =
        let behind : r.now ≡ after_first is_line_feed text = cc in
        rw (behind, same) (lines_cut text any)
    at (Some r) false none e = absurd (cc)

pub ruleset lines = (first_line)

-- no gap stands in front: the words of a line are those from its first word on
words_in-empty : words_in [] ≡ []
unfolding words_in
words_in-empty = refl

words_in-gap : (b : ℕ) (line : List ℕ) → is_gap b ≡ true → words_in (b ∷ line) ≡ words_in line
unfolding words_in
words_in-gap b line gap = rw gap refl

words_in-begun : (line : List ℕ) → words_in line ≡ words_in (drop (position_or_len (λ b. not (is_gap b)) line) line)
words_in-begun [] = refl
words_in-begun (b ∷ line) = at (is_gap b) refl (words_in-begun line)
  where
    at : (t : Bool) → is_gap b ≡ t → words_in line ≡ words_in (drop (position_or_len (λ b. not (is_gap b)) line) line) → words_in (b ∷ line) ≡ words_in (drop (cond (not (not t)) (1 + position_or_len (λ b. not (is_gap b)) line) 0) (b ∷ line))
    at true gap rest = rw one-add (words_in-gap b line gap ∙ rest)
    at false _ rest = refl

words_in-none : (line : List ℕ) → list_any (λ b. not (is_gap b)) line ≡ false → words_in line ≡ []
words_in-none line none =
    let all = position_or_len-none (λ b. not (is_gap b)) line none in
    words_in-begun line ∙ ap words_in (ap (λ n. drop n line) all ∙ drop-length line) ∙ words_in-empty

words_in-last : (b : ℕ) (line : List ℕ) → is_gap b ≡ false → list_any is_gap (b ∷ line) ≡ false → words_in (b ∷ line) ≡ (b ∷ line) ∷ []
unfolding words_in
words_in-last b line begins none = rw (slice_split-whole is_gap (b ∷ line) none) refl

words_in-first : (b : ℕ) (line : List ℕ) → is_gap b ≡ false → list_any is_gap (b ∷ line) ≡ true → words_in (b ∷ line) ≡ before_first is_gap (b ∷ line) ∷ words_in (after_first is_gap (b ∷ line))
unfolding words_in
words_in-first b line begins any = rw (slice_split-cut is_gap (b ∷ line) any, begins, one-add) refl

-- the gap behind a word may stay in front of the rest
words_in-rest : (line : List ℕ) → list_any is_gap line ≡ true → words_in (drop (position_or_len is_gap line) line) ≡ words_in (after_first is_gap line)
words_in-rest line any =
    let placed : position_or_len is_gap line < length line = ltb-true (position_or_len is_gap line) (length line) (sym (list_any-placed is_gap line) ∙ any) in
    ap words_in (drop-cons line (position_or_len is_gap line) 0 placed) ∙ words_in-gap (get_or line (position_or_len is_gap line) 0) (drop (suc (position_or_len is_gap line)) line) (passes_at_first is_gap line 0 placed)
    ∙ ap (λ n. words_in (drop n line)) (suc-eq-add-one (position_or_len is_gap line))

-- a line from its first word on
record IsBegun (line begun : List ℕ) : Type 0 where
  words : words_in line ≡ words_in begun
  first : ℕ
  rest : List ℕ
  no_gap : is_gap first ≡ false
  same : begun ≡ first ∷ rest

begun_at : (line : List ℕ) (start : ℕ) → Some start ≡ position (λ b. not (is_gap b)) line → IsBegun line (take (length line - start) (drop start line))
begun_at line start found =
    let n = position_or_len (λ b. not (is_gap b)) line in
    let place = place_is n (length line) start found in
    let placed : n < length line = ltb-true n (length line) place.1 in
    let all : take (length line - start) (drop start line) ≡ drop n line = between_to_end line start (length line) (omega arith) ∙ ap (λ k. drop k line) place.0 in
    record {
      words = words_in-begun line ∙ ap words_in (sym all);
      first = get_or line n 0;
      rest = drop (suc n) line;
      no_gap = not-true _ (passes_at_first (λ b. not (is_gap b)) line 0 placed);
      same = all ∙ drop-cons line n 0 placed;
    }

word_cut-begun : (b : ℕ) (rest : List ℕ) (stop : ℕ) → is_gap b ≡ false → Some stop ≡ position is_gap (b ∷ rest) → words_in (b ∷ rest) ≡ take stop (b ∷ rest) ∷ words_in (drop stop (b ∷ rest))
word_cut-begun b rest stop begins found =
    let place = place_is (position_or_len is_gap (b ∷ rest)) (length (b ∷ rest)) stop found in
    let any : list_any is_gap (b ∷ rest) ≡ true = list_any-placed is_gap (b ∷ rest) ∙ place.1 in
    let P : ℕ → Type 0 = λ n. words_in (b ∷ rest) ≡ take n (b ∷ rest) ∷ words_in (drop n (b ∷ rest)) in
    subst P (sym place.0) (words_in-first b rest begins any ∙ ap (λ ws. before_first is_gap (b ∷ rest) ∷ ws) (sym (words_in-rest (b ∷ rest) any)))

word_cut : (begun : List ℕ) (b : ℕ) (rest : List ℕ) (stop : ℕ) → begun ≡ b ∷ rest → is_gap b ≡ false → Some stop ≡ position is_gap begun → words_in begun ≡ take stop begun ∷ words_in (drop stop begun)
word_cut begun b rest stop same begins found =
    let P : List ℕ → Type 0 = λ xs. Some stop ≡ position is_gap xs → words_in xs ≡ take stop xs ∷ words_in (drop stop xs) in
    subst P (sym same) (λ e. word_cut-begun b rest stop begins e) found

word_whole : (begun : List ℕ) (b : ℕ) (rest : List ℕ) → begun ≡ b ∷ rest → is_gap b ≡ false → None ≡ position is_gap begun → words_in begun ≡ begun ∷ words_in []
word_whole begun b rest same begins found =
    let P : List ℕ → Type 0 = λ xs. None ≡ position is_gap xs → words_in xs ≡ xs ∷ words_in [] in
    subst P (sym same) (λ e. words_in-last b rest begins (list_any-placed is_gap (b ∷ rest) ∙ no_place _ _ e) ∙ ap (λ ws. (b ∷ rest) ∷ ws) (sym words_in-empty)) found

-- what the places of a word's ends tell
pub first_word-none : (line : List ℕ) → None ≡ position (λ b. not (is_gap b)) line → words_in line ≡ []
first_word-none line found = words_in-none line (list_any-placed (λ b. not (is_gap b)) line ∙ no_place _ _ found)

pub first_word-cut : (line : List ℕ) (start stop : ℕ) → Some start ≡ position (λ b. not (is_gap b)) line → Some stop ≡ position is_gap (take (length line - start) (drop start line)) → words_in line ≡ take stop (take (length line - start) (drop start line)) ∷ words_in (take (length (take (length line - start) (drop start line)) - stop) (drop stop (take (length line - start) (drop start line))))
first_word-cut line start stop found ended =
    let begun = begun_at line start found in
    let behind : take (length (take (length line - start) (drop start line)) - stop) (drop stop (take (length line - start) (drop start line))) ≡ drop stop (take (length line - start) (drop start line)) = between_to_end (take (length line - start) (drop start line)) stop (length (take (length line - start) (drop start line))) (omega arith) in
    begun.words ∙ word_cut (take (length line - start) (drop start line)) begun.first begun.rest stop begun.same begun.no_gap ended ∙ ap (λ xs. take stop (take (length line - start) (drop start line)) ∷ words_in xs) (sym behind)

pub first_word-whole : (line : List ℕ) (start : ℕ) → Some start ≡ position (λ b. not (is_gap b)) line → None ≡ position is_gap (take (length line - start) (drop start line)) → words_in line ≡ take (length line - start) (drop start line) ∷ words_in []
first_word-whole line start found ended =
    let begun = begun_at line start found in
    begun.words ∙ word_whole (take (length line - start) (drop start line)) begun.first begun.rest begun.same begun.no_gap ended

pub ruleset words = (first_word-none, first_word-cut, first_word-whole)
