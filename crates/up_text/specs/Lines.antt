-- How a script is cut into lines, which of them say nothing, and how a line is cut into words.
use Rattle.std.specs.Prelude.{ℕ, Bool, true, ◌==◌, List, [], ◌∷◌, Option, None, Some, length, if◌then◌else◌, ◌++◌, codes}
use Rattle.std.specs.List.{flat_map, join_by, slice_split}

-- this project's own: LF ends a line
abbrev pub is_line_end : ℕ → Bool
is_line_end b = b == 10

-- this project's own: a space parts two words
abbrev pub is_space : ℕ → Bool
is_space b = b == 32

-- the pieces, without the last one where that is empty
abbrev pub without_empty_last : List (List ℕ) → List (List ℕ)
without_empty_last [] = []
without_empty_last (last ∷ []) = if length last == 0 then [] else last ∷ []
without_empty_last (piece ∷ next ∷ more) = piece ∷ without_empty_last (next ∷ more)

-- this project's own: a line ends with LF, and the last line may lack it
unfoldable pub script_lines : List ℕ → List (List ℕ)
script_lines text = without_empty_last (slice_split is_line_end text)

-- this project's own: an empty line, and a line whose first byte is `#`, say nothing
unfoldable pub is_silent : List ℕ → Bool
is_silent [] = true
is_silent (first ∷ rest) = first == 35

-- this project's own: words are separated by single spaces, so a doubled, leading or trailing space gives an empty
-- piece, which is no word
unfoldable pub line_words : List ℕ → List (List ℕ)
line_words line = slice_split is_space line

-- the words of what is left of a line after a word: none where the line has ended with it
abbrev pub words_left : Option (List ℕ) → List (List ℕ)
words_left None = []
words_left (Some rest) = line_words rest

-- words of output, each after a space
abbrev pub behind_spaces : List (List ℕ) → List ℕ
behind_spaces words = flat_map (λ word. codes " " ++ word) words

-- a line of output: its words, parted by single spaces
abbrev pub spaced : List (List ℕ) → List ℕ
spaced words = join_by (λ word. word) (codes " ") words
