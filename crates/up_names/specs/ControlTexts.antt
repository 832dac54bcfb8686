-- What Access and Group texts share: lines, comments and words (Upspin access control document). That a CR before an LF
-- is dropped is this project's own.
use Rattle.std.specs.Prelude.{ℕ, Bool, ◌-◌, ◌==◌, ◌||◌, not, nat_eq, if◌then◌else◌, List, [], ◌∷◌, length, take, map, filter}
use Rattle.std.specs.List.{list_all, before_first, slice_split, ends_with}
use Rattle.std.specs.Str.{byte, bytes_eq}
use Rattle.up_names.specs.Texts.{Text}

-- the byte LF
abbrev pub is_line_feed : ℕ → Bool
is_line_feed b = b == 0x0A

-- the byte `#`
abbrev pub is_number_sign : ℕ → Bool
is_number_sign b = b == byte "#"

-- a blank: a space or a tab
abbrev pub is_blank : ℕ → Bool
is_blank b = b == byte " " || b == 0x09

-- what stands between words
abbrev pub is_gap : ℕ → Bool
is_gap b = b == byte "," || is_blank b

-- a piece without one CR at its end, where it ends in one
unfoldable pub without_return : Text → Text
without_return piece = if ends_with nat_eq piece (0x0D ∷ []) then take (length piece - 1) piece else piece

-- what a piece says: without one CR at its end, and then without all from its first `#` on
abbrev pub line_of : Text → Text
line_of piece = before_first is_number_sign (without_return piece)

-- the lines of a text: what the pieces between LFs say; the empty text has one, the empty line
unfoldable pub control_lines : Text → List Text
control_lines text = map line_of (slice_split is_line_feed text)

-- the words of a line: the longest runs without comma and blank
unfoldable pub words_in : Text → List Text
words_in line = filter (λ run. not (bytes_eq run [])) (slice_split is_gap line)

-- a line of blanks alone says nothing
abbrev pub says_nothing : Text → Bool
says_nothing line = list_all is_blank line
