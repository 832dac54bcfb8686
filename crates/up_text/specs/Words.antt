-- What a word of a script stands for, and which word stands for a text.
use Rattle.std.specs.Prelude.{ℕ, ◌+◌, ◌*◌, ◌/◌, ◌%◌, Bool, true, ◌==◌, nat_le, ◌||◌, ◌&&◌, List, [], ◌∷◌, ◌++◌}
use Rattle.std.specs.Prelude.{Option, None, Some, option_map, length, map, codes, bytes_eq, if◌then◌else◌}
use Rattle.std.specs.Char.{digit_value, is_digit}
use Rattle.std.specs.Fmt.{digit_glyph}
use Rattle.std.specs.List.{slice_split, flat_map, list_any}
use Rattle.up_text.specs.Lines.{is_line_end, is_space}

-- this project's own: `%` begins a coded byte
abbrev pub is_percent : ℕ → Bool
is_percent b = b == 37

-- a byte that stands in no word
abbrev pub ends_word : ℕ → Bool
ends_word b = is_space b || is_line_end b

-- the byte that two hexadecimal digits of either case write
abbrev pub pair_byte : ℕ → ℕ → Option ℕ
pair_byte high low =
    if is_digit high 16 && is_digit low 16 then Some (16 * digit_value high + digit_value low) else None

-- what a piece after a `%` stands for: the byte of its two digits, and then the rest as it is
abbrev pub after_percent : List ℕ → Option (List ℕ)
after_percent [] = None
after_percent (high ∷ []) = None
after_percent (high ∷ low ∷ rest) = option_map (λ byte. byte ∷ rest) (pair_byte high low)

-- the texts one after another, if all are there
abbrev pub all_joined : List (Option (List ℕ)) → Option (List ℕ)
all_joined [] = Some []
all_joined (None ∷ more) = None
all_joined (Some text ∷ more) = option_map (λ texts. text ++ texts) (all_joined more)

-- what the pieces round each `%` stand for: the first stands for itself
abbrev pub pieces_text : List (List ℕ) → Option (List ℕ)
pieces_text [] = Some []
pieces_text (plain ∷ behind) = all_joined (Some plain ∷ map after_percent behind)

-- this project's own: `%` and two hexadecimal digits stand for that byte, any other byte for itself
unfoldable pub decoded_bytes : List ℕ → Option (List ℕ)
decoded_bytes bytes = pieces_text (slice_split is_percent bytes)

-- this project's own: `-` alone stands for the empty text; nothing is a word that is empty or has a space or LF
unfoldable pub decoded : List ℕ → Option (List ℕ)
decoded word =
    if bytes_eq word (codes "-") then Some []
    else (if length word == 0 || list_any ends_word word then None else decoded_bytes word)

-- this project's own: bytes up to 0x20, `%` and 0x7F are coded in output
abbrev pub is_coded : ℕ → Bool
is_coded b = nat_le b 32 || is_percent b || b == 127

-- `%` and the two upper-case digits of a byte
abbrev pub escape : ℕ → List ℕ
escape b = 37 ∷ digit_glyph true (b / 16) ∷ digit_glyph true (b % 16) ∷ []

-- a byte in output
abbrev pub coded_byte : ℕ → List ℕ
coded_byte b = if is_coded b then escape b else b ∷ []

-- this project's own: inside a block's fields and in lists of endpoints `:` and `,` are coded too
abbrev pub parts_fields : ℕ → Bool
parts_fields b = b == 58 || b == 44

-- a byte inside a block's fields or a list of endpoints, where `:` and `,` are coded too
abbrev pub field_byte : ℕ → List ℕ
field_byte b = if parts_fields b then escape b else coded_byte b

-- this project's own: the word for a text in output; the empty text is `-`, and the text `-` is `%2D`
unfoldable pub coded : List ℕ → List ℕ
coded text =
    if length text == 0 then codes "-"
    else (if bytes_eq text (codes "-") then codes "%2D" else flat_map coded_byte text)

-- this project's own: the word for a text inside a block's fields and in lists of endpoints; the empty text is `-`, and the text `-` is
-- `%2D`
unfoldable pub field : List ℕ → List ℕ
field text =
    if length text == 0 then codes "-"
    else (if bytes_eq text (codes "-") then codes "%2D" else flat_map field_byte text)
