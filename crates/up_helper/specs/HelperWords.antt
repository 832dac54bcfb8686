-- The words by which bytes are handed to a helper. This project's own.
use Rattle.std.specs.Prelude.{ℕ, not, ◌&&◌, ◌==◌, if◌then◌else◌, List, [], length, codes, Option, Some, None}
use Rattle.std.specs.List.{list_all}
use Rattle.std.specs.Result.{result_ok}
use Rattle.std.specs.Str.{bytes_eq}
use Rattle.hex.specs.Hex.{decode_of, encode_upper}
use Rattle.up_refs.specs.References.{is_upper_digit}

-- the word of some bytes: two upper-case hexadecimal digits for each byte, and `-` where there is none
abbrev pub hex_word : List ℕ → List ℕ
hex_word bytes = if length bytes == 0 then codes "-" else encode_upper bytes

-- the bytes of a word: none where it is neither `-` nor upper-case hexadecimal digits in pairs
unfoldable pub bytes_in : List ℕ → Option (List ℕ)
bytes_in word =
    if bytes_eq word (codes "-") then Some []
    else if not (length word == 0) && list_all is_upper_digit word then result_ok (decode_of word)
    else None
