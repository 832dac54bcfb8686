-- References: what a block of bytes is named by. As Upspin's store servers do, it is the SHA-256 (FIPS 180-4) of the
-- bytes, written in upper-case hexadecimal digits.
use Rattle.std.specs.Prelude.{ℕ, Bool, ◌==◌, ◌&&◌, ◌||◌, nat_le, if◌then◌else◌, List, length, Option, None}
use Rattle.std.specs.List.{list_all}
use Rattle.std.specs.Result.{result_ok}
use Rattle.std.specs.Str.{byte}
use Rattle.hex.specs.Hex.{decode_of, encode_upper}

-- 0-9 A-F
abbrev pub is_upper_digit : ℕ → Bool
is_upper_digit b = nat_le (byte "0") b && nat_le b (byte "9") || nat_le (byte "A") b && nat_le b (byte "F")

-- 64 upper-case hexadecimal digits
abbrev pub is_reference_text : List ℕ → Bool
is_reference_text text = length text == 64 && list_all is_upper_digit text

-- the text of a reference: two digits for each of its bytes
abbrev pub text_of : List ℕ → List ℕ
text_of reference = encode_upper reference

-- the reference that a text is of; none where it is not 64 upper-case hexadecimal digits
unfoldable pub reference_in : List ℕ → Option (List ℕ)
reference_in text = if is_reference_text text then result_ok (decode_of text) else None
