-- What number a word is.
use Rattle.std.specs.Prelude.{ℕ, ◌^◌, Bool, false, nat_lt, ◌==◌, ◌&&◌, List, [], ◌∷◌, length, Option, None, Some}
use Rattle.std.specs.Prelude.{ℤ, pos, negsuc, decimal, bytes_eq, if◌then◌else◌}
use Rattle.std.specs.Char.{is_ascii_digit}
use Rattle.std.specs.Fmt.{signed_decimal}
use Rattle.std.specs.Str.Parse.{digits_value, signed_digits_value}

-- this project's own: a word is the number n below 2 ^ 64 whose decimal digits it is, without leading zeros
unfoldable pub num_of : List ℕ → Option ℕ
num_of word =
    let n = digits_value 10 word in
    if nat_lt n (2 ^ 64) && bytes_eq (decimal n) word then Some n else None

-- the first byte is a digit, and is `0` only where it is the only one
abbrev pub begins_number : List ℕ → Bool
begins_number [] = false
begins_number (first ∷ rest) = if first == 48 then length rest == 0 else is_ascii_digit first

-- the number fits an i64
abbrev pub fits_i64 : ℤ → Bool
fits_i64 (pos n) = nat_lt n (2 ^ 63)
fits_i64 (negsuc n) = nat_lt n (2 ^ 63)

-- this project's own: a word is the number of an i64 whose decimal digits it is, with a leading `-` where negative
unfoldable pub int_of : List ℕ → Option ℤ
int_of word =
    let z = signed_digits_value 10 word in
    if fits_i64 z && bytes_eq (signed_decimal z) word then Some z else None
