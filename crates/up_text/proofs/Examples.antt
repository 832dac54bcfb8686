-- Worked examples of the definitions.
use Rattle.std.proofs.Common.{◌≡◌, true, false, [], ◌∷◌, None, Some, pos, negsuc, codes, refl}
use Rattle.std.specs.Fmt.{digits}
use Rattle.up_text.specs.Lines.{script_lines, is_silent, line_words, words_left}
use Rattle.up_text.specs.Words.{decoded, decoded_bytes, coded}
use Rattle.up_text.specs.Numbers.{num_of, int_of}

-- lines
empty_text-no_line : script_lines [] ≡ []
unfolding script_lines
empty_text-no_line = refl

line_feed-empty_line : script_lines (10 ∷ []) ≡ [] ∷ []
unfolding script_lines
line_feed-empty_line = refl

last_line-may_lack_line_feed : script_lines (97 ∷ 10 ∷ 98 ∷ []) ≡ codes "a" ∷ codes "b" ∷ []
unfolding script_lines
last_line-may_lack_line_feed = refl

last_line-may_have_line_feed : script_lines (97 ∷ 10 ∷ 98 ∷ 10 ∷ []) ≡ codes "a" ∷ codes "b" ∷ []
unfolding script_lines
last_line-may_have_line_feed = refl

two_line_feeds-empty_line_counts : script_lines (97 ∷ 10 ∷ 10 ∷ []) ≡ codes "a" ∷ [] ∷ []
unfolding script_lines
two_line_feeds-empty_line_counts = refl

carriage_return-stays : script_lines (97 ∷ 13 ∷ 10 ∷ []) ≡ (97 ∷ 13 ∷ []) ∷ []
unfolding script_lines
carriage_return-stays = refl

-- silence
empty_line-silent : is_silent [] ≡ true
unfolding is_silent
empty_line-silent = refl

comment-silent : is_silent (codes "# %") ≡ true
unfolding is_silent
comment-silent = refl

hash_second-not_silent : is_silent (codes " #") ≡ false
unfolding is_silent
hash_second-not_silent = refl

space-not_silent : is_silent (codes " ") ≡ false
unfolding is_silent
space-not_silent = refl

-- words
single_spaces-part : line_words (codes "can a b") ≡ codes "can" ∷ codes "a" ∷ codes "b" ∷ []
unfolding line_words
single_spaces-part = refl

tab-stands_in_word : line_words (97 ∷ 9 ∷ 98 ∷ []) ≡ (97 ∷ 9 ∷ 98 ∷ []) ∷ []
unfolding line_words
tab-stands_in_word = refl

doubled_space-empty_word : line_words (codes "a  b") ≡ codes "a" ∷ [] ∷ codes "b" ∷ []
unfolding line_words
doubled_space-empty_word = refl

leading_space-empty_word : line_words (codes " a") ≡ [] ∷ codes "a" ∷ []
unfolding line_words
leading_space-empty_word = refl

trailing_space-empty_word : line_words (codes "a ") ≡ codes "a" ∷ [] ∷ []
unfolding line_words
trailing_space-empty_word = refl

line_ended-no_word_left : words_left None ≡ []
line_ended-no_word_left = refl

-- what a word stands for
plain-itself : decoded (codes "ann@a.example") ≡ Some (codes "ann@a.example")
unfolding decoded decoded_bytes
plain-itself = refl

percent_41-letter : decoded (codes "%41b") ≡ Some (codes "Ab")
unfolding decoded decoded_bytes
percent_41-letter = refl

lower_case_digit : decoded (codes "%4a") ≡ Some (codes "J")
unfolding decoded decoded_bytes
lower_case_digit = refl

upper_case_digit : decoded (codes "%4A") ≡ Some (codes "J")
unfolding decoded decoded_bytes
upper_case_digit = refl

percent_0-zero_byte : decoded (codes "x%00") ≡ Some (120 ∷ 0 ∷ [])
unfolding decoded decoded_bytes
percent_0-zero_byte = refl

percent_25-no_second_reading : decoded (codes "%2541") ≡ Some (codes "%41")
unfolding decoded decoded_bytes
percent_25-no_second_reading = refl

dash-empty_text : decoded (codes "-") ≡ Some []
unfolding decoded
dash-empty_text = refl

percent_2D-dash : decoded (codes "%2D") ≡ Some (codes "-")
unfolding decoded decoded_bytes
percent_2D-dash = refl

two_dashes-themselves : decoded (codes "--") ≡ Some (codes "--")
unfolding decoded decoded_bytes
two_dashes-themselves = refl

empty-no_word : decoded [] ≡ None
unfolding decoded
empty-no_word = refl

space-no_word : decoded (codes "a b") ≡ None
unfolding decoded
space-no_word = refl

line_feed-no_word : decoded (97 ∷ 10 ∷ []) ≡ None
unfolding decoded
line_feed-no_word = refl

percent-no_word : decoded (codes "%") ≡ None
unfolding decoded decoded_bytes
percent-no_word = refl

percent_one_digit-no_word : decoded (codes "%4") ≡ None
unfolding decoded decoded_bytes
percent_one_digit-no_word = refl

percent_letters-no_word : decoded (codes "%zz") ≡ None
unfolding decoded decoded_bytes
percent_letters-no_word = refl

percent_twice-no_word : decoded (codes "%%41") ≡ None
unfolding decoded decoded_bytes
percent_twice-no_word = refl

percent_digit_percent-no_word : decoded (codes "%4%41") ≡ None
unfolding decoded decoded_bytes
percent_digit_percent-no_word = refl

-- the word for a text
empty_text-dash : coded [] ≡ codes "-"
unfolding coded
empty_text-dash = refl

dash-coded : coded (codes "-") ≡ codes "%2D"
unfolding coded
dash-coded = refl

plain-stays : coded (codes "a-b:c,d") ≡ codes "a-b:c,d"
unfolding coded
plain-stays = refl

space_and_percent-coded : coded (codes "a %") ≡ codes "a%20%25"
unfolding coded
space_and_percent-coded = refl

line_feed-upper_case : coded (10 ∷ []) ≡ codes "%0A"
unfolding coded
line_feed-upper_case = refl

delete-coded : coded (126 ∷ 127 ∷ 128 ∷ []) ≡ 126 ∷ 37 ∷ 55 ∷ 70 ∷ 128 ∷ []
unfolding coded
delete-coded = refl

-- numbers
zero-number : num_of (codes "0") ≡ Some 0
unfolding num_of digits
zero-number = refl

two_zeros-no_number : num_of (codes "00") ≡ None
unfolding num_of digits
two_zeros-no_number = refl

leading_zero-no_number : num_of (codes "01") ≡ None
unfolding num_of digits
leading_zero-no_number = refl

plus-no_number : num_of (codes "+1") ≡ None
unfolding num_of digits
plus-no_number = refl

empty-no_number : num_of [] ≡ None
unfolding num_of digits
empty-no_number = refl

letter-no_number : num_of (codes "1a") ≡ None
unfolding num_of digits
letter-no_number = refl

greatest_u64 : num_of (codes "18446744073709551615") ≡ Some 18446744073709551615
unfolding num_of digits
greatest_u64 = refl

past_u64-no_number : num_of (codes "18446744073709551616") ≡ None
unfolding num_of digits
past_u64-no_number = refl

-- signed numbers
zero-int : int_of (codes "0") ≡ Some (pos 0)
unfolding int_of digits
zero-int = refl

minus_zero-no_int : int_of (codes "-0") ≡ None
unfolding int_of digits
minus_zero-no_int = refl

minus_one-int : int_of (codes "-1") ≡ Some (negsuc 0)
unfolding int_of digits
minus_one-int = refl

minus-no_int : int_of (codes "-") ≡ None
unfolding int_of digits
minus-no_int = refl

minus_leading_zero-no_int : int_of (codes "-01") ≡ None
unfolding int_of digits
minus_leading_zero-no_int = refl

greatest_i64 : int_of (codes "9223372036854775807") ≡ Some (pos 9223372036854775807)
unfolding int_of digits
greatest_i64 = refl

past_i64-no_int : int_of (codes "9223372036854775808") ≡ None
unfolding int_of digits
past_i64-no_int = refl

least_i64 : int_of (codes "-9223372036854775808") ≡ Some (negsuc 9223372036854775807)
unfolding int_of digits
least_i64 = refl

below_i64-no_int : int_of (codes "-9223372036854775809") ≡ None
unfolding int_of digits
below_i64-no_int = refl
