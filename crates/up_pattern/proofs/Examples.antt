-- Worked examples: elements, what they match, and patterns.
use Rattle.std.proofs.Common.{◌≡◌, ℕ, Bool, true, false, List, [], ◌∷◌, Option, Some, None, Err, codes, refl}
use Rattle.std.specs.Option.{option_map}
use Rattle.std.specs.Str.{chars, is_utf8}
use lib.Utf8.{encode}
use Rattle.up_names.specs.PathNames.{cleaned, is_element, pieces_of}
use Rattle.up_names.specs.UserNames.{is_domain, is_label, is_local_part, is_suffix, user_of, without_final_period}
use Rattle.up_pattern.specs.Matching.{matches}
use Rattle.up_pattern.specs.Elements.{class_of, literal_of, ranges_of, terms_behind, terms_of, tokens_behind}
use Rattle.up_pattern.specs.Patterns.{elements_of, element_of, pattern_of}
use Rattle.up_pattern.specs.declared.fault.PatternFault.TheVariants.{Name, Element}

-- whether a text matches an element, where that is not malformed
unfoldable answer : List ℕ → List ℕ → Option Bool
answer element text = option_map (λ terms. matches terms text) (terms_of element)

unfoldable reads : Unit {0}
unfolding answer matches terms_of tokens_behind terms_behind class_of ranges_of literal_of
reads = tt

open_bracket : answer (codes "[") (codes "x") ≡ None
unfolding reads
open_bracket = refl

empty_class : answer (codes "[]") (codes "x") ≡ None
unfolding reads
empty_class = refl

empty_exception : answer (codes "[^]") (codes "x") ≡ None
unfolding reads
empty_exception = refl

dash_alone : answer (codes "[-]") (codes "-") ≡ None
unfolding reads
dash_alone = refl

range_without_end : answer (codes "[a-]") (codes "a") ≡ None
unfolding reads
range_without_end = refl

range_of_three : answer (codes "[a-b-c]") (codes "b") ≡ None
unfolding reads
range_of_three = refl

escape_at_end : answer (codes "\\") (codes "\\") ≡ None
unfolding reads
escape_at_end = refl

all_but_a : answer (codes "[^a]") (codes "b") ≡ Some true
unfolding reads
all_but_a = refl

not_a : answer (codes "[^a]") (codes "a") ≡ Some false
unfolding reads
not_a = refl

escaped_dash : answer (codes "[\\-x]") (codes "-") ≡ Some true
unfolding reads
escaped_dash = refl

range_backwards : answer (codes "[c-a]") (codes "b") ≡ Some false
unfolding reads
range_backwards = refl

star_and_one : answer (codes "*") (codes "x") ≡ Some true
unfolding reads
star_and_one = refl

star_and_many : answer (codes "*") (codes "xyz") ≡ Some true
unfolding reads
star_and_many = refl

star_and_nothing : answer (codes "a*b") (codes "ab") ≡ Some true
unfolding reads
star_and_nothing = refl

-- the last star takes what is left
two_stars : answer (codes "*a*b") (codes "aab_ab") ≡ Some true
unfolding reads
two_stars = refl

-- a character past ASCII, U+20AC, is one character
one_character : answer (codes "?") (8364 ∷ []) ≡ Some true
unfolding reads
one_character = refl

-- its three bytes are one character
three_bytes : chars (226 ∷ 130 ∷ 172 ∷ []) ≡ 8364 ∷ []
unfolding chars
three_bytes = refl

unfoldable reads_patterns : Unit {0}
unfolding reads pattern_of elements_of element_of pieces_of cleaned is_element is_utf8 chars encode user_of without_final_period is_local_part is_suffix is_domain is_label
reads_patterns = tt

-- the empty pieces count too
hidden_step_is_element_2 : pattern_of (codes "ann@a.example//x/\\..") ≡ Err (Element 2)
unfolding reads_patterns
hidden_step_is_element_2 = refl

dropped_piece_has_to_be_good : pattern_of (codes "ann@a.example/[/../x") ≡ Err (Element 0)
unfolding reads_patterns
dropped_piece_has_to_be_good = refl

no_owner : pattern_of (codes "ann/*") ≡ Err Name
unfolding reads_patterns
no_owner = refl
