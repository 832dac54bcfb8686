-- Patterns of Glob: a literal user name, and elements after it, cleaned as those of a path (this project's own).
use Rattle.std.specs.Prelude.{ℕ, Bool, true, false, ◌-◌, ◌&&◌, ◌||◌, not, nat_lt, if◌then◌else◌, List, [], ◌∷◌, ◌++◌, length, take, map}
use Rattle.std.specs.Prelude.{slice_get, Option, Some, None, is_some, unwrap_or, option_and_then, Result, Ok, Err, codes, position}
use Rattle.std.specs.List.{before_first}
use Rattle.std.specs.Option.{option_map_or}
use Rattle.std.specs.Str.{bytes_eq, chars}
use Rattle.up_names.specs.PathNames.{cleaned, is_element, is_name, is_skipped, is_slash, is_up, pieces_of}
use Rattle.up_names.specs.UserNames.{user_of}
use Rattle.up_names.specs.declared.fault.NameFault.{NameFault}
use Rattle.up_pattern.specs.Elements.{literal_of, terms_of}
use Rattle.up_pattern.specs.declared.fault.PatternFault.{PatternFault}
use Rattle.up_pattern.specs.declared.fault.PatternFault.TheVariants.{Name, Element}
use Rattle.up_pattern.specs.declared.terms.Term.{Term}

-- a pattern: its owner's canonical name, and the terms of each of its elements
pub record PatternName : Type 0 where
  pub owner : List ℕ
  pub elements : List (List Term)

-- `.` or `..`, which are steps in a path and no names
abbrev pub is_step : List ℕ → Bool
is_step text = bytes_eq text (codes ".") || bytes_eq text (codes "..")

-- a literal element that reads `.` or `..`, though it is not written so: through escapes
abbrev pub hides_step : List ℕ → List Term → Bool
hides_step piece terms = not (is_step piece) && option_map_or is_step (literal_of terms) false

-- The terms of a piece between slashes. None where it is no text of an element, is malformed, or reads `.` or `..`
-- through escapes.
unfoldable pub element_of : List ℕ → Option (List Term)
element_of piece =
    if is_element piece then option_and_then (λ terms. if hides_step piece terms then None else Some terms) (terms_of (chars piece))
    else None

-- whether a piece is no element of a pattern
abbrev pub is_bad : List ℕ → Bool
is_bad piece = not (is_some (element_of piece))

-- the terms of a piece that is not bad
abbrev pub terms_in : List ℕ → List Term
terms_in piece = unwrap_or (element_of piece) []

-- the elements of pieces, of which one may be the first bad one
abbrev pub elements_unless : Option ℕ → List (List ℕ) → Result (List (List Term)) PatternFault
elements_unless None pieces = Ok (map terms_in (cleaned pieces))
elements_unless (Some place) pieces = Err (Element place)

-- the elements of the pieces after an owner, or the place of the first bad piece, also where a later `..` drops it
unfoldable pub elements_of : List (List ℕ) → Result (List (List Term)) PatternFault
elements_of pieces = elements_unless (position is_bad pieces) pieces

-- the pattern of this owner and these elements, or why there are none
abbrev pub with_owner : List ℕ → Result (List (List Term)) PatternFault → Result PatternName PatternFault
with_owner owner (Ok elements) = Ok (record { owner = owner; elements = elements })
with_owner owner (Err fault) = Err fault

-- the pattern of an owner and the pieces after it
abbrev pub pattern_from : List (List ℕ) → Result (List ℕ) NameFault → Result PatternName PatternFault
pattern_from pieces (Ok owner) = with_owner owner (elements_of pieces)
pattern_from pieces (Err fault) = Err Name

-- the pattern that a text is, or its fault: over 4,096 bytes or no user's name in front (Name), then the first bad piece,
-- counted from 0 as they stand
unfoldable pub pattern_of : List ℕ → Result PatternName PatternFault
pattern_of text = if nat_lt 4096 (length text) then Err Name else pattern_from (pieces_of text) (user_of (before_first is_slash text))

-- the text that the element at place i reads, where there is one and it is literal
abbrev pub literal_at : PatternName → ℕ → Option (List ℕ)
literal_at pattern i = option_and_then literal_of (slice_get pattern.elements i)

-- the elements kept after one more piece, of these terms: a `..` drops the last, and nothing and `.` leave them
abbrev pub after_piece : List (List Term) → List ℕ → List Term → List (List Term)
after_piece kept piece terms =
    if is_skipped piece then kept
    else if is_up piece then take (length kept - 1) kept
    else kept ++ terms ∷ []

-- a literal element reads what may be an element of a path
abbrev pub reads_name : List Term → Bool
reads_name terms = option_map_or is_name (literal_of terms) true
