-- How an element of a pattern is written (Go's path.Match).
use Rattle.std.specs.Prelude.{◌≡◌, ◌<◌, length, ℕ, Bool, true, false, ◌==◌, ◌&&◌, ◌||◌, not, if◌then◌else◌, List, [], ◌∷◌, ◌++◌}
use Rattle.std.specs.Prelude.{Option, Some, None, option_and_then, encode_utf8}
use Rattle.std.specs.List.{position_or_len, before_first, after_first}
use Rattle.std.specs.Option.{option_map}
use Rattle.std.specs.Str.{byte}
use Rattle.up_pattern.specs.declared.terms.Range.{Range}
use Rattle.up_pattern.specs.declared.terms.Term.{Term}
use Rattle.up_pattern.specs.declared.terms.Term.TheVariants.{Many, One, Char, OneOf, NoneOf}
use Rattle.up_pattern.specs.declared.tokens.Token.{Token}

-- xs in front of a list, where there is one
abbrev pub prepended : {X : Type 0} → List X → Option (List X) → Option (List X)
prepended xs more = option_map (λ ys. xs ++ ys) more

-- x in front of a list, where both are there
abbrev pub in_front : {X : Type 0} → Option X → Option (List X) → Option (List X)
in_front first more = option_and_then (λ x. prepended (x ∷ []) more) first

-- ---- escapes

-- whether a character escapes the next one: a `\` that is not escaped itself
abbrev pub escapes : Bool → ℕ → Bool
escapes escaped c = not escaped && c == byte "\\"

-- the tokens of a text that stands after a `\`, or after none: each character, and whether it is escaped; none where a
-- `\` stands at the end
unfoldable pub tokens_behind : Bool → List ℕ → Option (List Token)
tokens_behind false [] = Some []
tokens_behind true [] = None
tokens_behind escaped (c ∷ rest) =
    if escapes escaped c then tokens_behind true rest
    else prepended ((record { character = c; is_escaped = escaped }) ∷ []) (tokens_behind false rest)

-- the character c with its meaning: an escaped one stands for itself
abbrev pub is_sign : ℕ → Token → Bool
is_sign c token = not token.is_escaped && token.character == c

-- ---- between brackets

-- the sign `-` between brackets
abbrev pub is_dash : Token → Bool
is_dash token = is_sign (byte "-") token

-- a range; a `-` is none of its ends
abbrev pub range_of : Token → Token → Option Range
range_of low high = if is_dash low || is_dash high then None else Some (record { low = low.character; high = high.character })

-- the ranges between brackets: each is one character, or two with a `-` between them
unfoldable pub ranges_of : List Token → Option (List Range)
ranges_of [] = Some []
ranges_of (low ∷ dash ∷ high ∷ rest) =
    if is_dash dash then in_front (range_of low high) (ranges_of rest) else in_front (range_of low low) (ranges_of (dash ∷ high ∷ rest))
ranges_of (low ∷ rest) = in_front (range_of low low) (ranges_of rest)

-- the token after a `-` and what follows it, where these are at the front
abbrev pub upper_end : List Token → Option (Token × List Token)
upper_end (dash ∷ high ∷ rest) = if is_dash dash then Some (high, rest) else None
upper_end tokens = None

-- one range at least
abbrev pub some_ranges : List Token → Option (List Range)
some_ranges [] = None
some_ranges (first ∷ rest) = ranges_of (first ∷ rest)

-- what stands between brackets: ranges, or after a `^` those that are excepted
unfoldable pub class_of : List Token → Option Term
class_of [] = None
class_of (first ∷ rest) =
    if is_sign (byte "^") first then option_map NoneOf (some_ranges rest) else option_map OneOf (some_ranges (first ∷ rest))

-- ---- elements

-- a token outside brackets
abbrev pub term_of : Token → Term
term_of token = if is_sign (byte "*") token then Many else if is_sign (byte "?") token then One else Char token.character

-- the sign `]`
abbrev pub is_close : Token → Bool
is_close token = is_sign (byte "]") token

-- the terms of tokens that stand outside brackets, or inside them after others: a `[` opens a class, which the next `]` closes
unfoldable pub terms_behind : Option (List Token) → List Token → Option (List Term)
terms_behind None [] = Some []
terms_behind (Some inside) [] = None
terms_behind None (token ∷ rest) =
    if is_sign (byte "[") token then terms_behind (Some []) rest else prepended (term_of token ∷ []) (terms_behind None rest)
terms_behind (Some inside) (token ∷ rest) =
    if is_close token then in_front (class_of inside) (terms_behind None rest)
    else terms_behind (Some (inside ++ token ∷ [])) rest

-- what stands before the first `]`, and what follows it
pub record IsClosed (tokens before after : List Token) : Type 0 where
  pub closed : position_or_len is_close tokens < length tokens
  pub front : before ≡ before_first is_close tokens
  pub rest : after ≡ after_first is_close tokens

-- the terms of an element; none where it is malformed
unfoldable pub terms_of : List ℕ → Option (List Term)
terms_of text = option_and_then (terms_behind None) (tokens_behind false text)

-- the text that an element reads, where it is literal: no `*`, no `?` and no class is in it
unfoldable pub literal_of : List Term → Option (List ℕ)
literal_of [] = Some []
literal_of (Char c ∷ rest) = prepended (encode_utf8 c) (literal_of rest)
literal_of (term ∷ rest) = None
