-- Ranges between brackets, one taken off the front at a time.
use Rattle.std.proofs.Common.{◌≡◌, Bool, true, false, List, [], ◌∷◌, Option, Some, None, unwrap_or, refl, ap, if◌then◌else◌}
use Rattle.std.specs.Option.{MatchOption}
use Rattle.std.specs.Borrow.{Bor}
use Rattle.up_pattern.specs.declared.tokens.Token.{Token}
use Rattle.up_pattern.specs.Elements.{is_dash, in_front, range_of, ranges_of, upper_end}

chosen_some : {X : Type 0} (test : Bool) (x y : X) → (if test then Some x else None) ≡ Some y → (test ≡ true) × (x ≡ y)
chosen_some true x y same = (refl, cc)
chosen_some false x y same = cc

chosen_none : {X : Type 0} (test : Bool) (x : X) → (if test then Some x else None) ≡ None → test ≡ false
chosen_none true x same = cc
chosen_none false x same = refl

-- a range up to an upper end
pub ranges_of-upper : (low : Token) (others : List Token) (high : Token) (rest : List Token)
    → upper_end others ≡ Some (high, rest) → ranges_of (low ∷ others) ≡ in_front (range_of low high) (ranges_of rest)
unfolding ranges_of
ranges_of-upper low [] high rest found = cc
ranges_of-upper low (dash ∷ []) high rest found = cc
ranges_of-upper low (dash ∷ h ∷ r) high rest found =
    let there : Token × List Token = (h, r) in
    let wanted : Token × List Token = (high, rest) in
    let parts = chosen_some (is_dash dash) there wanted found in
    let high_same : h ≡ high = ap (λ (p : Token × List Token). p.0) parts.1 in
    let rest_same : r ≡ rest = ap (λ (p : Token × List Token). p.1) parts.1 in
    rw (parts.0, high_same, rest_same) refl

-- a range of one character
pub ranges_of-single : (low : Token) (others : List Token) → upper_end others ≡ None → ranges_of (low ∷ others) ≡ in_front (range_of low low) (ranges_of others)
unfolding ranges_of
ranges_of-single low [] none = refl
ranges_of-single low (dash ∷ []) none = refl
ranges_of-single low (dash ∷ h ∷ r) none =
    let there : Token × List Token = (h, r) in
    rw (chosen_none (is_dash dash) there none) refl

-- the range at the front: up to an upper end, or of one character
pub ranges_of-first : (low : Token) (others : List Token) (end : Option (Bor Token × Bor (List Token))) (alone found : Bor Token × Bor (List Token))
    → MatchOption end (upper_end others ≡ None) (λ e. upper_end others ≡ Some (e.0.now, e.1.now))
    → alone.0.now ≡ low → alone.1.now ≡ others → found ≡ unwrap_or end alone
    → ranges_of (low ∷ others) ≡ in_front (range_of low found.0.now) (ranges_of found.1.now)
ranges_of-first low others None alone found none high rest same = rw (same, high, rest) (ranges_of-single low others none)
ranges_of-first low others (Some end) alone found upper high rest same = rw same (ranges_of-upper low others end.0.now end.1.now upper)
