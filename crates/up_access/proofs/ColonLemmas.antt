-- What the place of the first `:` tells.
use Rattle.std.proofs.Common.{◌≡◌, ◌∙◌, ℕ, ◌+◌, ◌-◌, List, length, take, drop, sym, ap, arith, true, false, Some, None}
use Rattle.std.proofs.lemmas.Slice.{between_to_end}
use Rattle.std.specs.List.{list_any, before_first, after_first, position, position_or_len}
use Rattle.up_names.proofs.CutLemmas.{list_any-placed, place_is, no_place, found_before}
use Rattle.up_access.specs.AccessTexts.{is_colon}

pub colon_found : (line : List ℕ) (place : ℕ) → Some place ≡ position is_colon line → true ≡ list_any is_colon line
colon_found line place found = sym (list_any-placed is_colon line ∙ (place_is _ _ place found).1)

pub colon_missing : (line : List ℕ) → None ≡ position is_colon line → false ≡ list_any is_colon line
colon_missing line missing = sym (list_any-placed is_colon line ∙ no_place _ _ missing)

pub before_colon : (line : List ℕ) (place : ℕ) → Some place ≡ position is_colon line → take place line ≡ before_first is_colon line
before_colon line place found = found_before is_colon line place found

pub behind_colon : (line : List ℕ) (place : ℕ) → Some place ≡ position is_colon line → take (length line - (place + 1)) (drop (place + 1) line) ≡ after_first is_colon line
behind_colon line place found =
    let is = place_is (position_or_len is_colon line) (length line) place found in
    between_to_end line (place + 1) (length line) (omega arith) ∙ ap (λ k. drop (k + 1) line) is.0

pub ruleset colons = (colon_found, colon_missing, before_colon, behind_colon)
