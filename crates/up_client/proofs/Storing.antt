-- Pieces that are kept in order.
use Rattle.std.proofs.Common.{◌≡◌, ◌==◌, ℕ, zero, suc, ◌+◌, ◌-◌, ◌<◌, ◌≤◌, min, Bool, true, false, List, [], ◌∷◌, ◌++◌, length, take, drop, Ok, Err, sym, subst, ap, ◌∙◌, length-take, length-drop, arith}
use Rattle.std.proofs.lemmas.Bool.{eqb-true}
use Rattle.std.proofs.lemmas.List.{nil_from_length}
use Rattle.up_entry.specs.declared.entries.Block.{Block}
use Rattle.up_client.specs.declared.ask.Ask.{Ghosts}
use Rattle.up_client.specs.declared.fault.ClientFault.{ClientFault}
use Rattle.up_client.specs.Putting.{block_at, block_size, pieces_of, stored, storing}
use Rattle.up_client.specs.Talks.{Talking, Talks}
use Rattle.up_client.proofs.Fetching.{GoesOn, goes_done, goes_stop, goes_then}
use Rattle.up_client.proofs.Pieces.{pieces_step}

module _ {S : Type 0} (asked : Ghosts S) (same : (a : S) → asked.tied a a) (joined : (a b c : S) → asked.tied a b → asked.tied b c → asked.tied a c) where
  -- the first piece comes first
  first_of_all : (from : Talking (List Block)) (rest piece behind : List ℕ) (offset : ℕ) (blocks : List Block) (a b : S)
      → 0 < length rest → piece ≡ take block_size rest → behind ≡ drop block_size rest
      → GoesOn asked from a (storing offset (pieces_of rest) blocks) b → GoesOn asked from a (storing offset (piece ∷ pieces_of behind) blocks) b
  first_of_all from rest piece behind offset blocks a b some front back on =
      let whole : pieces_of rest ≡ piece ∷ pieces_of behind = pieces_step rest some ∙ (λ j. sym front j ∷ pieces_of (sym back j)) in
      subst (λ (pieces : List (List ℕ)). GoesOn asked from a (storing offset pieces blocks) b) whole on

  -- the first piece was kept, and what is behind it is
  pub store_more : (from : Talking (List Block)) (rest piece behind : List ℕ) (offset : ℕ) (blocks : List Block) (reference : List ℕ) (a b c : S)
      → 0 < length rest → piece ≡ take block_size rest → behind ≡ drop block_size rest
      → GoesOn asked from a (storing offset (pieces_of rest) blocks) b → Talks asked (stored piece) b (Ok reference) c
      → GoesOn asked from a (storing (offset + length piece) (pieces_of behind) (blocks ++ block_at offset (length piece) reference ∷ [])) c
  store_more from rest piece behind offset blocks reference a b c some front back on first =
      goes_then asked same joined from (stored piece) (λ reference. storing (offset + length piece) (pieces_of behind) (blocks ++ block_at offset (length piece) reference ∷ [])) a b c reference
      (first_of_all from rest piece behind offset blocks a b some front back on) first

  -- it was not kept
  pub store_stop : (from : Talking (List Block)) (rest piece behind : List ℕ) (offset : ℕ) (blocks : List Block) (fault : ClientFault) (a b c : S)
      → 0 < length rest → piece ≡ take block_size rest → behind ≡ drop block_size rest
      → GoesOn asked from a (storing offset (pieces_of rest) blocks) b → Talks asked (stored piece) b (Err fault) c
      → Talks asked from a (Err fault) c
  store_stop from rest piece behind offset blocks fault a b c some front back on first =
      goes_stop asked same joined from (stored piece) (λ reference. storing (offset + length piece) (pieces_of behind) (blocks ++ block_at offset (length piece) reference ∷ [])) a b c fault
      (first_of_all from rest piece behind offset blocks a b some front back on) first

  -- nothing is left
  pub store_end : (from : Talking (List Block)) (rest : List ℕ) (offset : ℕ) (blocks : List Block) (a b : S)
      → length rest ≡ 0 → GoesOn asked from a (storing offset (pieces_of rest) blocks) b → Talks asked from a (Ok blocks) b
  store_end from rest offset blocks a b none on =
      goes_done asked same joined from a b blocks (subst (λ (left : List ℕ). GoesOn asked from a (storing offset (pieces_of left) blocks) b) (nil_from_length rest none) on)

-- what is not empty has a byte
pub some_left : (empty : Bool) (n : ℕ) → empty ≡ false → empty ≡ (n == 0) → 0 < n
some_left empty zero not_so is = absurd (let both : true ≡ false = sym is ∙ not_so in cc)
some_left empty (suc n) not_so is = omega arith

pub none_left : (empty : Bool) (n : ℕ) → empty ≡ true → empty ≡ (n == 0) → n ≡ 0
none_left empty n so is = eqb-true n 0 (sym is ∙ so)

-- the first piece and what is behind it are all there is
pub piece_lengths : (n : ℕ) (rest piece behind : List ℕ) → piece ≡ take n rest → behind ≡ drop n rest → length piece + length behind ≡ length rest
piece_lengths n rest piece behind front back =
    let one : length piece ≡ min n (length rest) = ap length front ∙ length-take n rest in
    let two : length behind ≡ length rest - n = ap length back ∙ length-drop n rest in
    omega (arith, one, two)

pub piece_smaller : (n : ℕ) (rest behind : List ℕ) → 0 < n → 0 < length rest → behind ≡ drop n rest → suc (length behind) ≤ length rest
piece_smaller n rest behind big some back =
    let two : length behind ≡ length rest - n = ap length back ∙ length-drop n rest in
    omega (arith, big, some, two)
