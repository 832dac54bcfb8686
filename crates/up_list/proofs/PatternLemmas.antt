-- Elements of patterns by their places.
use Rattle.std.proofs.Common.{◌≡◌, ℕ, zero, suc, ◌<◌, List, [], ◌∷◌, length, refl, ap, arith, Some}
use Rattle.std.specs.Prelude.{slice_get, slice_index_or, is_some}
use Rattle.std.specs.Option.{option_and_then}
use Rattle.up_pattern.specs.Elements.{literal_of}
use Rattle.up_pattern.specs.Patterns.{PatternName, literal_at}
use Rattle.up_list.specs.Globs.{is_literal}
use Rattle.up_list.specs.Walking.{element_at}

-- what stands at a place within a list
pub here : {X : Type 0} (xs : List X) (i : ℕ) (d : X) → i < length xs → slice_get xs i ≡ Some (slice_index_or xs i d)
here [] i d h = absurd (let z : ⊥ = omega arith in z)
here (x ∷ xs) zero d h = refl
here (x ∷ xs) (suc i) d h = here xs i d (omega arith)

-- an element is literal where it has a literal text
pub literal_here : (pattern : PatternName) (at : ℕ) → at < length pattern.elements → is_some (literal_at pattern at) ≡ is_literal (element_at pattern at)
literal_here pattern at h = ap (λ o. is_some (option_and_then literal_of o)) (here pattern.elements at [] h)
