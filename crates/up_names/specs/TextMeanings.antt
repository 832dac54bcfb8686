-- What a text stands for, by what each of its lines does (Upspin access control document). That the number of the first
-- bad line is told is this project's own.
use Rattle.std.specs.Prelude.{◌+◌, List, [], ◌∷◌, Option, Some, None, option_map, is_none, Result, Ok, Err}
use Rattle.std.specs.List.{flat_map, position_or_len}
use Rattle.up_names.specs.declared.fault.TextFault.{TextFault}
use Rattle.up_names.specs.declared.fault.TextFault.TheVariants.{BadText}

-- the values in order, where each is there
abbrev pub all_some : {X : Type 0} → List (Option X) → Option (List X)
all_some [] = Some []
all_some (None ∷ rest) = None
all_some (Some value ∷ rest) = option_map (λ values. value ∷ values) (all_some rest)

-- A text without a bad line stands for what its lines say, in order. A text with one stands for the number, from 1, of the
-- first.
unfoldable pub meaning_of : {X : Type 0} → List (Option (List X)) → Result (List X) TextFault
meaning_of lines = elim (all_some lines) [
  | Some said ↦ Ok (flat_map (λ values. values) said)
  | None ↦ Err (BadText (position_or_len is_none lines + 1))
]
