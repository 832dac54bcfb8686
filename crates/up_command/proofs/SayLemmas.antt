-- Lines behind the number of a session and a space are those about the session.
use Rattle.std.proofs.Common.{◌≡◌, ◌∙◌, ℕ, List, [], ◌∷◌, ◌++◌, codes, decimal, refl, ap}
use Rattle.std.specs.List.{flat_map}
use Rattle.up_command.specs.Printed.{all_numbered, numbered}
use Rattle.up_names.specs.Texts.{Text}
use Rattle.up_text.specs.Replies.{line_behind}

each_numbered : (number : ℕ) (lines : List Text) → flat_map (line_behind (decimal number ++ codes " ")) lines ≡ all_numbered number lines
each_numbered number [] = refl
each_numbered number (text ∷ more) = ap (λ t. numbered number text ++ t) (each_numbered number more)

pub lines_numbered : (number : ℕ) (front old new : Text) (lines : List Text) → front ≡ decimal number ++ codes " " → new ≡ old ++ flat_map (line_behind front) lines → new ≡ old ++ all_numbered number lines
lines_numbered number front old new lines front_is new_is =
    new_is ∙ ap (λ t. old ++ flat_map (line_behind t) lines) front_is ∙ ap (λ t. old ++ t) (each_numbered number lines)
