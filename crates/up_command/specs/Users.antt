-- Lists of users. This project's own.
use Rattle.std.specs.Prelude.{Bool, true, not, ◌&&◌, List, [], ◌∷◌}
use Rattle.std.specs.List.{list_any}
use Rattle.std.specs.Str.{bytes_eq}
use Rattle.up_names.specs.Texts.{UserName}

-- whether one of these users is this one
abbrev pub has_user : List UserName → UserName → Bool
has_user users user = list_any (λ one. bytes_eq one user) users

-- no user stands twice
abbrev pub are_different : List UserName → Bool
are_different [] = true
are_different (user ∷ more) = not (has_user more user) && are_different more
