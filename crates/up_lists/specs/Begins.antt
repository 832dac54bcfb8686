-- Lists that grow. This project's own.
use Rattle.std.specs.Prelude.{◌≡◌, List, ◌++◌}

-- the list begins with the front, and the rest makes it whole
pub record Begins {X : Type 0} (front all : List X) : Type 0 where
  pub rest : List X
  pub whole : front ++ rest ≡ all
