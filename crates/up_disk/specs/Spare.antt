-- A list with spare room. This project's own.
use Rattle.std.specs.Prelude.{ℕ, List}

-- what is in the list, and how much more it takes without memory
pub record Spared (D : Type 0) : Type 0 where
  pub disks : List D
  pub spare : ℕ
