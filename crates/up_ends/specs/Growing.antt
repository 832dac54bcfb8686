-- States that only grow. This project's own.
use Rattle.std.specs.Prelude.{◌≡◌, ◌≤◌, ℕ, List}
use Rattle.up_lists.specs.Begins.{Begins}

-- what stood there stands at the front, the count of faults never falls, and the fixed part stays
pub record OnlyGrows {S E F : Type 0} (entries : S → List E) (faults : S → ℕ) (fixed : S → F) (old new : S) : Type 0 where
  pub begins : Begins (entries old) (entries new)
  pub later : faults old ≤ faults new
  pub stays : fixed new ≡ fixed old
