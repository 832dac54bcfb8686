-- Texts that were replaced, in the order in which they were. This project's own.
use Rattle.std.specs.Prelude.{◌≡◌, ◌≤◌, ◌-◌, ℕ, List, length, Some, slice_get}
use Rattle.up_mem_tree.specs.declared.gone.Naming.{Naming}

-- none was replaced before one that stands in front of it
pub record AreInOrder (texts : List Naming) : Type 0 where
  pub each : (i j : ℕ) (one other : Naming) → i ≤ j → slice_get texts i ≡ Some one → slice_get texts j ≡ Some other
      → one.until ≤ other.until

-- the last one was not replaced behind that position
abbrev pub IsBehind : List Naming → ℕ → Type 0
IsBehind texts until = (last : Naming) → slice_get texts (length texts - 1) ≡ Some last → last.until ≤ until
