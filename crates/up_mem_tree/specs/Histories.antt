-- The texts that a control file had, as they changed. This project's own.
use Rattle.std.specs.Prelude.{◌≡◌, ◌≤◌, ℕ, Bool, true, ◌&&◌, List, fold, nat_le, nat_lt, if◌then◌else◌, [], ◌∷◌, Option, None}
use Rattle.std.specs.List.{list_all}
use Rattle.up_mem_tree.specs.declared.history.Change.{Change}

-- what is known after a change, of the text after n records
abbrev pub seen : {X : Type 0} → ℕ → Option X → Change X → Option X
seen n was change = if nat_le change.position n then change.text else was

-- the text after n records: that of the last change among them
unfoldable pub found : {X : Type 0} → ℕ → List (Change X) → Option X
found n changes = fold (seen n) None changes

-- whether each change is later than those before it, and none is later than that record
abbrev pub are_rising : {X : Type 0} → ℕ → List (Change X) → Bool
are_rising last [] = true
are_rising last (change ∷ changes) =
    nat_le change.position last && list_all (λ later. nat_lt change.position later.position) changes && are_rising last changes

-- the changes rise, and give the text after each number of records, up to that one
pub record Tells {X : Type 0} (changes : List (Change X)) (last : ℕ) (text : ℕ → Option X) : Type 0 where
  pub rising : are_rising last changes ≡ true
  pub texts : (n : ℕ) → n ≤ last → found n changes ≡ text n
