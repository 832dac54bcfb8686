-- What each step tells: of the step, the seat before, the number found and the seat after. This project's own.
use Rattle.std.specs.Prelude.{◌≡◌, ◌≢◌, ℕ, ◌≤◌, List, [], ◌∷◌, length, Option, Some}
use mathlib.Core.Option.{some}
use lib.ListN.{get_elem?}
use Rattle.atomic_table.specs.Table.{Me, Step, rest}
use Rattle.up_cell.specs.Positions.{Rising}
use Rattle.up_cell.specs.Turned.{IsLentTo}
use Rattle.up_cell.specs.Views.{Complete, at_rest, in_turn, looked, settled, told}
use Rattle.up_cell.specs.declared.view.View.{View}
use Rattle.up_lists.specs.Begins.{Begins}

module _ {S E F : Type 0} (entries : S → List E) (faults : S → ℕ) (fixed : S → F) where
  -- the turn was taken, and the state with it
  pub record Took (m n : Me (Option S) (View E F)) : Type 0 where
    pub state : S
    pub lent : IsLentTo entries fixed m.0.seen m.0.floor m.0.fixed state
    pub seat : n ≡ (in_turn m.0 (entries state) (faults state), (0, Some state) ∷ m.1)

  -- the turn is taken where it is free, and else nothing changes
  abbrev pub takes_turn : Step (Option S) → Me (Option S) (View E F) → ℕ → Me (Option S) (View E F) → Type 0
  takes_turn st m r n = (r ≡ st.first → Took m n) × (r ≢ st.first → n ≡ m)

  -- what the job added is the seat's own
  abbrev pub tells : Step (Option S) → Me (Option S) (View E F) → ℕ → Me (Option S) (View E F) → Type 0
  tells st m r n = (state : S) → m.1 ≡ (0, Some state) ∷ []
      → (n ≡ (told m.0 (entries state) (faults state), m.1)) × Complete n.0 (length (entries state)) × Rising n.0.own

module _ {S E F : Type 0} where
  -- the state lies in the slot again
  abbrev pub gives_turn : Step (Option S) → Me (Option S) (View E F) → ℕ → Me (Option S) (View E F) → Type 0
  gives_turn st m r n = n ≡ (at_rest m.0, rest m.1)

  -- the count that was found is at least what was seen and what was found before
  abbrev pub looks : Step (Option S) → Me (Option S) (View E F) → ℕ → Me (Option S) (View E F) → Type 0
  looks st m r n = (n ≡ (looked m.0 r, m.1)) × (length m.0.seen ≤ r) × (m.0.floor ≤ r) × Complete n.0 r × Rising n.0.own

  -- what two seats had seen begins what they have seen as one
  abbrev pub settles : Step (Option S) → Me (Option S) (View E F) → ℕ → Me (Option S) (View E F) → Type 0
  settles st m r n =
      (n ≡ (settled m.0, m.1)) × ((k : ℕ) (old : List E) → get_elem? m.0.olds k ≡ some old → Begins old m.0.seen) × Rising n.0.own

  -- nothing changes for the seat
  abbrev pub stays : Step (Option S) → Me (Option S) (View E F) → ℕ → Me (Option S) (View E F) → Type 0
  stays st m r n = n ≡ m
