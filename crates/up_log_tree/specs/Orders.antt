-- Paths in order: lists in which they rise, each of them once. This project's own.
use Rattle.std.specs.Prelude.{◌≡◌, ◌<◌, ◌≤◌, ℕ, Bool, true, false, ◌&&◌, List, [], ◌∷◌, length, Some, slice_get}
use Rattle.std.specs.FinMap.Entries.{by_order}
use Rattle.std.specs.List.{list_all, list_any}
use Rattle.std.specs.Ordering.{is_lt}
use Rattle.up_names.specs.PathNames.{PathName}
use Rattle.up_names.specs.PathOrder.{path_cmp, path_eq}

-- whether the paths rise
abbrev pub are_rising : List PathName → Bool
are_rising [] = true
are_rising (path ∷ paths) = list_all (λ later. is_lt (path_cmp path later)) paths && are_rising paths

-- the paths with this one at its place, once
abbrev pub with_path : PathName → List PathName → List PathName
with_path path [] = path ∷ []
with_path path (first ∷ paths) = by_order (path_cmp path first) (path ∷ first ∷ paths) (first ∷ paths) (first ∷ with_path path paths)

-- whether a path is one of these
abbrev pub has_path : List PathName → PathName → Bool
has_path paths path = list_any (path_eq path) paths

-- the place of a path among others that rise: those before it are below it, and no other is
pub record IsPlaceOf (path : PathName) (paths : List PathName) (place : ℕ) : Type 0 where
  pub bound : place ≤ length paths
  pub before : (n : ℕ) (other : PathName) → n < place → slice_get paths n ≡ Some other → is_lt (path_cmp other path) ≡ true
  pub from : (n : ℕ) (other : PathName) → place ≤ n → slice_get paths n ≡ Some other → is_lt (path_cmp other path) ≡ false
