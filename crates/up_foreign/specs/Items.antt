-- Which items of a tree are looked at for a request (this project's own).
use Rattle.std.specs.Prelude.{◌≡◌, ◌⊎◌, List, Bool, true, ◌&&◌, nat_lt, length, Some}
use Rattle.up_names.specs.PathNames.{PathName, is_under, parent_of}
use Rattle.up_names.specs.Texts.{UserName}
use Rattle.up_log_tree.specs.Orders.{has_path}
use Rattle.up_list.specs.Globs.{matches_front}
use Rattle.up_foreign.specs.declared.items.Wanted.{Wanted}
use Rattle.up_foreign.specs.declared.items.Wanted.TheVariants.{Under, Matching}

-- the paths under a path; or those of more than so many elements that match the first elements of a pattern
abbrev pub wanted : Wanted → PathName → Bool
wanted (Under path) name = is_under name path.now
wanted (Matching pattern front) name = nat_lt front (length name.elements) && matches_front pattern.now.elements name.elements

-- A walk down from this path meets all that are wanted: each of them is the path itself, or stands in it or in another that is wanted.
abbrev pub IsStart : Wanted → PathName → Type 0
IsStart looked_for start = (name : PathName) → name.owner ≡ start.owner → wanted looked_for name ≡ true →
    (name ≡ start) ⊎ ((dir : PathName) × (parent_of name ≡ Some dir) × ((dir ≡ start) ⊎ (wanted looked_for dir ≡ true)))

-- all these paths are of one owner
abbrev pub AreOwned : UserName → List PathName → Type 0
AreOwned owner paths = (path : PathName) → has_path paths path ≡ true → path.owner ≡ owner
