-- The order by which locations are looked up, and what is noted of them (this project's own).
use Rattle.std.specs.Prelude.{◌≡◌, ℕ, List, [], ◌∷◌, Option, Some, None, if◌then◌else◌}
use Rattle.std.specs.List.{list_any}
use Rattle.std.specs.Map.{lookup}
use Rattle.std.specs.Option.{option_copied}
use Rattle.std.specs.declared.cmp.Ordering.{Ordering}
use Rattle.std.specs.Ordering.{nat_cmp, ordering_then}
use Rattle.std.specs.BTreeMap.{is_at}
use Rattle.std.specs.Cmp.Lexicographic.{slice_cmp}
use denote.Ref.{Bor}
use Rattle.up_entry.specs.declared.entries.Endpoint.{Endpoint}
use Rattle.up_entry.specs.declared.entries.Endpoint.TheVariants.{Local, Address}
use Rattle.up_entry.specs.declared.entries.Location.{Location}
use Rattle.up_entry.specs.declared.fetch.Fetch.{Fetch}
use Rattle.up_answers.specs.Fetching.{Fetched, location_eq}

-- what an endpoint is ordered by: nothing for the host's own store, else a byte and the address
abbrev pub rank : Endpoint → List ℕ
rank Local = []
rank (Address bytes) = 1 ∷ bytes

-- locations in order of reference, and then of endpoint
abbrev pub location_cmp : Location → Location → Ordering
location_cmp a b = ordering_then (slice_cmp nat_cmp a.reference b.reference) (slice_cmp nat_cmp (rank a.endpoint) (rank b.endpoint))

-- the locations of a set are those of a list
pub record AreKnown (known locations : List Location) : Type 0 where
  pub same : (location : Location) → list_any (is_at (location_cmp location)) known ≡ list_any (location_eq location) locations

-- the answer that is noted for a location
abbrev pub noted : List (Location × Bor Fetch) → Location → Option Fetch
noted answers location = option_copied (lookup (is_at (location_cmp location)) answers)

-- one answer, or else another
abbrev pub or_else : Option Fetch → Option Fetch → Option Fetch
or_else None other = other
or_else (Some answer) other = Some answer

-- one more answer is noted, unless there is one for its location
pub record NotesOne (old new : List (Location × Bor Fetch)) (location : Location) (fetch : Fetch) : Type 0 where
  pub same : (other : Location) → noted new other ≡ or_else (noted old other) (if location_eq other location then Some fetch else None)

-- with the rest of what was fetched after them, the answers that are noted are the first for each location in all of it
pub record AreFirst (answers : List (Location × Bor Fetch)) (rest all : Fetched) : Type 0 where
  pub same : (location : Location)
      → or_else (noted answers location) (lookup (location_eq location) rest) ≡ lookup (location_eq location) all
