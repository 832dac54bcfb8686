-- The needed groups of a request: those of other owners whose texts have to be loaded for it (this project's own).
use Rattle.std.specs.Prelude.{◌≡◌, ℕ, zero, suc, ℤ, pos, negsuc, Bool, not, ◌&&◌, nat_lt, if◌then◌else◌}
use Rattle.std.specs.Prelude.{List, [], ◌∷◌, ◌++◌, length, filter, map, take, slice_get, Contains, ◌≤◌, ◌⊎◌, Some, None, Ok, Err}
use Rattle.std.specs.List.{flat_map, IsDistinct}
use Rattle.std.specs.Map.{keys_of}
use Rattle.std.specs.Str.{bytes_eq}
use Rattle.up_names.specs.Texts.{UserName}
use Rattle.up_names.specs.PathNames.{PathName, is_under, control_of}
use Rattle.up_names.specs.PathOrder.{path_eq}
use Rattle.up_entry.specs.ControlFiles.{is_ordinary}
use Rattle.up_policy.specs.declared.load_answer.LoadAnswer.{LoadAnswer}
use Rattle.up_policy.specs.Reached.{needed, with_paths}
use Rattle.up_wire.specs.declared.requests.Request.{Request}
use Rattle.up_log_tree.specs.Trees.{Tree, tree_of, tree_at}
use Rattle.up_log_tree.specs.Rights.{facts_of, group_paths}
use Rattle.up_log_tree.specs.Logs.{Log}
use Rattle.up_list.specs.declared.asking.ReadRequest.{ReadRequest}
use Rattle.up_list.specs.declared.asking.ReadRequest.TheVariants.{Lookup, WhichAccess, GroupText, Delete, Put, Glob, Watch}
use Rattle.up_list.specs.Globs.{literal_path, is_candidate}
use Rattle.up_list.specs.Asking.{asked_of, owner_asked}
use Rattle.up_answers.specs.Events.{change_at}
use Rattle.up_policy.specs.Loadings.{Loading}

-- a path that is looked at, and the tree in which
abbrev pub Place : Type 0
Place = Tree × PathName

-- the items of a tree whose paths pass a test, in order of paths
abbrev pub items_where : (PathName → Bool) → Tree → List Place
items_where test tree = map (λ path. (tree, path)) (filter test (keys_of tree))

-- The path of record n + 1, where it is above the sequence and under the watched path: in the tree of now, and in the tree directly
-- after the record.
abbrev pub event_places : Log → ℕ → PathName → ℕ → List Place
event_places log sequence path n = elim (change_at log.records n) [
  | None ↦ []
  | Some change ↦
      if nat_lt sequence (suc n) && is_under change.entry.name path
      then (tree_of log.records, change.entry.name) ∷ (tree_at log.records (suc n), change.entry.name) ∷ [] else []
]

-- the places that Watch looks at for the events of the first n records, in order
abbrev pub event_places_to : Log → ℕ → PathName → ℕ → List Place
event_places_to log sequence path zero = []
event_places_to log sequence path (suc n) = event_places_to log sequence path n ++ event_places log sequence path n

-- what a Watch looks at after the watched path, by its sequence
abbrev pub watch_places : Log → PathName → ℤ → List Place
watch_places log path (pos sequence) = event_places_to log sequence path (length log.records)
watch_places log path (negsuc zero) = items_where (λ name. is_under name path) (tree_of log.records)
watch_places log path (negsuc (suc n)) = []

-- The places that are looked at for a user who is not the owner: the path of the request; for a Glob the path of the literal
-- elements in front and then the items that match; for a Watch the path and then its events or items. GroupText loads nothing.
unfoldable pub places : Log → ReadRequest → List Place
places log (GroupText path) = []
places log (Lookup path) = (tree_of log.records, path) ∷ []
places log (WhichAccess path) = (tree_of log.records, path) ∷ []
places log (Delete path) = (tree_of log.records, path) ∷ []
places log (Put put) = (tree_of log.records, put.entry.name) ∷ []
places log (Glob pattern) = (tree_of log.records, literal_path pattern) ∷ items_where (is_candidate pattern) (tree_of log.records)
places log (Watch path sequence) = (tree_of log.records, path) ∷ watch_places log path sequence

-- the place of an ordinary path; the owner's rights on any other need no text
abbrev pub where_ordinary : Log → PathName → List Place
where_ordinary log path = if is_ordinary (control_of path) then (tree_of log.records, path) ∷ [] else []

-- Those for the owner: the path of a Put or a Delete, where it is an ordinary path.
unfoldable pub owner_places : Log → ReadRequest → List Place
owner_places log (Delete path) = where_ordinary log path
owner_places log (Put put) = where_ordinary log put.entry.name
owner_places log (Lookup path) = []
owner_places log (WhichAccess path) = []
owner_places log (GroupText path) = []
owner_places log (Glob pattern) = []
owner_places log (Watch path sequence) = []

-- the places for a user; none outside the tree, so also in its snapshot tree
abbrev pub places_for : Log → UserName → ReadRequest → List Place
places_for log user asked =
    if not (bytes_eq (owner_asked asked) log.owner) then []
    else if bytes_eq user log.owner then owner_places log asked
    else places log asked

-- the needed groups of one place
abbrev pub needed_at : Log → Loading → Place → List PathName
needed_at log loaded place = needed (facts_of log.owner place.0) (group_paths place.0) loaded place.1

-- The needed groups of a request whose texts were read: those of its places, one after the other, without repeats, and without those
-- that have an answer already.
unfoldable pub needs_asked : Log → Loading → UserName → ReadRequest → List PathName
needs_asked log loaded user asked = with_paths [] (flat_map (needed_at log loaded) (places_for log user asked))

-- The needed groups of a request; none where something of it is malformed.
unfoldable pub needs : Log → Loading → UserName → Request → List PathName
needs log loaded user request = elim (asked_of user request) [
  | Ok asked ↦ needs_asked log loaded user asked
  | Err fault ↦ []
]

-- the log as it was after the first n records
abbrev pub first_records : ℕ → Log → Log
first_records n log = record log { records = take n log.records }

-- A loading for an event at position n, whose caller had seen `floor` records: its names differ; each was needed over some k first
-- records, from `floor` to n, with the answers before it; and over n records no group is needed any more, or 1,024 were loaded. What
-- each name was answered is the matter of those who were asked.
pub record IsLoading (log : Log) (floor n : ℕ) (user : UserName) (request : Request) (loaded : Loading) : Type 0 where
  pub names : IsDistinct path_eq (keys_of loaded)
  pub stood : (i : ℕ) (pair : PathName × LoadAnswer) → slice_get loaded i ≡ Some pair
      → (k : ℕ) × (floor ≤ k) × (k ≤ n) × Contains (needs (first_records k log) (take i loaded) user request) pair.0
  pub ended : (needs (first_records n log) loaded user request ≡ []) ⊎ (length loaded ≡ 1024)
