-- Lists in order and without repeats, and the order in which readers are told. This project's own.
use Rattle.std.specs.Prelude.{ℕ, List, [], fold}
use Rattle.std.specs.FinMap.Entries.{put}
use Rattle.std.specs.Map.{keys_of}
use Rattle.std.specs.Cmp.Lexicographic.{slice_cmp}
use Rattle.std.specs.Ordering.{nat_cmp, ordering_then}
use Rattle.std.specs.declared.cmp.Ordering.{Ordering}
use Rattle.up_names.specs.Texts.{Text}
use Rattle.up_names.specs.declared.items.Item.{Item}
use Rattle.up_names.specs.declared.items.Item.TheVariants.{Everyone, Domain, User, Group}
use Rattle.up_names.specs.PathNames.{PathName}
use Rattle.up_names.specs.PathOrder.{path_cmp}

-- the keys of a map that has nothing at them, in order and each once
abbrev pub Keys : Type 0 → Type 0
Keys K = List (K × Unit {0})

-- these keys and one more
abbrev pub with_key : {K : Type 0} → (K → K → Ordering) → Keys K → K → Keys K
with_key cmp keys key = put cmp key tt keys

-- these keys and all of those
abbrev pub with_keys : {K : Type 0} → (K → K → Ordering) → Keys K → List K → Keys K
with_keys cmp keys more = fold (with_key cmp) keys more

-- the elements of a list in order, each once
abbrev pub in_order : {K : Type 0} → (K → K → Ordering) → List K → List K
in_order cmp list = keys_of (with_keys cmp [] list)

-- everyone comes first, then domains, then users; a group is no reader, and would come last
abbrev pub rank : Item → ℕ
rank Everyone = 0
rank (Domain domain) = 1
rank (User user) = 2
rank (Group path) = 3

-- the name of a domain or a user
abbrev pub name_in : Item → Text
name_in Everyone = []
name_in (Domain domain) = domain
name_in (User user) = user
name_in (Group path) = []

-- the path of a group; of all others one path, which parts none from another
abbrev pub path_in : Item → PathName
path_in (Group path) = path
path_in Everyone = record { owner = []; elements = [] }
path_in (Domain domain) = record { owner = []; elements = [] }
path_in (User user) = record { owner = []; elements = [] }

-- Readers are told in this order: everyone, domains by their bytes, users by their bytes.
abbrev pub item_cmp : Item → Item → Ordering
item_cmp one other =
    ordering_then (nat_cmp (rank one) (rank other))
    (ordering_then (slice_cmp nat_cmp (name_in one) (name_in other)) (path_cmp (path_in one) (path_in other)))
