-- A link of a tree has neither blocks nor packdata, nor has one of a snapshot tree.
use Rattle.std.proofs.Common.{◌≡◌, ℕ, zero, suc, Bool, true, false, List, [], ◌∷◌, length, take, refl, sym, subst, Option, Some, None, arith}
use Rattle.std.specs.Prelude.{⊤, ◌==◌, map, filter, fold, slice_get, if◌then◌else◌}
use Rattle.std.specs.FinMap.Entries as entries
use Rattle.std.specs.List.{AllByRecursion}
use Rattle.std.specs.Map.{values_of}
use Rattle.std.specs.Option.{option_and_then, option_map}
use Rattle.std.proofs.lemmas.Bool.{eqb-true}
use Rattle.up_names.specs.PathNames.{PathName}
use Rattle.up_names.specs.PathOrder.{path_cmp, path_eq}
use Rattle.up_entry.specs.FixedForm.{HasFixedForm}
use Rattle.up_entry.specs.Rules.{blocks_fit, packdata_fits}
use Rattle.up_entry.specs.Showing.{shown_as}
use Rattle.up_entry.specs.declared.entries.Entry.{Entry}
use Rattle.up_entry.specs.declared.entries.Kind.{Kind}
use Rattle.up_entry.specs.declared.entries.Kind.TheVariants.{File, Directory, Link}
use Rattle.up_entry.specs.declared.records.Rec.{Rec}
use Rattle.up_entry.specs.declared.records.Rec.TheVariants as rec
use Rattle.up_log_tree.specs.declared.node.Node.{Node}
use Rattle.up_log_tree.specs.Fits.{Fits, IsLog}
use Rattle.up_log_tree.specs.Logs.{Log}
use Rattle.up_log_tree.specs.Trees.{Tree, after_record, is_link, kind_of, node_at, tree_at, tree_of}
use Rattle.up_log_tree.proofs.Paths.{some_none, some_same}
use Rattle.up_list.specs.Checks.{link_at}
use Rattle.up_list.specs.Entries.{entry_of, if_link}
use Rattle.up_answers.specs.SnapshotTrees.{directories_above, has_room, made_up, moved_node, moved_nodes, snapshot_tree, snapshots_to, with_new, with_node, with_snapshot, with_snapshot_of}
use Rattle.up_alone.proofs.EachLemmas.{Each, all_filter, all_fold, all_got, all_map, all_take, each_found, each_put, each_value}

-- neither blocks nor packdata
abbrev pub IsBare : Entry → Type 0
IsBare e = (e.blocks ≡ []) × (e.packdata ≡ [])

-- a link has neither
abbrev pub BareLink : Node → Type 0
BareLink node = kind_of node ≡ Link → IsBare node.entry

abbrev AreBare : Tree → Type 0
AreBare tree = Each path_cmp BareLink tree

none_left : {X : Type 0} (xs : List X) → (length xs == 0) ≡ true → xs ≡ []
none_left [] h = refl
none_left (x ∷ xs) h = absurd (omega (arith, eqb-true (length (x ∷ xs)) 0 h))

form_bare : (entry : Entry) (kind : Kind) → blocks_fit kind entry.blocks ≡ true → packdata_fits kind entry.packdata ≡ true → kind ≡ Link → IsBare entry
form_bare entry Link blocks packdata is = (none_left entry.blocks blocks, none_left entry.packdata packdata)
form_bare entry File blocks packdata is = absurd (cc)
form_bare entry Directory blocks packdata is = absurd (cc)

-- ---- the tree of a log

abbrev BareRec : Rec → Type 0
BareRec (rec.Put entry text) = BareLink (record { entry = entry; text = text })
BareRec (rec.Delete path) = ⊤
BareRec (rec.Snap time) = ⊤

rec_bare : (owner : List ℕ) (before : List Rec) (r : Rec) → Fits owner before r → BareRec r
rec_bare owner before (rec.Put entry text) fits = form_bare entry entry.attr.kind fits.form.blocks fits.form.packdata
rec_bare owner before (rec.Delete path) fits = tt
rec_bare owner before (rec.Snap time) fits = tt

after_bare : (tree : Tree) (r : Rec) → AreBare tree → BareRec r → AreBare (after_record tree r)
unfolding after_record
after_bare tree (rec.Put entry text) all is = each_put path_cmp BareLink entry.name (record { entry = entry; text = text }) tree is all
after_bare tree (rec.Delete path) all is = all_filter _ _ tree all
after_bare tree (rec.Snap time) all is = all

of_records : (records : List Rec) → AllByRecursion BareRec records → AreBare (tree_of records)
unfolding tree_of
of_records records all = all_fold BareRec AreBare after_record after_bare [] records tt all

records_bare : (owner : List ℕ) (records : List Rec) → IsLog owner records → AllByRecursion BareRec records
records_bare owner records is = all_got BareRec records (λ n r got. rec_bare owner (take n records) r (is.fitting.each n r got))

-- ---- its snapshot tree

abbrev AllBare : List Node → Type 0
AllBare nodes = AllByRecursion BareLink nodes

moved_bare : (time : ℕ) (tree : Tree) → AreBare tree → AllBare (moved_nodes time tree)
unfolding moved_nodes
moved_bare time tree all =
    all_filter BareLink has_room (map (moved_node time) (values_of tree))
    (all_map BareLink BareLink (moved_node time) (λ node is. is) (values_of tree) (each_value path_cmp BareLink tree all))

node_bare : (tree : Tree) (node : Node) → AreBare tree → BareLink node → AreBare (with_node tree node)
node_bare tree node all is = each_put path_cmp BareLink node.entry.name node tree is all

new_bare : (tree : Tree) (node : Node) → AreBare tree → BareLink node → AreBare (with_new tree node)
new_bare tree node all is = go (node_at tree node.entry.name)
  where
    go : (o : Option Node) → AreBare (elim o as (λ _. Tree) [ None ↦ with_node tree node | Some there ↦ tree ])
    go None = node_bare tree node all is
    go (Some there) = all

all_made_up : (writer : List ℕ) (time position : ℕ) (paths : List PathName) → AllBare (map (made_up writer time position) paths)
all_made_up writer time position [] = tt
all_made_up writer time position (path ∷ paths) = (λ is. absurd (cc), all_made_up writer time position paths)

snapshot_bare : (owner : List ℕ) (time position : ℕ) (was tree : Tree) → AreBare was → AreBare tree → AreBare (with_snapshot owner time position was tree)
unfolding with_snapshot
snapshot_bare owner time position was tree old all =
    all_fold BareLink AreBare with_node node_bare _ (moved_nodes time was)
    (all_fold BareLink AreBare with_new new_bare tree (map (made_up owner time position) (directories_above time owner)) all (all_made_up owner time position (directories_above time owner)))
    (moved_bare time was old)

next_bare : (owner : List ℕ) (o : Option Rec) (position : ℕ) (was tree : Tree) → AreBare was → AreBare tree → AreBare (with_snapshot_of owner o position was tree)
next_bare owner None position was tree old all = all
next_bare owner (Some (rec.Put entry text)) position was tree old all = all
next_bare owner (Some (rec.Delete path)) position was tree old all = all
next_bare owner (Some (rec.Snap time)) position was tree old all = snapshot_bare owner time position was tree old all

snapshots_bare : (owner : List ℕ) (records : List Rec) → AllByRecursion BareRec records → (n : ℕ) → AreBare (snapshots_to owner records n)
unfolding snapshots_to
snapshots_bare owner records all zero = tt
snapshots_bare owner records all (suc n) =
    next_bare owner (slice_get records n) (suc n) (tree_at records n) (snapshots_to owner records n) (of_records (take n records) (all_take BareRec n records all)) (snapshots_bare owner records all n)

-- ---- what is shown of a link

-- whatever is shown of a link of a tree has neither blocks nor packdata
abbrev pub ShowsBareLinks : Tree → Type 0
ShowsBareLinks tree = (path : PathName) (link : Entry) → link_at tree path ≡ Some link → (read : Bool) → IsBare (shown_as read link)

shown_bare : (read : Bool) (link : Entry) → IsBare link → IsBare (shown_as read link)
shown_bare true link is = is
shown_bare false link is = (refl, refl)

links_bare : (tree : Tree) → AreBare tree → ShowsBareLinks tree
unfolding node_at
links_bare tree all path link is read = shown_bare read link (go (node_at tree path) refl is)
  where
    of : (node : Node) (kind : Kind) → kind_of node ≡ kind → BareLink node → (if is_link kind then Some node.entry else None) ≡ Some link → IsBare link
    of node Link kind bare is = subst IsBare (some_same node.entry link is) (bare kind)
    of node File kind bare is = absurd (some_none link (sym is))
    of node Directory kind bare is = absurd (some_none link (sym is))

    go : (found : Option Node) → node_at tree path ≡ found → option_and_then if_link (option_map entry_of found) ≡ Some link → IsBare link
    go None there is = absurd (some_none link (sym is))
    go (Some node) there is = of node (kind_of node) refl (each_found path_cmp BareLink path tree node all there) is

pub tree_links : (log : Log) → IsLog log.owner log.records → ShowsBareLinks (tree_of log.records)
tree_links log is = links_bare (tree_of log.records) (of_records log.records (records_bare log.owner log.records is))

pub snapshot_links : (log : Log) → IsLog log.owner log.records → ShowsBareLinks (snapshot_tree log)
snapshot_links log is = links_bare (snapshot_tree log) (snapshots_bare log.owner log.records (records_bare log.owner log.records is) (length log.records))
