-- Which blocks of a store nobody names any more. This project's own.
use Rattle.std.specs.Prelude.{ℕ, ◌-◌, Bool, false, true, not, List, ◌∷◌, filter, length, map}
use Rattle.std.specs.List.{flat_map, list_any}
use Rattle.std.specs.Map.{keys_of}
use Rattle.std.specs.Str.{bytes_eq}
use Rattle.up_audit.specs.declared.audit.Audit.{Audit}
use Rattle.up_blocks.specs.Records.{blocks_of}
use Rattle.up_blocks.specs.declared.record.BlockRecord.{BlockRecord}
use Rattle.up_entry.specs.declared.entries.Block.{Block}
use Rattle.up_entry.specs.declared.entries.Entry.{Entry}
use Rattle.up_entry.specs.declared.records.Rec.{Rec}
use Rattle.up_entry.specs.declared.records.Rec.TheVariants.{Put, Delete, Snap}
use Rattle.up_log_tree.specs.Changes.{positions_of}
use Rattle.up_log_tree.specs.Trees.{Tree, tree_at, tree_of}

-- a reference, as its bytes
abbrev pub Ref : Type 0
Ref = List ℕ

-- ---- what a log names

-- the references of all blocks of an entry, whatever their endpoint
abbrev pub references_of : Entry → List Ref
references_of entry = map (λ (block : Block). block.location.reference) entry.blocks

-- the references of all entries of a tree
unfoldable pub tree_references : Tree → List Ref
tree_references tree = flat_map (λ item. references_of item.1.entry) tree

-- whether a record takes a snapshot
abbrev pub is_snap : Rec → Bool
is_snap (Put entry text) = false
is_snap (Delete path) = false
is_snap (Snap time) = true

-- the trees that a log shows: the tree as it is now, and as it was directly before each snapshot record
unfoldable pub shown_trees : List Rec → List Tree
shown_trees records = tree_of records ∷ map (λ position. tree_at records (position - 1)) (positions_of is_snap 0 records)

-- the references that a log uses: those of all entries of the trees that it shows
unfoldable pub used_in : List Rec → List Ref
used_in records = flat_map tree_references (shown_trees records)

-- ---- what a store holds

-- whether a reference is one of these
abbrev pub is_among : List Ref → Ref → Bool
is_among references reference = list_any (bytes_eq reference) references

-- the references of the blocks that a store holds, in order of bytes
abbrev pub held_in : List BlockRecord → List Ref
held_in store = keys_of (blocks_of store)

-- the loose references: those of blocks that the store holds and no tree's log uses, in order of bytes
unfoldable pub loose_in : List (List Rec) → List BlockRecord → List Ref
loose_in logs store = filter (λ reference. not (is_among (flat_map used_in logs) reference)) (held_in store)

-- how many blocks are held, and which of them are loose
unfoldable pub audit_of : List (List Rec) → List BlockRecord → Audit
audit_of logs store = record { held = length (held_in store); loose = loose_in logs store }
