-- A tree has no more items than its log has records.
use Rattle.std.proofs.Common.{◌≤◌, ◌+◌, ℕ, Bool, true, false, cond, List, [], ◌∷◌, filter, length, map, fold, not, arith}
use Rattle.std.proofs.lemmas.List.{length-map}
use Rattle.std.proofs.lemmas.List.Sums.{count_by-le-length, length-filter}
use Rattle.std.specs.FinMap.Entries.{by_order, put}
use Rattle.std.specs.Map.{keys_of}
use Rattle.std.specs.declared.cmp.Ordering.{Ordering}
use Rattle.std.specs.declared.cmp.Ordering.TheVariants.{Less, Equal, Greater}
use Rattle.up_names.specs.PathNames.{PathName}
use Rattle.up_names.specs.PathOrder.{path_cmp, path_eq}
use Rattle.up_entry.specs.declared.records.Rec.{Rec}
use Rattle.up_entry.specs.declared.records.Rec.TheVariants.{Put, Delete, Snap}
use Rattle.up_log_tree.specs.Trees.{Tree, after_record, children, is_parent, tree_of}

filtered : {X : Type 0} (p : X → Bool) (xs : List X) → length (filter p xs) ≤ length xs
filtered p xs = omega (arith, length-filter p xs, count_by-le-length p xs)

put_step : {K X : Type 0} (o : Ordering) (k : K) (v : X) (e : K × X) (es rest : List (K × X)) → length rest ≤ length es + 1
    → length (by_order o ((k, v) ∷ e ∷ es) ((e.0, v) ∷ es) (e ∷ rest)) ≤ length (e ∷ es) + 1
put_step Less k v e es rest few = omega arith
put_step Equal k v e es rest few = omega arith
put_step Greater k v e es rest few = omega (arith, few)

put_more : {K X : Type 0} (order : K → K → Ordering) (k : K) (v : X) (es : List (K × X)) → length (put order k v es) ≤ length es + 1
put_more order k v [] = omega arith
put_more order k v (e ∷ es) = put_step (order k e.0) k v e es (put order k v es) (put_more order k v es)

one_more : (tree : Tree) (rec : Rec) → length (after_record tree rec) ≤ length tree + 1
unfolding after_record
one_more tree (Put entry text) = put_more path_cmp entry.name (record { entry = entry; text = text }) tree
one_more tree (Delete path) = omega (arith, filtered (λ item. not (path_eq path item.0)) tree)
one_more tree (Snap time) = omega arith

many_more : (tree : Tree) (records : List Rec) → length (fold after_record tree records) ≤ length tree + length records
many_more tree [] = omega arith
many_more tree (rec ∷ records) = omega (arith, one_more tree rec, many_more (after_record tree rec) records)

pub children_few : (records : List Rec) (dir : PathName) → length (children (tree_of records) dir) ≤ length records
unfolding children tree_of
children_few records dir = omega (arith, filtered (is_parent dir) (keys_of (tree_of records)), length-map (tree_of records) (λ (e : PathName × _). e.0), many_more [] records)
