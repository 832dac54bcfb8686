-- A Snap changes nothing of what stands at a path.
use Rattle.std.proofs.Common.{◌≡◌, ℕ, ◌+◌, List, [], ◌∷◌, ◌++◌, length, map, sym, ap, subst, ◌∙◌, arith, Option, Some}
use Rattle.std.specs.Prelude.{unwrap_or}
use Rattle.std.proofs.lemmas.List.{length-append, take-append-le, take_all}
use Rattle.up_names.specs.PathNames.{PathName}
use Rattle.up_entry.specs.declared.records.Rec.{Rec}
use Rattle.up_entry.specs.declared.records.Rec.TheVariants.{Snap}
use Rattle.up_mem_tree.specs.declared.history.Change.{Change}
use Rattle.up_log_tree.specs.Changes.{last_change}
use Rattle.up_mem_tree.specs.Histories.{Tells}
use Rattle.up_log_tree.specs.Rights.{facts_of}
use Rattle.up_mem_tree.specs.Slots.{AreLinked, AreSlotsOf, Known, named_paths}
use Rattle.up_log_tree.specs.Trees.{Tree, after_record, children, tree_at, tree_of}
use Rattle.up_mem_tree.proofs.Named.{last_change-push, named_paths-push}
use Rattle.up_mem_tree.proofs.Told.{tells_same}
use Rattle.up_log_tree.proofs.Trees.{tree_of-push}

module _ (owner : List ℕ) (records : List Rec) (time : ℕ) where
  pub tree_snapped : tree_of (records ++ Snap time ∷ []) ≡ tree_of records
  unfolding after_record
  tree_snapped = tree_of-push records (Snap time)

  pub named_snapped : named_paths (records ++ Snap time ∷ []) ≡ named_paths records
  named_snapped = named_paths-push records (Snap time)

  last_snapped : (path : PathName) → last_change (records ++ Snap time ∷ []) path ≡ last_change records path
  last_snapped path = last_change-push records (Snap time) path

  long : length (records ++ Snap time ∷ []) ≡ length records + 1
  long = let l = length-append records (Snap time ∷ []) in omega (arith, l)

  still_told : {X : Type 0} (text : Tree → Option X) (changes : List (Change X)) → Tells changes (length records) (λ n. text (tree_at records n)) → Tells changes (length (records ++ Snap time ∷ [])) (λ n. text (tree_at (records ++ Snap time ∷ []) n))
  still_told text changes tells =
      subst (λ k. Tells changes k (λ n. text (tree_at (records ++ Snap time ∷ []) n))) (sym long)
      (tells_same changes (length records) (λ n. text (tree_at records n)) (λ n. text (tree_at (records ++ Snap time ∷ []) n)) tells
      (λ n le. ap (λ front. text (tree_of front)) (take-append-le n records (Snap time ∷ []) le))
      (ap (λ front. text (tree_of front)) (take_all (length records + 1) (records ++ Snap time ∷ []) (let l = long in omega (arith, l)))
      ∙ ap text tree_snapped ∙ sym (ap (λ front. text (tree_of front)) (take_all (length records) records (omega arith)))))

  pub snapped_slots : (slots : List Known) → AreSlotsOf owner records slots → AreSlotsOf owner (records ++ Snap time ∷ []) slots
  snapped_slots slots are = record {
    linked = subst (λ paths. AreLinked owner paths slots) (sym named_snapped) are.linked;
    told = λ i slot is. let told = are.told i slot is in record {
      last = told.last ∙ ap (λ o. unwrap_or o 0) (sym (last_snapped slot.path));
      children = told.children ∙ ap (λ tree. map Some (children tree slot.path)) (sym tree_snapped);
      access = still_told (λ tree. (facts_of owner tree).access slot.path) slot.access told.access;
      group = still_told (λ tree. (facts_of owner tree).group slot.path) slot.group told.group;
    };
  }
