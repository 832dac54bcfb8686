-- The tree of an owner while a storm is prepared, record by record.
use Rattle.std.proofs.Common.{◌≡◌, ℕ, ◌+◌, ◌%◌, ◌<◌, ◌≤◌, false, List, [], ◌∷◌, ◌++◌, length, refl, sym, ap, subst, ◌∙◌, inl, inr, arith, length-append, Some, None, slice_get}
use Rattle.std.specs.Prelude.{◌==◌, codes, decimal, Ok}
use Rattle.std.specs.List.{AllByRecursion}
use Rattle.std.proofs.lemmas.Bool.{cases_lt}
use Rattle.std.proofs.lemmas.Bool.Decides.{nat_tests}
use Rattle.up_access.specs.AccessTexts.{access_of}
use Rattle.up_entry.specs.declared.entries.Block.{Block}
use Rattle.up_entry.specs.declared.entries.Entry.{Entry}
use Rattle.up_entry.specs.declared.records.Rec.{Rec}
use Rattle.up_entry.specs.declared.records.Rec.TheVariants.{Put}
use Rattle.up_log_tree.proofs.Paths.{path_apart, some_none, some_same}
use Rattle.up_log_tree.proofs.Trees.{node_at-empty, tree_of-push, tree_sorted}
use Rattle.up_log_tree.specs.Fits.{HasDirectory, root_of}
use Rattle.up_log_tree.specs.Rights.{access_node, access_path}
use Rattle.up_log_tree.specs.Trees.{Tree, after_record, is_link, kind_of, node_at, tree_of}
use Rattle.up_log_tree.specs.declared.node.Node.{Node}
use Rattle.up_names.specs.PathNames.{PathName}
use Rattle.up_names.specs.PathOrder.{path_eq}
use Rattle.up_names.specs.Texts.{Text, UserName}
use Rattle.up_plots.proofs.PlotGrowing.{flat_more, grown_cases, one_more, plot_made, plot_more}
use Rattle.up_plots.proofs.PlotPuts.{block_record, directory_record}
use Rattle.up_plots.proofs.PlotSizes.{IsSlightRec, IsSlightTree, slight_after}
use Rattle.up_plots.proofs.PlotTrees.{apart_by_length, put_elsewhere, put_here, same_name}
use Rattle.up_plots.specs.Asks.{new_block_file, new_directory}
use Rattle.up_plots.specs.Plots.{HasPlot, IsFlat, all_to, file_path, plot_path}
use Rattle.up_storm.proofs.Grounds.{same_number}
use Rattle.up_storm.proofs.OpeningLemmas.{blank_more}
use Rattle.up_storm.proofs.PreparedReadings.{plot_no_access}
use Rattle.up_storm.proofs.Readings.{file_name}
use Rattle.up_storm.specs.Asked.{user_text}

-- What stands in an owner's tree: the root; of the sessions before `begun` that are of this side the directories, and of those before
-- `ready` the Access files; and no more. The owner's sessions are those whose number has this rest by 2.
pub record Stands (owner : UserName) (side ready begun : ℕ) (tree : Tree) : Type 0 where
  pub flat : IsFlat owner tree
  pub plots : (k : ℕ) → k < ready → k % 2 ≡ side → HasPlot owner tree (decimal k) (user_text k)
  pub bare : (k : ℕ) → ready ≤ k → k < 34 → access_node tree (plot_path owner (decimal k)) ≡ None
  pub free : (k : ℕ) → begun ≤ k → k < 34 → node_at tree (plot_path owner (decimal k)) ≡ None
  pub no_files : (other : UserName) (name : Text) (j : ℕ) → node_at tree (file_path other name (file_name j)) ≡ None
  pub slight : IsSlightTree tree

-- Over these records that stands, all is short, and each record has its own item.
pub record Placed (owner : UserName) (side ready begun size : ℕ) (records : List Rec) : Type 0 where
  pub stands : Stands owner side ready begun (tree_of records)
  pub slight : AllByRecursion IsSlightRec records
  pub wide : length (tree_of records) ≡ length records
  pub long : length records ≡ size
  pub few : length records ≤ 1 + ready + begun

-- ---- paths that differ

-- numbers that fail the test of equality differ
differ : (a b : ℕ) → a == b ≡ false → a ≡ b → ⊥
differ a b h same = grind (arith, nat_tests)

-- no file of a session is named as an Access file
file_no_access : (owner other : UserName) (name more : Text) (j : ℕ) → path_eq (file_path other more (file_name j)) (file_path owner name (codes "Access")) ≡ false
file_no_access owner other name more j =
    path_apart (file_path other more (file_name j)) (file_path owner name (codes "Access"))
    (λ same. differ 102 65 refl (some_same 102 65 (ap (λ (t : Text). slice_get t 0) (some_same (file_name j) (codes "Access") (ap (λ (p : PathName). slice_get p.elements 1) same)))))

-- the Access files of two sessions
access_apart : (owner : UserName) (k m : ℕ) → k < 34 → m < 34 → (k ≡ m → ⊥) → path_eq (access_path (plot_path owner (decimal k))) (file_path owner (decimal m) (codes "Access")) ≡ false
access_apart owner k m low less other =
    path_apart (file_path owner (decimal k) (codes "Access")) (file_path owner (decimal m) (codes "Access"))
    (λ same. other (same_number k m low less (same_name owner (decimal k) (codes "Access") (decimal m) (codes "Access") same)))

-- the directories of two sessions
plots_apart : (owner : UserName) (k m : ℕ) → k < 34 → m < 34 → (k ≡ m → ⊥) → path_eq (plot_path owner (decimal k)) (plot_path owner (decimal m)) ≡ false
plots_apart owner k m low less other =
    path_apart (plot_path owner (decimal k)) (plot_path owner (decimal m))
    (λ same. other (same_number k m low less (some_same (decimal k) (decimal m) (ap (λ (p : PathName). slice_get p.elements 0) same))))

-- ---- the root

-- no entry of an empty tree is too large
empty_slight : IsSlightTree (tree_of [])
unfolding tree_of
empty_slight = record { each = tt }

-- the tree of no records has no item
empty_long : length (tree_of []) + 1 ≡ 1
unfolding tree_of
empty_long = refl

module _ (owner : UserName) (side : ℕ) (slight : IsSlightRec (directory_record owner (root_of owner) 0)) where
  abbrev root_entry : Entry
  root_entry = record ((new_directory owner (root_of owner)).entry) { sequence = 0 + 1 }

  abbrev rooted : Tree
  rooted = after_record (tree_of []) (Put root_entry [])

  nothing_else : (q : PathName) → path_eq q (root_of owner) ≡ false → node_at rooted q ≡ None
  nothing_else q apart = put_elsewhere (tree_of []) root_entry [] q apart ∙ node_at-empty q

  root_only : (q : PathName) (node : Node) → node_at rooted q ≡ Some node → (q ≡ root_of owner) × (record { entry = root_entry; text = [] } ≡ node)
  root_only q node there = elim (grown_cases (tree_of []) root_entry [] (node_at-empty (root_of owner)) q node there) [
    | inl new ↦ new
    | inr old ↦ absurd (some_none node (sym old ∙ node_at-empty q))
  ]

  root_stands : Stands owner side 0 0 rooted
  root_stands = record {
    flat = record {
      root = (record { entry = root_entry; text = [] }, put_here (tree_of []) root_entry [] (root_of owner) refl, refl);
      ungoverned = nothing_else (access_path (root_of owner)) (apart_by_length (access_path (root_of owner)) (root_of owner) (differ 1 0 refl));
      plain = λ q node there. ap (λ (n : Node). is_link (kind_of n)) (sym (root_only q node there).1);
      short = λ q node there. subst (λ (p : PathName). length p.elements ≤ 2) (sym (root_only q node there).0) (omega arith);
    };
    plots = λ k low same. absurd (omega (arith, low));
    bare = λ k high low. nothing_else (access_path (plot_path owner (decimal k))) (apart_by_length (access_path (plot_path owner (decimal k))) (root_of owner) (differ 2 0 refl));
    free = λ k high low. nothing_else (plot_path owner (decimal k)) (apart_by_length (plot_path owner (decimal k)) (root_of owner) (differ 1 0 refl));
    no_files = λ other name j. nothing_else (file_path other name (file_name j)) (apart_by_length (file_path other name (file_name j)) (root_of owner) (differ 2 0 refl));
    slight = slight_after (tree_of []) (directory_record owner (root_of owner) 0) empty_slight slight;
  }

  -- the root's record
  pub root_placed : Placed owner side 0 0 1 (directory_record owner (root_of owner) 0 ∷ [])
  root_placed =
      let tree_is = tree_of-push [] (directory_record owner (root_of owner) 0) in
      record {
        stands = subst (Stands owner side 0 0) (sym tree_is) root_stands;
        slight = (slight, tt);
        wide = ap (λ (t : Tree). length t) tree_is ∙ one_more (tree_of []) root_entry [] (node_at-empty (root_of owner)) (tree_sorted []) ∙ empty_long;
        long = refl;
        few = omega arith;
      }

-- ---- one record more

module _ (owner : UserName) (side : ℕ) where
  -- a record that puts something where nothing stood
  placed_more : (ready begun size next_ready next_begun : ℕ) (records : List Rec) (entry : Entry) (text : Text) → Placed owner side ready begun size records → node_at (tree_of records) entry.name ≡ None → IsSlightRec (Put entry text)
      → Stands owner side next_ready next_begun (after_record (tree_of records) (Put entry text)) → ready + begun + 1 ≤ next_ready + next_begun
      → Placed owner side next_ready next_begun (size + 1) (records ++ Put entry text ∷ [])
  placed_more ready begun size next_ready next_begun records entry text p free slight stands room =
      let tree_is = tree_of-push records (Put entry text) in
      let grown = one_more (tree_of records) entry text free (tree_sorted records) in
      let same : length (tree_of (records ++ Put entry text ∷ [])) ≡ length (after_record (tree_of records) (Put entry text)) = ap (λ (t : Tree). length t) tree_is in
      let longer : length (records ++ Put entry text ∷ []) ≡ length records + 1 = length-append records (Put entry text ∷ []) in
      let wide = p.wide in
      let long = p.long in
      let few = p.few in
      record {
        stands = subst (Stands owner side next_ready next_begun) (sym tree_is) stands;
        slight = blank_more IsSlightRec records (Put entry text) p.slight slight;
        wide = omega (arith, same, grown, longer, wide);
        long = omega (arith, longer, long);
        few = omega (arith, longer, few, room);
      }

  -- ---- a session's directory

  module _ (k : ℕ) (less : k < 34) where
    -- a directory is put
    plot_stands : (tree : Tree) (n : ℕ) → Stands owner side k k tree → IsSlightRec (directory_record owner (plot_path owner (decimal k)) n)
        → Stands owner side k (k + 1) (after_record tree (directory_record owner (plot_path owner (decimal k)) n))
    plot_stands tree n s slight =
        let entry : Entry = record ((new_directory owner (plot_path owner (decimal k))).entry) { sequence = n + 1 } in
        let free = s.free k (omega arith) less in
        record {
          flat = flat_more tree entry [] free owner s.flat refl (let one : length (plot_path owner (decimal k)).elements ≡ 1 = refl in omega (arith, one)) (plot_no_access owner k less);
          plots = λ m low same. plot_more tree entry [] free owner (decimal m) (user_text m) (s.plots m low same);
          bare = λ m high low. put_elsewhere tree entry [] (access_path (plot_path owner (decimal m)))
              (apart_by_length (access_path (plot_path owner (decimal m))) (plot_path owner (decimal k)) (differ 2 1 refl)) ∙ s.bare m high low;
          free = λ m high low. put_elsewhere tree entry [] (plot_path owner (decimal m)) (plots_apart owner m k low less (λ same. omega (arith, same, high)))
              ∙ s.free m (omega (arith, high)) low;
          no_files = λ other name j. put_elsewhere tree entry [] (file_path other name (file_name j))
              (apart_by_length (file_path other name (file_name j)) (plot_path owner (decimal k)) (differ 2 1 refl)) ∙ s.no_files other name j;
          slight = slight_after tree (directory_record owner (plot_path owner (decimal k)) n) s.slight slight;
        }

    -- its record
    pub plot_placed : (records : List Rec) (size : ℕ) → Placed owner side k k size records → IsSlightRec (directory_record owner (plot_path owner (decimal k)) (length records))
        → Placed owner side k (k + 1) (size + 1) (records ++ directory_record owner (plot_path owner (decimal k)) (length records) ∷ [])
    plot_placed records size p slight =
        let entry : Entry = record ((new_directory owner (plot_path owner (decimal k))).entry) { sequence = length records + 1 } in
        placed_more k k size k (k + 1) records entry [] p (p.stands.free k (omega arith) less) slight (plot_stands (tree_of records) (length records) p.stands slight) (omega arith)

    -- it stands then
    pub plot_there : (records : List Rec) → HasDirectory (tree_of (records ++ directory_record owner (plot_path owner (decimal k)) (length records) ∷ [])) (plot_path owner (decimal k))
    plot_there records =
        let entry : Entry = record ((new_directory owner (plot_path owner (decimal k))).entry) { sequence = length records + 1 } in (
          record { entry = entry; text = [] },
          ap (λ (t : Tree). node_at t (plot_path owner (decimal k))) (tree_of-push records (directory_record owner (plot_path owner (decimal k)) (length records)))
              ∙ put_here (tree_of records) entry [] (plot_path owner (decimal k)) refl,
          refl,
        )

    -- ---- and its Access file

    -- an Access file is put
    access_stands : (tree : Tree) (n : ℕ) (block : Block) (text : Text) → Stands owner side k (k + 1) tree → HasDirectory tree (plot_path owner (decimal k)) → access_of owner text ≡ Ok (all_to (user_text k))
        → IsSlightRec (block_record owner (file_path owner (decimal k) (codes "Access")) block text n)
        → Stands owner side (k + 1) (k + 1) (after_record tree (block_record owner (file_path owner (decimal k) (codes "Access")) block text n))
    access_stands tree n block text s directory rules slight =
        let here : PathName = file_path owner (decimal k) (codes "Access") in
        let entry : Entry = record ((new_block_file owner here block).entry) { sequence = n + 1 } in
        let free : node_at tree here ≡ None = s.bare k (omega arith) less in
        record {
          flat = flat_more tree entry text free owner s.flat refl (let two : length here.elements ≡ 2 = refl in omega (arith, two))
              (apart_by_length (access_path (root_of owner)) here (differ 1 2 refl));
          plots = λ m low same. elim (cases_lt m k) [
            | inl before ↦ plot_more tree entry text free owner (decimal m) (user_text m) (s.plots m before same)
            | inr at ↦ let e : k ≡ m = omega (arith, low, at) in
                subst (λ (i : ℕ). HasPlot owner (after_record tree (Put entry text)) (decimal i) (user_text i)) e (plot_made tree entry text free owner (decimal k) (user_text k) directory refl rules)
          ];
          bare = λ m high low. put_elsewhere tree entry text (access_path (plot_path owner (decimal m))) (access_apart owner m k low less (λ same. omega (arith, same, high)))
              ∙ s.bare m (omega (arith, high)) low;
          free = λ m high low. put_elsewhere tree entry text (plot_path owner (decimal m)) (apart_by_length (plot_path owner (decimal m)) here (differ 1 2 refl)) ∙ s.free m high low;
          no_files = λ other name j. put_elsewhere tree entry text (file_path other name (file_name j)) (file_no_access owner other (decimal k) name j) ∙ s.no_files other name j;
          slight = slight_after tree (block_record owner here block text n) s.slight slight;
        }

    -- its record
    pub access_placed : (records : List Rec) (size : ℕ) (block : Block) (text : Text) → Placed owner side k (k + 1) size records → HasDirectory (tree_of records) (plot_path owner (decimal k)) → access_of owner text ≡ Ok (all_to (user_text k))
        → IsSlightRec (block_record owner (file_path owner (decimal k) (codes "Access")) block text (length records))
        → Placed owner side (k + 1) (k + 1) (size + 1) (records ++ block_record owner (file_path owner (decimal k) (codes "Access")) block text (length records) ∷ [])
    access_placed records size block text p directory rules slight =
        let here : PathName = file_path owner (decimal k) (codes "Access") in
        let entry : Entry = record ((new_block_file owner here block).entry) { sequence = length records + 1 } in
        placed_more k (k + 1) size (k + 1) (k + 1) records entry text p (p.stands.bare k (omega arith) less) slight (access_stands (tree_of records) (length records) block text p.stands directory rules slight) (omega arith)

  -- a session of the other side leaves the tree
  pub other_placed : (k size : ℕ) (records : List Rec) → (k % 2 ≡ side → ⊥) → Placed owner side k k size records → Placed owner side (k + 1) (k + 1) size records
  other_placed k size records apart p =
      let few = p.few in
      record {
        stands = record {
          flat = p.stands.flat;
          plots = λ m low same. elim (cases_lt m k) [
            | inl before ↦ p.stands.plots m before same
            | inr at ↦ absurd (let e : k ≡ m = omega (arith, low, at) in apart (ap (λ (i : ℕ). i % 2) e ∙ same))
          ];
          bare = λ m high low. p.stands.bare m (omega (arith, high)) low;
          free = λ m high low. p.stands.free m (omega (arith, high)) low;
          no_files = p.stands.no_files;
          slight = p.stands.slight;
        };
        slight = p.slight;
        wide = p.wide;
        long = p.long;
        few = omega (arith, few);
      }
