-- What a record leaves of a tree that puts something where nothing stood.
use Rattle.std.proofs.Common.{◌≡◌, ◌+◌, ◌≤◌, false, cond, length, sym, ap, subst, ◌∙◌, ◌⊎◌, inl, inr, Option, Some, None, T, is_some}
use Rattle.std.specs.Prelude.{codes, Ok}
use Rattle.std.specs.FinMap.Entries.{is_sorted, length-put}
use Rattle.up_access.specs.AccessTexts.{access_of}
use Rattle.up_entry.specs.declared.entries.Entry.{Entry}
use Rattle.up_entry.specs.declared.records.Rec.TheVariants.{Put}
use Rattle.up_log_tree.proofs.Paths.{path_apart, path_same, some_none}
use Rattle.up_log_tree.proofs.Rooted.{cond_some}
use Rattle.up_log_tree.proofs.Trees.{node_at-put}
use Rattle.up_log_tree.specs.Fits.{HasDirectory, root_of}
use Rattle.up_log_tree.specs.Rights.{access_path}
use Rattle.up_log_tree.specs.Trees.{Tree, after_record, is_link, kind_of, node_at}
use Rattle.up_log_tree.specs.declared.node.Node.{Node}
use Rattle.up_names.specs.PathNames.{PathName}
use Rattle.up_names.specs.PathOrder.{path_cmp, path_eq}
use Rattle.up_names.specs.PathOrderLaws.{path_cmp_total}
use Rattle.up_names.specs.Texts.{Text, UserName}
use Rattle.up_plots.proofs.PlotTrees.{put_elsewhere, put_here}
use Rattle.up_plots.specs.Plots.{HasPlot, IsFlat, all_to, file_path, plot_path}

module _ (tree : Tree) (entry : Entry) (text : Text) (free : node_at tree entry.name ≡ None) where
  -- the tree after the record
  abbrev grown : Tree
  grown = after_record tree (Put entry text)

  -- what stood before still stands
  pub still_there : (q : PathName) (node : Node) → node_at tree q ≡ Some node → node_at grown q ≡ Some node
  still_there q node there =
      put_elsewhere tree entry text q (path_apart q entry.name (λ same. some_none node (sym there ∙ ap (λ (p : PathName). node_at tree p) same ∙ free))) ∙ there

  -- and so does a directory
  pub directory_still : (q : PathName) → HasDirectory tree q → HasDirectory grown q
  directory_still q directory = (directory.0, still_there q directory.0 directory.1, directory.2)

  -- what stands after it is what was put, or stood before
  pub grown_cases : (q : PathName) (node : Node) → node_at grown q ≡ Some node → ((q ≡ entry.name) × (record { entry = entry; text = text } ≡ node)) ⊎ (node_at tree q ≡ Some node)
  grown_cases q node there = elim (cond_some (path_eq q entry.name) (record { entry = entry; text = text }) node (node_at tree q) (sym (node_at-put tree entry text q) ∙ there)) [
    | inl new ↦ inl (path_same q entry.name new.0, new.1)
    | inr old ↦ inr old.1
  ]

  -- a tree stays flat, where what is put is no link, stands no deeper than a file in a directory of the root, and is not the root's Access file
  pub flat_more : (owner : UserName) → IsFlat owner tree → is_link entry.attr.kind ≡ false → length entry.name.elements ≤ 2 → path_eq (access_path (root_of owner)) entry.name ≡ false → IsFlat owner grown
  flat_more owner flat unlinked shallow apart = record {
    root = directory_still (root_of owner) flat.root;
    ungoverned = put_elsewhere tree entry text (access_path (root_of owner)) apart ∙ flat.ungoverned;
    plain = λ q node there. elim (grown_cases q node there) [
      | inl new ↦ ap (λ (n : Node). is_link (kind_of n)) (sym new.1) ∙ unlinked
      | inr old ↦ flat.plain q node old
    ];
    short = λ q node there. elim (grown_cases q node there) [
      | inl new ↦ subst (λ (p : PathName). length p.elements ≤ 2) (sym new.0) shallow
      | inr old ↦ flat.short q node old
    ];
  }

  -- a directory that has its Access file keeps it
  pub plot_more : (owner : UserName) (name : Text) (user : UserName) → HasPlot owner tree name user → HasPlot owner grown name user
  plot_more owner name user plot = record {
    directory = directory_still (plot_path owner name) plot.directory;
    node = plot.node;
    stands = still_there (access_path (plot_path owner name)) plot.node plot.stands;
    rules = plot.rules;
  }

  -- a directory has its Access file, once that is put
  pub plot_made : (owner : UserName) (name : Text) (user : UserName) → HasDirectory tree (plot_path owner name) → entry.name ≡ file_path owner name (codes "Access") → access_of owner text ≡ Ok (all_to user)
      → HasPlot owner grown name user
  plot_made owner name user directory named rules = record {
    directory = directory_still (plot_path owner name) directory;
    node = record { entry = entry; text = text };
    stands = put_here tree entry text (file_path owner name (codes "Access")) named;
    rules = rules;
  }

  -- the tree has one item more
  pub one_more : T (is_sorted path_cmp tree) → length grown ≡ length tree + 1
  unfolding node_at after_record
  one_more sorted =
      length-put path_cmp path_cmp_total entry.name (record { entry = entry; text = text }) tree sorted
      ∙ ap (λ (o : Option Node). cond (is_some o) (length tree) (length tree + 1)) free
