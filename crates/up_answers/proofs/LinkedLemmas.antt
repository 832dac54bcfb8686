-- Nothing stands below a link.
use Rattle.std.proofs.Common.{◌≡◌, ℕ, suc, ◌+◌, ◌-◌, ◌<◌, List, length, refl, sym, ap, ◌∙◌, arith, Option, Some, None}
use Rattle.std.specs.Prelude.{if◌then◌else◌}
use Rattle.std.specs.Option.{option_and_then, option_map}
use Rattle.up_names.specs.PathNames.{PathName, cut}
use Rattle.up_entry.specs.declared.entries.Entry.{Entry}
use Rattle.up_entry.specs.declared.entries.Kind.{Kind}
use Rattle.up_entry.specs.declared.entries.Kind.TheVariants.{File, Directory, Link}
use Rattle.up_log_tree.specs.declared.node.Node.{Node}
use Rattle.up_log_tree.specs.Trees.{Tree, kind_of, is_link, node_at}
use Rattle.up_log_tree.proofs.Paths.{some_none, some_same}
use Rattle.up_log_tree.proofs.Rooted.{IsRooted, prefix_directory}
use Rattle.up_list.specs.Checks.{link_at}
use Rattle.up_list.specs.Entries.{entry_of, if_link}

module _ (owner : List ℕ) (tree : Tree) (rooted : IsRooted owner tree) where
  pub is_link_there : (path : PathName) (entry : Entry) → link_at tree path ≡ Some entry → (node : Node) × (node_at tree path ≡ Some node) × (kind_of node ≡ Link) × (node.entry ≡ entry)
  is_link_there path entry h = go (node_at tree path) refl h
    where
      of : (node : Node) (kind : Kind) → kind_of node ≡ kind → (if is_link kind then Some node.entry else None) ≡ Some entry → (kind_of node ≡ Link) × (node.entry ≡ entry)
      of node File is h = absurd (some_none entry (sym h))
      of node Directory is h = absurd (some_none entry (sym h))
      of node Link is h = (is, some_same node.entry entry h)

      go : (found : Option Node) → node_at tree path ≡ found → option_and_then if_link (option_map entry_of found) ≡ Some entry → (node : Node) × (node_at tree path ≡ Some node) × (kind_of node ≡ Link) × (node.entry ≡ entry)
      go None is h = absurd (some_none entry (sym h))
      go (Some node) is h = let both = of node (kind_of node) refl h in (node, is, both.0, both.1)

  pub link_there : (path : PathName) (node : Node) → node_at tree path ≡ Some node → kind_of node ≡ Link → link_at tree path ≡ Some node.entry
  link_there path node there link =
      ap (λ o. option_and_then if_link (option_map entry_of o)) there
      ∙ ap (λ kind. if is_link kind then Some node.entry else None) link

  -- nothing stands below a link
  pub nothing_below : (path : PathName) (entry : Entry) (m : ℕ) (node : Node) → link_at tree (cut m path) ≡ Some entry → m < length path.elements → node_at tree path ≡ Some node → ⊥
  nothing_below path entry m node link less there =
      let found = is_link_there (cut m path) entry link in
      let k : ℕ = length path.elements - suc m in
      let directory = prefix_directory owner tree rooted k path node m there (let e : m + suc k ≡ length path.elements = omega (arith, less) in e) in
      let same : found.0 ≡ directory.0 = some_same found.0 directory.0 (sym found.1 ∙ directory.1) in
      let kinds : Link ≡ Directory = sym found.2 ∙ (ap kind_of same ∙ directory.2) in
      absurd (cc)
