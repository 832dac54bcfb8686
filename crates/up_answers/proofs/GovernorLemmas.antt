-- The node of the Access file that governs a path.
use Rattle.std.proofs.Common.{◌≡◌, ℕ, Bool, true, false, List, [], ◌∷◌, refl, sym, ap, ◌∙◌, Option, Some, None}
use Rattle.std.specs.Prelude.{Contains, find, if◌then◌else◌, is_some}
use Rattle.std.specs.Option.{option_and_then, option_map}
use Rattle.up_names.specs.PathNames.{PathName}
use Rattle.up_policy.specs.Governors.{prefixes}
use Rattle.up_policy.specs.Trees.{owns_snapshots}
use Rattle.up_policy.proofs.PathLists.{Contains-behind, Contains-head}
use Rattle.up_log_tree.specs.declared.node.Node.{Node}
use Rattle.up_log_tree.specs.Trees.{Tree}
use Rattle.up_log_tree.specs.Rights.{access_node, access_path, governing_prefix}
use Rattle.up_log_tree.proofs.Paths.{some_none}
use Rattle.up_list.specs.Entries.{entry_at, entry_of}
use Rattle.up_list.specs.Governing.{governing_file}
use Rattle.up_list.specs.Looks.{Look, shown}
use Rattle.up_answers.specs.Views.{shown_node}

-- the first that is made of one of these
abbrev pub first_made : {K X : Type 0} → (K → Option X) → List K → Option X
first_made make [] = None
first_made make (k ∷ ks) = elim (make k) [ Some x ↦ Some x | None ↦ first_made make ks ]

pub made_found : {K X : Type 0} (make : K → Option X) (ks : List K) (x : X) → first_made make ks ≡ Some x → (k : K) × Contains ks k × (make k ≡ Some x)
made_found make [] x h = absurd (some_none x (sym h))
made_found {K = K} {X = X} make (k ∷ ks) x h = go (make k) refl h (made_found make ks x)
  where
    go : (made : Option X) → make k ≡ made → elim made as (λ _. Option X) [ Some y ↦ Some y | None ↦ first_made make ks ] ≡ Some x → (first_made make ks ≡ Some x → (q : K) × Contains ks q × (make q ≡ Some x)) → (q : K) × Contains (k ∷ ks) q × (make q ≡ Some x)
    go (Some y) is h rest = (k, Contains-head k ks, is ∙ h)
    go None is h rest = let found = rest h in (found.0, Contains-behind k found.0 ks found.1, found.2)

-- that of the longest prefix that has one; none in a snapshot tree
abbrev pub governor_node : List ℕ → Tree → PathName → Option Node
governor_node owner tree path = if owns_snapshots owner then None else first_made (access_node tree) (prefixes path)

of_first : (tree : Tree) (dirs : List PathName) →
    option_and_then (λ dir. option_map entry_of (access_node tree dir)) (find (λ dir. is_some (access_node tree dir)) dirs) ≡ option_map entry_of (first_made (access_node tree) dirs)
of_first tree [] = refl
of_first tree (dir ∷ dirs) = go (access_node tree dir) refl (of_first tree dirs)
  where
    go : (o : Option Node) → access_node tree dir ≡ o →
        option_and_then (λ dir. option_map entry_of (access_node tree dir)) (find (λ dir. is_some (access_node tree dir)) dirs) ≡ option_map entry_of (first_made (access_node tree) dirs) →
        option_and_then (λ dir. option_map entry_of (access_node tree dir)) (if is_some (access_node tree dir) then Some dir else find (λ dir. is_some (access_node tree dir)) dirs)
        ≡ option_map entry_of (elim (access_node tree dir) as (λ _. Option Node) [ Some x ↦ Some x | None ↦ first_made (access_node tree) dirs ])
    go None is rest =
        ap (λ o. option_and_then (λ dir. option_map entry_of (access_node tree dir)) (if is_some o then Some dir else find (λ dir. is_some (access_node tree dir)) dirs)) is
        ∙ (rest ∙ sym (ap (λ o. option_map entry_of (elim o as (λ _. Option Node) [ Some x ↦ Some x | None ↦ first_made (access_node tree) dirs ])) is))
    go (Some node) is rest =
        ap (λ o. option_and_then (λ dir. option_map entry_of (access_node tree dir)) (if is_some o then Some dir else find (λ dir. is_some (access_node tree dir)) dirs)) is
        ∙ (ap (option_map entry_of) is ∙ sym (ap (λ o. option_map entry_of (elim o as (λ _. Option Node) [ Some x ↦ Some x | None ↦ first_made (access_node tree) dirs ])) is))

-- the file that governs is the entry of that node
pub governing_is : (look : Look) (path : PathName) → governing_file look path ≡ option_map entry_of (governor_node look.owner look.tree path)
unfolding governing_file governing_prefix
governing_is look path = go (owns_snapshots look.owner)
  where
    go : (s : Bool) → (if s then None else option_and_then (λ dir. entry_at look.tree (access_path dir)) (find (λ dir. is_some (access_node look.tree dir)) (prefixes path)))
        ≡ option_map entry_of (if s then None else first_made (access_node look.tree) (prefixes path))
    go true = refl
    go false = of_first look.tree (prefixes path)

shown_of : (look : Look) (o : Option Node) → option_map (shown look) (option_map entry_of o) ≡ option_map (shown_node look) o
shown_of look None = refl
shown_of look (Some node) = refl

pub governor_shown : (look : Look) (path : PathName) → option_map (shown look) (governing_file look path) ≡ option_map (shown_node look) (governor_node look.owner look.tree path)
governor_shown look path = ap (option_map (shown look)) (governing_is look path) ∙ shown_of look (governor_node look.owner look.tree path)
