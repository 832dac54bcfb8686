-- The items in a directory: each stands in it, at its name, and each once.
use Rattle.std.proofs.Common.{◌≡◌, ℕ, Bool, true, false, List, [], ◌∷◌, length, map, refl, sym, ap, ◌∙◌, Option, Some, None}
use Rattle.std.specs.Prelude.{filter, if◌then◌else◌}
use Rattle.std.specs.FinMap.Entries.{find}
use Rattle.std.specs.List.{AllByRecursion}
use Rattle.std.specs.Map.{values_of}
use Rattle.std.specs.Option.{option_map, option_and_then, option_to_list}
use Rattle.std.proofs.lemmas.Bool.{false≢true}
use Rattle.up_names.specs.PathNames.{PathName, parent_of}
use Rattle.up_names.specs.PathOrder.{path_eq, path_cmp}
use Rattle.up_entry.specs.declared.entries.Entry.{Entry}
use Rattle.up_log_tree.specs.declared.node.Node.{Node}
use Rattle.up_log_tree.specs.Trees.{Tree, node_at, is_parent}
use Rattle.up_log_tree.proofs.Trees.{find-made, made_sorted}
use Rattle.up_list.specs.Entries.{entry_of, entry_at, entries_in, nodes_in}
use Rattle.up_list.specs.Looks.{Look}
use Rattle.up_list.specs.Places.{IsIn, IsOwned}
use Rattle.up_list.specs.Rooted.{IsRooted}
use Rattle.up_list.proofs.BelowLemmas.{parent_is}
use Rattle.up_list.proofs.PickLemmas.{filter_alike, filter_of_map}
use Rattle.up_list.proofs.SortedLemmas.{eq_itself, eq_same, found_all, sorted_one}

some_none : {X : Type 0} (x : X) → Some x ≡ None → ⊥
some_none x h = absurd (cc)

some_same : {X : Type 0} (x y : X) → Some x ≡ Some y → x ≡ y
some_same x y h = cc

pub all_weaker : {X : Type 0} (P Q : X → Type 0) → ((x : X) → P x → Q x) → (xs : List X) → AllByRecursion P xs → AllByRecursion Q xs
all_weaker P Q f [] h = tt
all_weaker P Q f (x ∷ xs) h = (f x h.0, all_weaker P Q f xs h.1)

pub all_mapped : {X Y : Type 0} (P : Y → Type 0) (f : X → Y) (xs : List X) → AllByRecursion (λ x. P (f x)) xs → AllByRecursion P (map f xs)
all_mapped P f [] h = tt
all_mapped P f (x ∷ xs) h = (h.0, all_mapped P f xs h.1)

-- a parent is the path without its last element
pub parent_known : (dir path : PathName) → is_parent dir path ≡ true → parent_of path ≡ Some dir
unfolding is_parent
parent_known dir path h = go (parent_of path) refl h
  where
    go : (o : Option PathName) → parent_of path ≡ o → elim o as (λ _. Bool) [ None ↦ false | Some parent ↦ path_eq parent dir ] ≡ true → parent_of path ≡ Some dir
    go None e k = absurd (false≢true k)
    go (Some parent) e k = e ∙ ap Some (eq_same parent dir k)

module _ (owner : List ℕ) (tree : Tree) (rooted : IsRooted owner tree) (dir : PathName) where
  record IsChild (item : PathName × Node) : Type 0 where
    stands : node_at tree item.0 ≡ Some item.1
    below : is_parent dir item.0 ≡ true

  child_of : (item : PathName × Node) → find path_cmp item.0 (nodes_in tree dir) ≡ Some item.1 → IsChild item
  child_of item h = at (node_at tree item.0) refl (sym (find-made (λ path node. if is_parent dir path then Some node else None) item.0 tree rooted.ordered) ∙ h)
    where
      at : (o : Option Node) → node_at tree item.0 ≡ o → option_and_then (λ node. if is_parent dir item.0 then Some node else None) o ≡ Some item.1 → IsChild item
      at None e k = absurd (some_none item.1 (sym k))
      at (Some node) e k = tested (is_parent dir item.0) refl k
        where
          tested : (b : Bool) → is_parent dir item.0 ≡ b → (if b then Some node else None) ≡ Some item.1 → IsChild item
          tested true f l = record { stands = e ∙ l; below = f }
          tested false f l = absurd (some_none item.1 (sym l))

  children : AllByRecursion IsChild (nodes_in tree dir)
  children =
      all_weaker (λ e. find path_cmp e.0 (nodes_in tree dir) ≡ Some e.1) IsChild child_of (nodes_in tree dir)
      (found_all (nodes_in tree dir) (made_sorted (λ path node. if is_parent dir path then Some node else None) tree rooted.ordered))

  -- what stands at a path among the items of a directory
  pub one_entry : (q : PathName) → filter (λ (e : Entry). path_eq q e.name) (entries_in tree dir) ≡ (if is_parent dir q then option_to_list (entry_at tree q) else [])
  one_entry q =
      filter_of_map (λ (e : Entry). path_eq q e.name) entry_of (values_of (nodes_in tree dir))
      ∙ (ap (map entry_of) (filter_of_map (λ (n : Node). path_eq q n.entry.name) (λ e. e.1) (nodes_in tree dir))
      ∙ (ap (λ es. map entry_of (map (λ e. e.1) es)) (filter_alike (λ e. path_eq q e.1.entry.name) (λ e. path_eq q e.0) (nodes_in tree dir)
      (all_weaker IsChild (λ e. path_eq q e.1.entry.name ≡ path_eq q e.0) (λ e is. ap (path_eq q) (rooted.named e.0 e.1 is.stands)) (nodes_in tree dir) children))
      ∙ (ap (map entry_of) (sorted_one q (nodes_in tree dir) (made_sorted (λ path node. if is_parent dir path then Some node else None) tree rooted.ordered)
      ∙ ap option_to_list (find-made (λ path node. if is_parent dir path then Some node else None) q tree rooted.ordered))
      ∙ made (node_at tree q) (is_parent dir q))))
    where
      made : (o : Option Node) (b : Bool) → map entry_of (option_to_list (option_and_then (λ node. if b then Some node else None) o)) ≡ (if b then option_to_list (option_map entry_of o) else [])
      made None true = refl
      made None false = refl
      made (Some node) true = refl
      made (Some node) false = refl

-- the items of a directory stand in it
pub all_in : (look : Look) (at : ℕ) (dir : PathName) → IsRooted look.owner look.tree → length dir.elements ≡ at → AllByRecursion (IsIn look at dir) (entries_in look.tree dir)
all_in look at dir rooted size =
    all_mapped (IsIn look at dir) entry_of (values_of (nodes_in look.tree dir)) (all_mapped (λ (n : Node). IsIn look at dir n.entry) (λ e. e.1) (nodes_in look.tree dir)
    (all_weaker (IsChild look.owner look.tree rooted dir) (λ (e : PathName × Node). IsIn look at dir e.1.entry) (λ e is.
    let name : e.1.entry.name ≡ e.0 = rooted.named e.0 e.1 is.stands in
    record { stands = ap (entry_at look.tree) name ∙ ap (option_map entry_of) is.stands; parent = ap parent_of name ∙ parent_known dir e.0 is.below; size = size })
    (nodes_in look.tree dir) (children look.owner look.tree rooted dir)))

-- and have its owner
pub all_owned : (look : Look) (at : ℕ) (dir : PathName) (entries : List Entry) → dir.owner ≡ look.owner → AllByRecursion (IsIn look at dir) entries → AllByRecursion (IsOwned look) entries
all_owned look at dir entries owned all =
    all_weaker (IsIn look at dir) (IsOwned look) (λ e is. ap (λ (p : PathName). p.owner) (parent_is e.name dir is.parent).1 ∙ owned) entries all
