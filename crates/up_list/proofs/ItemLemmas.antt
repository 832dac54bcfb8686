-- Items stand at their names.
use Rattle.std.proofs.Common.{◌≡◌, ℕ, zero, suc, Bool, true, false, List, [], ◌∷◌, length, refl, sym, ap, ◌∙◌, Option, Some, None}
use Rattle.std.specs.Prelude.{if◌then◌else◌, find, is_some}
use Rattle.std.specs.Option.{option_map, option_and_then}
use Rattle.up_names.specs.PathNames.{PathName, cut}
use Rattle.up_entry.specs.declared.entries.Entry.{Entry}
use Rattle.up_wire.specs.declared.replies.Reply.TheVariants.{Ok, NotExist}
use Rattle.up_wire.specs.declared.replies.Done.TheVariants as done
use Rattle.up_policy.specs.Governors.{prefixes_to}
use Rattle.up_policy.specs.Trees.{owns_snapshots}
use Rattle.up_log_tree.specs.declared.node.Node.{Node}
use Rattle.up_log_tree.specs.Trees.{Tree, node_at}
use Rattle.up_log_tree.specs.Rights.{access_node, access_path, governing_prefix}
use Rattle.up_list.specs.Entries.{entry_of, entry_at}
use Rattle.up_list.specs.Governing.{governing_file}
use Rattle.up_list.specs.Globs.{one_row}
use Rattle.up_list.specs.Looks.{Look, shown}
use Rattle.up_list.specs.Reads.{entry_reply}
use Rattle.up_list.specs.Rooted.{IsRooted}

some_none : {X : Type 0} (x : X) → Some x ≡ None → ⊥
some_none x h = absurd (cc)

some_same : {X : Type 0} (x y : X) → Some x ≡ Some y → x ≡ y
some_same x y h = cc

-- an item stands at its name
pub entry_named : (owner : List ℕ) (tree : Tree) (path : PathName) (entry : Entry) → IsRooted owner tree → Some entry ≡ entry_at tree path → entry.name ≡ path
entry_named owner tree path entry rooted h = at (node_at tree path) refl h
  where
    at : (o : Option Node) → node_at tree path ≡ o → Some entry ≡ option_map entry_of o → entry.name ≡ path
    at None e k = absurd (some_none entry k)
    at (Some node) e k = ap (λ (x : Entry). x.name) (some_same entry node.entry k) ∙ rooted.named path node e

-- the prefix that governs has the path's owner
prefix_owned : (test : PathName → Bool) (path dir : PathName) (n : ℕ) → find test (prefixes_to n path) ≡ Some dir → dir.owner ≡ path.owner
prefix_owned test path dir zero h = at (test (cut 0 path)) h
  where
    at : (b : Bool) → (if b then Some (cut 0 path) else None) ≡ Some dir → dir.owner ≡ path.owner
    at true k = ap (λ (p : PathName). p.owner) (sym (some_same (cut 0 path) dir k))
    at false k = absurd (some_none dir (sym k))
prefix_owned test path dir (suc n) h = at (test (cut (suc n) path)) (prefix_owned test path dir n) h
  where
    at : (b : Bool) → (find test (prefixes_to n path) ≡ Some dir → dir.owner ≡ path.owner) → (if b then Some (cut (suc n) path) else find test (prefixes_to n path)) ≡ Some dir → dir.owner ≡ path.owner
    at true rest k = ap (λ (p : PathName). p.owner) (sym (some_same (cut (suc n) path) dir k))
    at false rest k = rest k

-- the Access file that governs a path has the path's owner
pub governing_owned : (look : Look) (path : PathName) (entry : Entry) → IsRooted look.owner look.tree → Some entry ≡ governing_file look path → path.owner ≡ look.owner → entry.name.owner ≡ look.owner
unfolding governing_file governing_prefix
governing_owned look path entry rooted h owned = snapshots (owns_snapshots look.owner) h
  where
    prefix : (o : Option PathName) → find (λ dir. is_some (access_node look.tree dir)) (prefixes_to (length path.elements) path) ≡ o → Some entry ≡ option_and_then (λ dir. entry_at look.tree (access_path dir)) o → entry.name.owner ≡ look.owner
    prefix None e k = absurd (some_none entry k)
    prefix (Some dir) e k =
        ap (λ (p : PathName). p.owner) (entry_named look.owner look.tree (access_path dir) entry rooted k)
        ∙ (prefix_owned (λ dir. is_some (access_node look.tree dir)) path dir (length path.elements) e ∙ owned)

    snapshots : (b : Bool) → Some entry ≡ (if b then None else option_and_then (λ dir. entry_at look.tree (access_path dir)) (find (λ dir. is_some (access_node look.tree dir)) (prefixes_to (length path.elements) path))) → entry.name.owner ≡ look.owner
    snapshots true k = absurd (some_none entry k)
    snapshots false k = prefix (find (λ dir. is_some (access_node look.tree dir)) (prefixes_to (length path.elements) path)) refl k

-- what is shown of an item, in a reply
pub reply_some : (look : Look) (o : Option Entry) (entry : Entry) → Some entry ≡ option_map (shown look) o → Ok (done.Entry entry) ≡ entry_reply look o
reply_some look None entry h = absurd (some_none entry h)
reply_some look (Some found) entry h = ap (λ e. Ok (done.Entry e)) (some_same entry (shown look found) h)

pub reply_none : (look : Look) (o : Option Entry) → None ≡ option_map (shown look) o → NotExist ≡ entry_reply look o
reply_none look None h = refl
reply_none look (Some found) h = absurd (some_none (shown look found) (sym h))

pub row_some : (look : Look) (o : Option Entry) (entry : Entry) → Some entry ≡ option_map (shown look) o → Ok (done.Rows (record { entry = entry; rest = 0 } ∷ [])) ≡ one_row look o
row_some look None entry h = absurd (some_none entry h)
row_some look (Some found) entry h = ap (λ e. Ok (done.Rows (record { entry = e; rest = 0 } ∷ []))) (some_same entry (shown look found) h)

pub row_none : (look : Look) (o : Option Entry) → None ≡ option_map (shown look) o → NotExist ≡ one_row look o
row_none look None h = refl
row_none look (Some found) h = absurd (some_none (shown look found) (sym h))
