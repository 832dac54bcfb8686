-- Where links were tested, none stands at the path.
use Rattle.std.proofs.Common.{◌≡◌, ℕ, zero, suc, true, false, List, [], ◌∷◌, ◌++◌, length, refl, sym, ap, ◌∙◌, Option, Some, None}
use Rattle.std.specs.Prelude.{if◌then◌else◌, Bool, unwrap_or}
use Rattle.std.specs.Option.{option_and_then, option_map, option_or}
use Rattle.up_names.specs.PathNames.{PathName, cut}
use Rattle.up_rights.specs.declared.Right.{Right}
use Rattle.up_pattern.specs.Patterns.{PatternName}
use Rattle.up_wire.specs.declared.replies.Reply.{Reply}
use Rattle.up_wire.specs.declared.replies.Reply.TheVariants.{Ok, NotDir, NotExist}
use Rattle.up_wire.specs.declared.replies.Done.TheVariants as done
use Rattle.up_entry.specs.declared.entries.Entry.{Entry}
use Rattle.up_entry.specs.declared.entries.Kind.{Kind}
use Rattle.up_entry.specs.declared.entries.Kind.TheVariants.{File, Directory, Link}
use Rattle.up_log_tree.specs.declared.node.Node.{Node}
use Rattle.up_log_tree.specs.Fits.{HasDirectory}
use Rattle.up_log_tree.specs.Trees.{Tree, is_file, is_link, node_at}
use Rattle.up_log_tree.proofs.Paths.{cut_whole, some_none, some_same}
use Rattle.up_list.specs.Checks.{at_link, check, first_link, lacking, link_at, tested, ways, ways_to}
use Rattle.up_list.specs.Entries.{entry_at, entry_of, if_link}
use Rattle.up_list.specs.Globs.{kind_refusal, rows, rows_reply}
use Rattle.up_list.specs.Looks.{Look, rights}

second_none : {X : Type 0} (a b : Option X) → option_or a b ≡ None → b ≡ None
second_none None b h = h
second_none (Some x) b h = absurd (some_none x h)

first_none : {X : Type 0} (a b : Option X) → option_or a b ≡ None → a ≡ None
first_none None b h = refl
first_none (Some x) b h = absurd (some_none x h)

last_none : (tree : Tree) (xs : List PathName) (p : PathName) → first_link tree (xs ++ p ∷ []) ≡ None → link_at tree p ≡ None
last_none tree [] p h = first_none (link_at tree p) None h
last_none tree (x ∷ xs) p h = last_none tree xs p (second_none (link_at tree x) (first_link tree (xs ++ p ∷ [])) h)

none_to : (tree : Tree) (n : ℕ) (path : PathName) → first_link tree (ways_to n path) ≡ None → link_at tree (cut n path) ≡ None
none_to tree zero path h = last_none tree [] (cut 0 path) h
none_to tree (suc n) path h = last_none tree (ways_to n path) (cut (suc n) path) h

none_at : (tree : Tree) (path : PathName) → first_link tree (ways path) ≡ None → link_at tree path ≡ None
unfolding ways
none_at tree path h = sym (ap (link_at tree) (cut_whole path)) ∙ none_to tree (length path.elements) path h

passed : (look : Look) (paths : List PathName) (path : PathName) (needed : Option Right) → check look paths path needed ≡ None → first_link look.tree paths ≡ None
unfolding check
passed look paths path needed h = go (first_link look.tree paths) refl
  where
    go : (o : Option Entry) → first_link look.tree paths ≡ o → first_link look.tree paths ≡ None
    go None e = e
    go (Some link) e = absurd (some_none (at_link look link) (sym (ap (λ o. elim o as (λ _. Option Reply) [ Some l ↦ Some (at_link look l) | None ↦ lacking (rights look path) needed ]) e) ∙ h))

-- what stands at a path that has passed, and is no file, is a directory
pub passed_directory : (look : Look) (path : PathName) (needed : Option Right) (entry : Entry) → check look (tested true path) path needed ≡ None → Some entry ≡ entry_at look.tree path →
    is_file entry.attr.kind ≡ false → HasDirectory look.tree path
passed_directory look path needed entry h there other = node (node_at look.tree path) refl
  where
    no_link : link_at look.tree path ≡ None
    no_link = none_at look.tree path (passed look (ways path) path needed h)

    kind : (k : Kind) → is_file k ≡ false → (if is_link k then Some entry else None) ≡ None → k ≡ Directory
    kind File f g = absurd (cc)
    kind Directory f g = refl
    kind Link f g = absurd (some_none entry g)

    node : (o : Option Node) → node_at look.tree path ≡ o → HasDirectory look.tree path
    node None e = absurd (some_none entry (there ∙ ap (option_map entry_of) e))
    node (Some n) e =
        let same : entry ≡ n.entry = some_same entry n.entry (there ∙ ap (option_map entry_of) e) in
        let link : if_link entry ≡ None = ap (λ o. option_and_then if_link o) there ∙ no_link in
        (n, e, ap (λ (x : Entry). x.attr.kind) (sym same) ∙ kind entry.attr.kind other link)

-- where no refusal is at the path of the literal elements in front, a directory stands there
pub front_directory : (look : Look) (path : PathName) (needed : Option Right) → None ≡ option_or (check look (tested true path) path needed) (kind_refusal (entry_at look.tree path)) → HasDirectory look.tree path
front_directory look path needed h = go (check look (tested true path) path needed) refl (entry_at look.tree path) refl h
  where
    go : (c : Option Reply) → check look (tested true path) path needed ≡ c → (o : Option Entry) → entry_at look.tree path ≡ o → None ≡ option_or c (kind_refusal o) → HasDirectory look.tree path
    go (Some reply) e o f k = absurd (some_none reply (sym k))
    go None e None f k = absurd (some_none NotExist (sym k))
    go None e (Some entry) f k = passed_directory look path needed entry e (sym f) (other (is_file entry.attr.kind) refl k)
      where
        other : (b : Bool) → is_file entry.attr.kind ≡ b → None ≡ (if b then Some NotDir else None) → is_file entry.attr.kind ≡ false
        other true g l = absurd (some_none NotDir (sym l))
        other false g l = g

-- the refusal, or else the rows
pub rows_or_refusal : (look : Look) (pattern : PatternName) (checked : Option Reply) (o : Option Entry) → unwrap_or checked (rows_reply look pattern o) ≡ unwrap_or (option_or checked (kind_refusal o)) (Ok (done.Rows (rows look pattern)))
rows_or_refusal look pattern (Some reply) o = refl
rows_or_refusal look pattern None None = refl
rows_or_refusal look pattern None (Some entry) = by (is_file entry.attr.kind)
  where
    by : (b : Bool) → (if b then NotDir else Ok (done.Rows (rows look pattern))) ≡ unwrap_or (if b then Some NotDir else None) (Ok (done.Rows (rows look pattern)))
    by true = refl
    by false = refl
