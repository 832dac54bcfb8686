-- What a walk finds, in order of paths, are the rows.
use Rattle.std.proofs.Common.{◌≡◌, ℕ, ◌-◌, ◌≤◌, Bool, true, false, not, ◌&&◌, ◌||◌, List, [], ◌∷◌, length, map, take, refl, sym, ap, subst, ◌∙◌, arith, Option, Some, None, T}
use Rattle.std.specs.Prelude.{if◌then◌else◌, nat_lt, ◌==◌}
use Rattle.std.specs.FinMap.Entries.{find, is_sorted}
use Rattle.std.specs.List.{AllByRecursion, cons_option}
use Rattle.std.specs.List.Sorted.{IsSortedBy, IsStableBy, ties}
use Rattle.std.specs.Map.{values_of}
use Rattle.std.specs.Option.{option_map, option_to_list}
use Rattle.std.specs.Ordering.{is_eq, is_lt, ordering_reverse}
use Rattle.std.specs.declared.cmp.Ordering.{Ordering}
use Rattle.std.specs.declared.cmp.Ordering.TheVariants.{Less, Equal, Greater}
use Rattle.up_names.specs.PathNames.{PathName}
use Rattle.up_names.specs.PathOrder.{path_cmp, path_eq}
use Rattle.up_names.specs.PathOrderLaws.{path_cmp_eq, path_cmp_total}
use Rattle.up_entry.specs.declared.entries.Entry.{Entry}
use Rattle.up_entry.specs.Rules.{is_directory}
use Rattle.up_entry.specs.Showing.{shown_as}
use Rattle.up_pattern.specs.Patterns.{PatternName}
use Rattle.up_wire.specs.declared.replies.Row.{Row}
use Rattle.up_log_tree.specs.declared.node.Node.{Node}
use Rattle.up_log_tree.specs.Fits.{HasDirectory}
use Rattle.up_log_tree.specs.Trees.{Tree, is_link, kind_of, made_of, node_at}
use Rattle.up_log_tree.proofs.Paths.{some_none, some_same}
use Rattle.up_log_tree.proofs.Trees.{find-made, made_sorted}
use Rattle.up_list.specs.Entries.{entry_of}
use Rattle.up_list.specs.Globs.{ends_literal, is_listed, literal_path, literals, matches_front, row_of, rows}
use Rattle.up_list.specs.Looks.{Look, has_some, rights, shown}
use Rattle.up_list.specs.Places.{is_before}
use Rattle.up_list.specs.Rooted.{IsRooted}
use Rattle.up_list.specs.Walking.{walked}
use Rattle.up_list.proofs.FrontLemmas.{front_elements, front_level, literals_short, row_found, row_is}
use Rattle.up_list.proofs.OrderLemmas.{at, one_order, rising_from_sorted, rising_values}
use Rattle.up_list.proofs.PickLemmas.{filter_alike, filter_of_map}
use Rattle.up_list.proofs.RowLemmas.{is_dir, walked_at}
use Rattle.up_list.proofs.SortedLemmas.{found_all, sorted_one}

abbrev name_of : Row → PathName
name_of row = row.entry.name

-- ---- rows that tie have one path

tied_table : (o : Ordering) → (not (is_lt o) && not (is_lt (ordering_reverse o))) ≡ is_eq o
tied_table Less = refl
tied_table Equal = refl
tied_table Greater = refl

tied_paths : (p q : PathName) → (not (is_lt (path_cmp p q)) && not (is_lt (path_cmp q p))) ≡ path_eq p q
tied_paths p q = ap (λ o. not (is_lt (path_cmp p q)) && not (is_lt o)) (path_cmp_total.antisymm q p) ∙ (tied_table (path_cmp p q) ∙ sym (path_cmp_eq p q))

all_alike : (f g : Row → Bool) → ((row : Row) → f row ≡ g row) → (xs : List Row) → AllByRecursion (λ row. f row ≡ g row) xs
all_alike f g same [] = tt
all_alike f g same (row ∷ xs) = (same row, all_alike f g same xs)

stable_at : (found sorted : List Row) → IsStableBy is_before found sorted → length sorted ≡ length found → (q : PathName) → at name_of q sorted ≡ at name_of q found
stable_at [] [] stable size q = refl
stable_at [] (row ∷ rest) stable size q = absurd (omega (arith, size))
stable_at (first ∷ found) sorted stable size q =
    let x : Row = record { entry = record first.entry { name = q }; rest = 0 } in
    sym (filter_alike (ties is_before x) (λ (row : Row). path_eq q row.entry.name) sorted (all_alike (ties is_before x) (λ (row : Row). path_eq q row.entry.name) (λ row. tied_paths q row.entry.name) sorted))
    ∙ (stable x
    ∙ filter_alike (ties is_before x) (λ (row : Row). path_eq q row.entry.name) (first ∷ found) (all_alike (ties is_before x) (λ (row : Row). path_eq q row.entry.name) (λ row. tied_paths q row.entry.name) (first ∷ found)))

-- ---- each row stands at its path

shown_name : (b : Bool) (e : Entry) → (shown_as b e).name ≡ e.name
shown_name true e = refl
shown_name false e = refl

row_name : (look : Look) (pattern : PatternName) (q : PathName) (node : Node) (row : Row) → row_of look pattern q node ≡ Some row → row.entry.name ≡ node.entry.name
row_name look pattern q node row h =
    made (((nat_lt (length (literals pattern.elements)) (length q.elements) && matches_front pattern.elements q.elements)
    && (is_listed look q 0 (take (length q.elements) pattern.elements) && (not (ends_literal (take (length q.elements) pattern.elements)) || has_some look q)))
    && (length q.elements == length pattern.elements || is_link (kind_of node))) (sym (row_is look pattern q node) ∙ h)
  where
    x : Row
    x = record { entry = shown look node.entry; rest = length pattern.elements - length q.elements }

    made : (b : Bool) → (if b then Some x else None) ≡ Some row → row.entry.name ≡ node.entry.name
    made true k = ap (λ (r : Row). r.entry.name) (sym (some_same x row k)) ∙ shown_name (rights look node.entry.name).read node.entry
    made false k = absurd (some_none row (sym k))

made_named : (look : Look) (pattern : PatternName) (items : List (PathName × Node)) → AllByRecursion (λ (i : PathName × Node). i.1.entry.name ≡ i.0) items →
    AllByRecursion (λ (e : PathName × Row). name_of e.1 ≡ e.0) (made_of (row_of look pattern) items)
unfolding made_of
made_named look pattern [] named = tt
made_named look pattern (item ∷ items) named = go (row_of look pattern item.0 item.1) refl (made_named look pattern items named.1)
  where
    go : (o : Option Row) → row_of look pattern item.0 item.1 ≡ o → AllByRecursion (λ (e : PathName × Row). name_of e.1 ≡ e.0) (made_of (row_of look pattern) items) →
        AllByRecursion (λ (e : PathName × Row). name_of e.1 ≡ e.0) (cons_option (option_map (λ y. (item.0, y)) (row_of look pattern item.0 item.1)) (made_of (row_of look pattern) items))
    go None e rest = subst (λ o. AllByRecursion (λ (e : PathName × Row). name_of e.1 ≡ e.0) (cons_option (option_map (λ y. (item.0, y)) o) (made_of (row_of look pattern) items))) (sym e) rest
    go (Some row) e rest = subst (λ o. AllByRecursion (λ (e : PathName × Row). name_of e.1 ≡ e.0) (cons_option (option_map (λ y. (item.0, y)) o) (made_of (row_of look pattern) items))) (sym e) (row_name look pattern item.0 item.1 row e ∙ named.0, rest)

find_is : (tree : Tree) (q : PathName) → find path_cmp q tree ≡ node_at tree q
unfolding node_at
find_is tree q = refl

items_named : (look : Look) → IsRooted look.owner look.tree → AllByRecursion (λ (i : PathName × Node). i.1.entry.name ≡ i.0) look.tree
items_named look rooted = go look.tree (found_all look.tree rooted.ordered)
  where
    go : (items : List (PathName × Node)) → AllByRecursion (λ (i : PathName × Node). find path_cmp i.0 look.tree ≡ Some i.1) items → AllByRecursion (λ (i : PathName × Node). i.1.entry.name ≡ i.0) items
    go [] found = tt
    go (item ∷ items) found = (rooted.named item.0 item.1 (sym (find_is look.tree item.0) ∙ found.0), go items found.1)

-- what stands at a path among the values of a list that stands in order of paths
values_at : (q : PathName) (es : List (PathName × Row)) → T (is_sorted path_cmp es) → AllByRecursion (λ (e : PathName × Row). name_of e.1 ≡ e.0) es → at name_of q (values_of es) ≡ option_to_list (find path_cmp q es)
values_at q es sorted named =
    filter_of_map (λ (row : Row). path_eq q row.entry.name) (λ (e : PathName × Row). e.1) es
    ∙ (ap (map (λ (e : PathName × Row). e.1)) (filter_alike (λ (e : PathName × Row). path_eq q e.1.entry.name) (λ (e : PathName × Row). path_eq q e.0) es (alike es named))
    ∙ sorted_one q es sorted)
  where
    alike : (fs : List (PathName × Row)) → AllByRecursion (λ (e : PathName × Row). name_of e.1 ≡ e.0) fs → AllByRecursion (λ (e : PathName × Row). path_eq q e.1.entry.name ≡ path_eq q e.0) fs
    alike [] names = tt
    alike (f ∷ fs) names = (ap (path_eq q) names.0, alike fs names.1)

-- ---- the rows

pub rows_sorted : (look : Look) (pattern : PatternName) (rooted : IsRooted look.owner look.tree) (found sorted : List Row) →
    pattern.owner ≡ look.owner → is_dir look pattern rooted (literal_path pattern) ≡ true → length (literal_path pattern).elements ≤ length pattern.elements →
    found ≡ walked look pattern (length pattern.elements - length (literal_path pattern).elements) (length (literal_path pattern).elements) (literal_path pattern ∷ []) →
    IsSortedBy is_before sorted → IsStableBy is_before found sorted → length sorted ≡ length found → sorted ≡ rows look pattern
rows_sorted look pattern rooted found sorted owned dir low is up stable size =
    one_order name_of sorted (rows look pattern) (rising_from_sorted name_of sorted up) (rising_values name_of made in_order named) (λ q. same q)
  where
    made : List (PathName × Row)
    made = made_of (row_of look pattern) look.tree

    in_order : T (is_sorted path_cmp made)
    in_order = made_sorted (row_of look pattern) look.tree rooted.ordered

    named : AllByRecursion (λ (e : PathName × Row). name_of e.1 ≡ e.0) made
    named = made_named look pattern look.tree (items_named look rooted)

    m : ℕ
    m = length (literal_path pattern).elements

    same : (q : PathName) → at name_of q sorted ≡ at name_of q (rows look pattern)
    same q =
        stable_at found sorted stable size q
        ∙ (ap (at name_of q) is
        ∙ (walked_at look pattern rooted (length pattern.elements - m) m (literal_path pattern ∷ []) (omega (arith, low)) (λ more. front_level look pattern rooted owned dir) q
        ∙ (row_found look pattern rooted q
        ∙ (sym (ap option_to_list (find-made (row_of look pattern) q look.tree rooted.ordered))
        ∙ sym (values_at q made in_order named)))))

-- from the directory of the literal elements in front on
pub rows_from : (look : Look) (pattern : PatternName) (rooted : IsRooted look.owner look.tree) (front : PathName) (found sorted : List Row) →
    front ≡ literal_path pattern → pattern.owner ≡ look.owner → HasDirectory look.tree front →
    found ≡ walked look pattern (length pattern.elements - length front.elements) (length front.elements) (front ∷ []) →
    IsSortedBy is_before sorted → IsStableBy is_before found sorted → length sorted ≡ length found → sorted ≡ rows look pattern
rows_from look pattern rooted front found sorted same owned directory is up stable size =
    rows_sorted look pattern rooted found sorted owned (subst (λ p. is_dir look pattern rooted p ≡ true) same there) (subst (λ n. n ≤ length pattern.elements) (sym (ap length (front_elements pattern))) (literals_short pattern.elements))
    (subst (λ (p : PathName). found ≡ walked look pattern (length pattern.elements - length p.elements) (length p.elements) (p ∷ [])) same is) up stable size
  where
    there : is_dir look pattern rooted front ≡ true
    there =
        ap (λ o. elim (option_map entry_of o) as (λ _. Bool) [ None ↦ false | Some entry ↦ is_directory entry.attr.kind ]) directory.1
        ∙ ap is_directory directory.2
