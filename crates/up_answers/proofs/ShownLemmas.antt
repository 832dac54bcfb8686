-- What rows of Glob and items of Watch show is seen.
use Rattle.std.proofs.Common.{◌≡◌, ◌-◌, Bool, true, false, cond, ◌&&◌, ◌||◌, List, [], ◌∷◌, length, refl, sym, ap, subst, ◌∙◌, inl, inr, ◌⊎◌, Option, Some, None, is_some}
use Rattle.std.specs.Prelude.{if◌then◌else◌, Contains, MatchOption, ◌==◌, unwrap_or}
use Rattle.std.specs.FinMap.Entries.{find}
use Rattle.std.specs.List.{cons_option}
use Rattle.std.specs.Map.{values_of}
use Rattle.std.specs.Option.{option_and_then, option_map}
use Rattle.up_names.specs.PathNames.{PathName, is_under, parent_of}
use Rattle.up_names.specs.PathOrder.{path_cmp, path_eq}
use Rattle.up_names.specs.PathOrderLaws.{path_cmp_eq}
use Rattle.up_rights.specs.declared.Right.TheVariants as right
use Rattle.up_entry.specs.Rules.{is_directory}
use Rattle.up_pattern.specs.Patterns.{PatternName}
use Rattle.up_names.specs.Texts.{UserName}
use Rattle.up_policy.specs.Loadings.{Loading}
use Rattle.up_policy.proofs.PathLists.{Contains-behind, Contains-head}
use Rattle.up_wire.specs.declared.replies.Done.TheVariants as done
use Rattle.up_wire.specs.declared.replies.Reply.{Reply}
use Rattle.up_wire.specs.declared.replies.Reply.TheVariants as reply
use Rattle.up_wire.specs.declared.replies.Row.{Row}
use Rattle.up_wire.specs.declared.replies.WatchEvent.{WatchEvent}
use Rattle.up_log_tree.specs.declared.node.Node.{Node}
use Rattle.up_log_tree.specs.Fits.{HasDirectory}
use Rattle.up_log_tree.specs.Logs.{Log}
use Rattle.up_log_tree.specs.Trees.{is_link, is_parent, kind_of, made_of, node_at, tree_of}
use Rattle.up_log_tree.proofs.Paths.{parent_passes, path_same, some_none, some_same}
use Rattle.up_log_tree.proofs.Rooted.{rooted}
use Rattle.up_log_tree.proofs.Trees.{find-made, tree_sorted}
use Rattle.up_list.specs.Checks.{check, ways}
use Rattle.up_list.specs.Entries.{entry_at, entry_of}
use Rattle.up_list.specs.Globs.{glob_reply, is_met, is_whole, literal_path, one_row, row_of, rows_reply, whole_reply}
use Rattle.up_list.specs.Looks.{Look, has_some, look_now, rights, shown}
use Rattle.up_answers.specs.Laws.{EndsUnlike, IsListedAt, IsSeenAt, IsWhole, ItemsAreSeen, RowsAreShown}
use Rattle.up_answers.specs.Views.{of_directory, shown_children, shown_node, sight, view, where_held}
use Rattle.up_answers.specs.Watches.{items_under}
use Rattle.up_answers.proofs.AlikeLemmas.{passed_some, refused_not}
use Rattle.up_answers.proofs.RightLemmas.{any_from}
use Rattle.up_answers.proofs.SeenLemmas.{met_seen}

-- ---- rows

found_there : {X : Type 0} (q : PathName) (es : List (PathName × X)) (x : X) → find path_cmp q es ≡ Some x → Contains es (q, x)
found_there q [] x h = absurd (some_none x (sym h))
found_there {X = X} q (e ∷ es) x h = go (path_eq q e.0) refl (found_there q es x)
  where
    now : find path_cmp q (e ∷ es) ≡ cond (path_eq q e.0) (Some e.1) (find path_cmp q es)
    now = ap (λ b. cond b (Some e.1) (find path_cmp q es)) (sym (path_cmp_eq q e.0))

    go : (b : Bool) → path_eq q e.0 ≡ b → (find path_cmp q es ≡ Some x → Contains es (q, x)) → Contains (e ∷ es) (q, x)
    go true is rest =
        let value : e.1 ≡ x = some_same e.1 x (sym (ap (λ b. cond b (Some e.1) (find path_cmp q es)) is) ∙ (sym now ∙ h)) in
        subst (λ (f : PathName × X). Contains (e ∷ es) f) (λ i. (sym (path_same q e.0 is) i, value i)) (Contains-head e es)
    go false is rest = Contains-behind e (q, x) es (rest (sym (ap (λ b. cond b (Some e.1) (find path_cmp q es)) is) ∙ (sym now ∙ h)))

view_is : (look : Look) (path : PathName) → has_some look path ≡ true → view look path ≡ Some (sight look path)
unfolding view
view_is look path some = ap (λ b. if b then Some (sight look path) else None) some

row_met : (look : Look) (pattern : PatternName) (path : PathName) (node : Node) (row : Row) → row_of look pattern path node ≡ Some row → (is_met look pattern path ≡ true) × (row.entry ≡ shown look node.entry)
unfolding row_of
row_met look pattern path node row h = go (is_met look pattern path) (length path.elements == length pattern.elements || is_link (kind_of node)) refl h
  where
    x : Row
    x = record { entry = shown look node.entry; rest = length pattern.elements - length path.elements }

    go : (a b : Bool) → is_met look pattern path ≡ a → (if a && b then Some (record { entry = shown look node.entry; rest = length pattern.elements - length path.elements }) else None) ≡ Some row → (is_met look pattern path ≡ true) × (row.entry ≡ shown look node.entry)
    go true true e k = (e, sym (ap (λ (r : Row). r.entry) (some_same (record { entry = shown look node.entry; rest = length pattern.elements - length path.elements }) row k)))
    go true false e k = absurd (some_none row (sym k))
    go false b e k = absurd (some_none row (sym k))

-- the row of an item that matches
matched : (log : Log) (loaded : Loading) (user : UserName) (pattern : PatternName) (path : PathName) (node : Node) (row : Row) → IsWhole log →
    node_at (tree_of log.records) path ≡ Some node → row_of (look_now log loaded user) pattern path node ≡ Some row →
    IsSeenAt (look_now log loaded user) path row.entry ⊎ (EndsUnlike pattern path × IsListedAt (look_now log loaded user) path row.entry)
matched log loaded user pattern path node row is there h = elim (met_seen look pattern path met.0) [
  | inl some ↦ inl (sight look path, view_is look path some, ap (option_map (shown_node look)) there ∙ ap Some (sym met.1))
  | inr unlike ↦ let listed = unlike.1 in
      inr (unlike.0, (listed.0, sight look listed.0, shown_children look listed.0, listed.1, view_is look listed.0 (any_from (rights look listed.0) right.List listed.2), children listed.0 listed.1 listed.2, among listed.0 listed.1))
]
  where
    look : Look
    look = look_now log loaded user

    met : (is_met (look_now log loaded user) pattern path ≡ true) × (row.entry ≡ shown (look_now log loaded user) node.entry)
    met = row_met (look_now log loaded user) pattern path node row h

    children : (dir : PathName) → parent_of path ≡ Some dir → (rights (look_now log loaded user) dir).list ≡ true → (sight (look_now log loaded user) dir).children ≡ Some (shown_children (look_now log loaded user) dir)
    children dir parent list =
        let d : HasDirectory (tree_of log.records) dir = subst (λ o. MatchOption o (path.owner ≡ log.owner) (HasDirectory (tree_of log.records))) parent ((rooted log.owner log.records is.fitting).placed path node there) in
        ap (λ b. where_held b (of_directory (shown_children (look_now log loaded user) dir)) (node_at (tree_of log.records) dir)) list
        ∙ (ap (option_and_then (of_directory (shown_children (look_now log loaded user) dir))) d.1
        ∙ ap (λ k. if is_directory k then Some (shown_children (look_now log loaded user) dir) else None) d.2)

    among : (dir : PathName) → parent_of path ≡ Some dir → Contains (shown_children (look_now log loaded user) dir) (path, row.entry)
    among dir parent =
        found_there path (shown_children (look_now log loaded user) dir) row.entry
        (find-made (λ p n. if is_parent dir p then Some (shown_node (look_now log loaded user) n) else None) path (tree_of log.records) (tree_sorted log.records)
        ∙ (ap (option_and_then (λ n. if is_parent dir path then Some (shown_node (look_now log loaded user) n) else None)) there
        ∙ (ap (λ b. if b then Some (shown (look_now log loaded user) node.entry) else None) (parent_passes dir path parent)
        ∙ ap Some (sym met.1))))

-- the one row of a pattern that is all literal
literal : (look : Look) (pattern : PatternName) (rows : List Row) → is_whole pattern ≡ true → glob_reply look pattern ≡ reply.Ok (done.Rows rows) → (row : Row) × (rows ≡ row ∷ []) × IsSeenAt look (literal_path pattern) row.entry
unfolding glob_reply whole_reply
literal look pattern rows whole h = go (check look (ways path) path None) refl (sym (ap (λ b. if b then unwrap_or (check look (ways path) path None) (one_row look (entry_at look.tree path)) else unwrap_or (check look (ways path) path (Some right.List)) (rows_reply look pattern (entry_at look.tree path))) whole) ∙ h)
  where
    path : PathName
    path = literal_path pattern

    found : has_some look path ≡ true → (node : Option Node) → node_at look.tree path ≡ node → one_row look (option_map entry_of node) ≡ reply.Ok (done.Rows rows) → (row : Row) × (rows ≡ row ∷ []) × IsSeenAt look path row.entry
    found some None there k = absurd (cc)
    found some (Some node) there k =
        let row : Row = record { entry = shown look node.entry; rest = 0 } in
        let same : row ∷ [] ≡ rows = cc in
        (row, sym same, (sight look path, view_is look path some, ap (option_map (shown_node look)) there))

    go : (refusal : Option Reply) → check look (ways path) path None ≡ refusal → unwrap_or refusal (one_row look (entry_at look.tree path)) ≡ reply.Ok (done.Rows rows) → (row : Row) × (rows ≡ row ∷ []) × IsSeenAt look path row.entry
    go None e k = found (passed_some look (ways path) path None e) (node_at look.tree path) refl k
    go (Some refusal) e k = absurd (refused_not look (ways path) path None (done.Rows rows) (e ∙ ap Some k))

pub rows_are_shown : RowsAreShown
rows_are_shown = record { matched = matched; literal = literal }

-- ---- items

seen_is : (look : Look) (path : PathName) → is_some (view look path) ≡ has_some look path
unfolding view
seen_is look path = go (has_some look path)
  where
    go : (b : Bool) → is_some (if b then Some (sight look path) else None) ≡ b
    go true = refl
    go false = refl

made_alike_by : {Y : Type 0} (f g : PathName → Node → Option Y) → ((p : PathName) (n : Node) → f p n ≡ g p n) → (items : List (PathName × Node)) → made_of f items ≡ made_of g items
unfolding made_of
made_alike_by f g same [] = refl
made_alike_by f g same (item ∷ items) =
    ap (λ o. cons_option (option_map (λ y. (item.0, y)) o) (made_of f items)) (same item.0 item.1)
    ∙ ap (λ es. cons_option (option_map (λ y. (item.0, y)) (g item.0 item.1)) es) (made_alike_by f g same items)

pub items_are_seen : ItemsAreSeen
unfolding items_under
items_are_seen look path =
    ap (λ es. values_of es) (made_alike_by {Y = WatchEvent} _ _
    (λ name node. ap (λ b. if is_under name path && b then Some (record { position = node.entry.sequence; delete = false; entry = shown look node.entry }) else None) (sym (seen_is look name))) look.tree)
