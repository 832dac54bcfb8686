-- Changes of which a user sees nothing.
use Rattle.std.proofs.Common.{◌≡◌, ℕ, suc, ◌+◌, Bool, true, false, ◌&&◌, cond, List, [], ◌∷◌, ◌++◌, length, refl, sym, ap, ◌∙◌, ◌⊎◌, inl, inr, arith, Option, Some, None}
use Rattle.std.specs.Prelude.{if◌then◌else◌, ⊤, codes}
use Rattle.std.specs.List.{cons_option, sum_by}
use Rattle.std.specs.Map.{keys_of}
use Rattle.std.specs.Option.{option_map, option_and_then}
use Rattle.std.proofs.lemmas.List.{length_push, append-nil}
use Rattle.std.proofs.lemmas.List.Sums.{sum_by-append}
use Rattle.std.proofs.lemmas.Bool.{false≢true, false_from_ne_true}
use Rattle.up_names.specs.PathNames.{PathName, parent_of, extended, ends_in_access}
use Rattle.up_names.specs.PathOrder.{path_eq}
use Rattle.up_rights.specs.RightSets.{Rights, has_any}
use Rattle.up_entry.specs.declared.entries.Entry.{Entry}
use Rattle.up_entry.specs.Rules.{is_directory}
use Rattle.up_entry.specs.declared.records.Rec.{Rec}
use Rattle.up_entry.specs.declared.records.Rec.TheVariants.{Put, Delete, Snap}
use Rattle.up_log_tree.specs.declared.node.Node.{Node}
use Rattle.up_log_tree.specs.Trees.{kind_of, made_of, node_at, tree_of, is_parent, children}
use Rattle.up_list.specs.Looks.{Look, rights, has_some, shown, look_now}
use Rattle.up_log_tree.specs.Rights.{group_node, is_group_file}
use Rattle.up_answers.specs.Views.{view, sight, where_held, control_text, of_directory, shown_node, shown_children}
use Rattle.up_answers.proofs.GovernorLemmas.{governor_node, governor_shown}
use Rattle.up_log_tree.specs.Logs.{Log, bytes_of}
use Rattle.up_log_tree.specs.Sizes.{size_of}
use Rattle.up_answers.specs.Events.{Change, change_in, event_of, events}
use Rattle.up_policy.specs.Loadings.{Loading}
use Rattle.up_answers.specs.Laws.{ApartChangesKeepAgreement, IsWhole, touched, with_record}
use Rattle.up_log_tree.proofs.Paths.{some_none, path_same, path_other, some_same}
use Rattle.up_log_tree.proofs.Trees.{children_made, node_at-put, node_at-delete, tree_of-push, tree_sorted, made_same}
use Rattle.up_log_tree.proofs.Rooted.{rooted}
use Rattle.up_answers.proofs.PutLemmas.{ends_extended}
use Rattle.up_answers.proofs.SeenLemmas.{nothing_made}
use Rattle.up_answers.proofs.QuietLemmas.{IsQuiet, governor_quiet, shown_quiet, now_quiet, events_after}

-- ---- what stands elsewhere stays

module _ (records : List Rec) (path : PathName) where
  pub others_stay : (rec : Rec) → touched rec ≡ Some path → (q : PathName) → path_eq q path ≡ false → node_at (tree_of (records ++ rec ∷ [])) q ≡ node_at (tree_of records) q
  others_stay (Put entry text) is q other =
      ap (λ t. node_at t q) (tree_of-push records (Put entry text))
      ∙ (node_at-put (tree_of records) entry text q
      ∙ ap (λ b. cond b (Some (record { entry = entry; text = text })) (node_at (tree_of records) q)) (ap (path_eq q) (some_same entry.name path is) ∙ other))
  others_stay (Delete gone) is q other =
      ap (λ t. node_at t q) (tree_of-push records (Delete gone))
      ∙ (node_at-delete (tree_of records) gone q
      ∙ ap (λ b. cond b None (node_at (tree_of records) q)) (false_from_ne_true (path_eq gone q) (λ same. path_other q path other (sym (path_same gone q same) ∙ some_same gone path is))))
  others_stay (Snap time) is q other = absurd (some_none path (sym is))

  -- no Access file and no Group file is changed
  pub quiet_change : (rec : Rec) → touched rec ≡ Some path → ends_in_access path ≡ false → group_node (tree_of records) path ≡ None → group_node (tree_of (records ++ rec ∷ [])) path ≡ None → IsQuiet (tree_of records) (tree_of (records ++ rec ∷ []))
  quiet_change rec is no_access no_group no_group' = record {
    access = λ dir. others_stay rec is (extended dir (codes "Access")) (false_from_ne_true (path_eq (extended dir (codes "Access")) path) (λ same. false≢true (sym no_access ∙ (ap ends_in_access (sym (path_same (extended dir (codes "Access")) path same)) ∙ ends_extended dir))));
    groups = λ q. group q (path_eq q path) refl;
  }
    where
      group : (q : PathName) (b : Bool) → path_eq q path ≡ b → group_node (tree_of (records ++ rec ∷ [])) q ≡ group_node (tree_of records) q
      group q true same = let e : q ≡ path = path_same q path same in ap (group_node (tree_of (records ++ rec ∷ []))) e ∙ (no_group' ∙ (sym no_group ∙ sym (ap (group_node (tree_of records)) e)))
      group q false other = ap (λ o. elim o as (λ _. Option Node) [ None ↦ None | Some node ↦ if is_group_file q node then Some node else None ]) (others_stay rec is q other)

-- ---- one tree

pub held_same : {Y : Type 0} (held : Bool) (f g : Node → Option Y) (a : Option Node) → (held ≡ true → (n : Node) → f n ≡ g n) → where_held held f a ≡ where_held held g a
held_same {Y = Y} true f g a h = go a
  where
    go : (a : Option Node) → option_and_then f a ≡ option_and_then g a
    go None = refl
    go (Some n) = h refl n
held_same false f g a h = refl

pub map_same : {Y : Type 0} (f g : Node → Y) (a : Option Node) → ((n : Node) → f n ≡ g n) → option_map f a ≡ option_map g a
map_same f g None h = refl
map_same f g (Some n) h = ap Some (h n)

module _ (log : Log) (is : IsWhole log) (rec : Rec) (path : PathName) (changes : touched rec ≡ Some path) (loaded : Loading) (user : List ℕ) (quiet : IsQuiet (tree_of log.records) (tree_of (log.records ++ rec ∷ []))) (hidden : has_some (look_now log loaded user) path ≡ false)
    (unlisted : (dir : PathName) → parent_of path ≡ Some dir → (rights (look_now log loaded user) dir).list ≡ false) (unnamed : (dir : PathName) → parent_of path ≡ Some dir → (rights (look_now log loaded user) dir).delete ≡ false) where
  shown_stays : (entry : Entry) → shown (look_now (with_record log rec) loaded user) entry ≡ shown (look_now log loaded user) entry
  shown_stays entry = shown_quiet log.owner (tree_of log.records) (tree_of (log.records ++ rec ∷ [])) (tree_sorted log.records) (tree_sorted (log.records ++ rec ∷ [])) quiet loaded user entry

  rights_stay : (q : PathName) → rights (look_now (with_record log rec) loaded user) q ≡ rights (look_now log loaded user) q
  rights_stay q = now_quiet log rec loaded user quiet q

  -- the path is no child of a directory that is listed, or whose names are known
  not_child : (q : PathName) → ((dir : PathName) → parent_of path ≡ Some dir → dir ≡ q → ⊥) → is_parent q path ≡ false
  unfolding is_parent
  not_child q none = go (parent_of path) refl
    where
      go : (o : Option PathName) → parent_of path ≡ o → elim o as (λ _. Bool) [ None ↦ false | Some parent ↦ path_eq parent q ] ≡ false
      go None e = refl
      go (Some dir) e = false_from_ne_true (path_eq dir q) (λ same. none dir e (path_same dir q same))

  children_stay : {Y : Type 0} (f g : Node → Y) (q : PathName) → is_parent q path ≡ false → ((n : Node) → f n ≡ g n) →
      made_of (λ p n. if is_parent q p then Some (f n) else None) (tree_of (log.records ++ rec ∷ [])) ≡ made_of (λ p n. if is_parent q p then Some (g n) else None) (tree_of log.records)
  children_stay {Y = Y} f g q none same =
      made_same (λ p n. if is_parent q p then Some (f n) else None) (λ p n. if is_parent q p then Some (g n) else None) (tree_of (log.records ++ rec ∷ [])) (tree_of log.records) (tree_sorted (log.records ++ rec ∷ [])) (tree_sorted log.records)
      (λ p. at p (path_eq p path) refl)
    where
      out : (h : Node → Y) (p : PathName) → p ≡ path → (n : Node) → (if is_parent q p then Some (h n) else None) ≡ None
      out h p e n = ap (λ b. if b then Some (h n) else None) (ap (is_parent q) e ∙ none)

      inside : (p : PathName) (a : Option Node) → option_and_then (λ (n : Node). if is_parent q p then Some (f n) else None) a ≡ option_and_then (λ (n : Node). if is_parent q p then Some (g n) else None) a
      inside p None = refl
      inside p (Some n) = ap (λ y. if is_parent q p then Some y else None) (same n)

      at : (p : PathName) (b : Bool) → path_eq p path ≡ b → option_and_then (λ (n : Node). if is_parent q p then Some (f n) else None) (node_at (tree_of (log.records ++ rec ∷ [])) p) ≡ option_and_then (λ (n : Node). if is_parent q p then Some (g n) else None) (node_at (tree_of log.records) p)
      at p true e = nothing_made _ _ (node_at (tree_of (log.records ++ rec ∷ [])) p) (node_at (tree_of log.records) p) (out f p (path_same p path e)) (out g p (path_same p path e))
      at p false e = ap (option_and_then (λ (n : Node). if is_parent q p then Some (f n) else None)) (others_stay log.records path rec changes p e) ∙ inside p (node_at (tree_of log.records) p)

  sight_stays : (q : PathName) → path_eq q path ≡ false → sight (look_now (with_record log rec) loaded user) q ≡ sight (look_now log loaded user) q
  sight_stays q other i = record {
    rights = rights_stay q i;
    entry = (map_same (shown_node after) (shown_node before) (node_at after.tree q) (λ n. shown_stays n.entry) ∙ ap (option_map (shown_node before)) node) i;
    text = (ap (λ (r : Rights). where_held r.read (control_text q) (node_at after.tree q)) (rights_stay q) ∙ ap (where_held (rights before q).read (control_text q)) node) i;
    governor = (governor_shown after q ∙ (map_same (shown_node after) (shown_node before) (governor_node after.owner after.tree q) (λ n. shown_stays n.entry)
        ∙ (ap (option_map (shown_node before)) (governor_quiet log.owner before.tree after.tree (tree_sorted log.records) (tree_sorted (log.records ++ rec ∷ [])) quiet q) ∙ sym (governor_shown before q)))) i;
    children = (ap (λ (r : Rights). where_held r.list (listing after) (node_at after.tree q)) (rights_stay q) ∙ (ap (where_held (rights before q).list (listing after)) node
        ∙ held_same (rights before q).list (listing after) (listing before) (node_at before.tree q) (λ held n. ap (λ cs. if is_directory (kind_of n) then Some cs else None) (children_stay (shown_node after) (shown_node before) q (not_child q (λ dir e same. false≢true (sym (unlisted dir e) ∙ (ap (λ d. (rights before d).list) same ∙ held)))) (λ child. shown_stays child.entry))))) i;
    names = (ap (λ (r : Rights). where_held r.delete (naming after) (node_at after.tree q)) (rights_stay q) ∙ (ap (where_held (rights before q).delete (naming after)) node
        ∙ held_same (rights before q).delete (naming after) (naming before) (node_at before.tree q) (λ held n. ap (λ ps. if is_directory (kind_of n) then Some ps else None) (children_made after.tree q ∙ (ap (λ cs. keys_of cs) (children_stay {Y = ⊤} (λ child. tt) (λ child. tt) q (not_child q (λ dir e same. false≢true (sym (unnamed dir e) ∙ (ap (λ d. (rights before d).delete) same ∙ held)))) (λ child. refl)) ∙ sym (children_made before.tree q)))))) i;
  }
    where
      after : Look
      after = look_now (with_record log rec) loaded user

      before : Look
      before = look_now log loaded user

      node : node_at (tree_of (log.records ++ rec ∷ [])) q ≡ node_at (tree_of log.records) q
      node = others_stay log.records path rec changes q other

      listing : Look → Node → Option (List (PathName × Entry))
      listing l = of_directory (shown_children l q)

      naming : Look → Node → Option (List PathName)
      naming l = of_directory (children l.tree q)

  -- no view is changed
  pub view_stays : (q : PathName) → view (look_now (with_record log rec) loaded user) q ≡ view (look_now log loaded user) q
  unfolding view
  view_stays q = ap (λ (r : Rights). if has_any r then Some (sight (look_now (with_record log rec) loaded user) q) else None) (rights_stay q) ∙ go (has_some (look_now log loaded user) q) refl (path_eq q path) refl
    where
      go : (some : Bool) → has_some (look_now log loaded user) q ≡ some → (b : Bool) → path_eq q path ≡ b → (if has_some (look_now log loaded user) q then Some (sight (look_now (with_record log rec) loaded user) q) else None) ≡ (if has_some (look_now log loaded user) q then Some (sight (look_now log loaded user) q) else None)
      go false none b e = ap (λ s. if s then Some (sight (look_now (with_record log rec) loaded user) q) else None) none ∙ sym (ap (λ s. if s then Some (sight (look_now log loaded user) q) else None) none)
      go true some true e = absurd (false≢true (sym hidden ∙ (ap (has_some (look_now log loaded user)) (sym (path_same q path e)) ∙ some)))
      go true some false e = ap (λ s. if has_some (look_now log loaded user) q then Some s else None) (sight_stays q e)

  -- no event is added
  no_event : (r : Rec) → touched r ≡ Some path → option_and_then (event_of (look_now (with_record log rec) loaded user) (look_now (with_record log rec) loaded user) (length log.records)) (change_in (tree_of log.records) r) ≡ None
  unfolding event_of change_in
  no_event r e = elim (cases r e) [ inl put ↦ ap (option_and_then _) put.1 ∙ none put.0 put.2 | inr gone ↦ deleted gone.0 gone.1 gone.2 ]
    where
      none : (change : Change) → change.entry.name ≡ path → event_of (look_now (with_record log rec) loaded user) (look_now (with_record log rec) loaded user) (length log.records) change ≡ None
      none change name =
          ap (λ b. if b && has_some (look_now (with_record log rec) loaded user) change.entry.name then Some (record { position = suc (length log.records); delete = change.delete; entry = shown (look_now (with_record log rec) loaded user) change.entry }) else None)
          (ap has_any (rights_stay change.entry.name) ∙ (ap (has_some (look_now log loaded user)) name ∙ hidden))

      cases : (r : Rec) → touched r ≡ Some path → ((change : Change) × (change_in (tree_of log.records) r ≡ Some change) × (change.entry.name ≡ path)) ⊎ ((gone : PathName) × (r ≡ Delete gone) × (gone ≡ path))
      cases (Put entry text) e = inl (record { delete = false; entry = entry }, refl, some_same entry.name path e)
      cases (Delete gone) e = inr (gone, refl, some_same gone path e)
      cases (Snap time) e = absurd (some_none path (sym e))

      change_of : Node → Change
      change_of node = record { delete = true; entry = node.entry }

      deleted : (gone : PathName) → r ≡ Delete gone → gone ≡ path → option_and_then (event_of (look_now (with_record log rec) loaded user) (look_now (with_record log rec) loaded user) (length log.records)) (change_in (tree_of log.records) r) ≡ None
      deleted gone e same = ap (λ x. option_and_then (event_of (look_now (with_record log rec) loaded user) (look_now (with_record log rec) loaded user) (length log.records)) (change_in (tree_of log.records) x)) e ∙ at (node_at (tree_of log.records) gone) refl
        where
          at : (o : Option Node) → node_at (tree_of log.records) gone ≡ o → option_and_then (event_of (look_now (with_record log rec) loaded user) (look_now (with_record log rec) loaded user) (length log.records)) (option_map change_of o) ≡ None
          at None there = refl
          at (Some node) there = none (change_of node) ((rooted log.owner log.records is.fitting).named gone node there ∙ same)

  pub events_unchanged : events (with_record log rec) loaded user ≡ events log loaded user
  events_unchanged = events_after log rec loaded user quiet ∙ (ap (λ e. events log loaded user ++ cons_option e []) (no_event rec changes) ∙ append-nil (events log loaded user))

-- ---- two trees

pub bytes_push : (records : List Rec) (rec : Rec) → bytes_of (records ++ rec ∷ []) ≡ bytes_of records + sum_by (λ r. size_of r + 37) (rec ∷ [])
bytes_push records rec = ap (λ n. 9 + n) (sum_by-append (λ r. size_of r + 37) records (rec ∷ [])) ∙ omega arith

pub one_size : (rec : Rec) → sum_by (λ r. size_of r + 37) (rec ∷ []) ≡ size_of rec + 37
one_size rec = omega arith

pub apart_changes_keep_agreement : ApartChangesKeepAgreement
apart_changes_keep_agreement user loadings one two a b stranger is is' apart apart' size agree = record {
  owner = agree.owner;
  limits = agree.limits;
  length = length_push one.records a ∙ (ap (λ n. n + 1) agree.length ∙ sym (length_push two.records b));
  bytes = bytes_push one.records a ∙ (ap (λ n. n + sum_by (λ r. size_of r + 37) (a ∷ [])) agree.bytes ∙ (ap (λ n. bytes_of two.records + n) (one_size a ∙ (ap (λ n. n + 37) size ∙ sym (one_size b))) ∙ sym (bytes_push two.records b)));
  for_owner = λ own. absurd (stranger own);
  for_others = λ other loaded among.
      let same = agree.for_others other loaded among in
      let quiet = quiet_change one.records apart.path a apart.changes apart.no_access apart.no_group apart.no_group_then in
      let quiet' = quiet_change two.records apart'.path b apart'.changes apart'.no_access apart'.no_group apart'.no_group_then in
      record {
        views = λ q owned.
            view_stays one is a apart.path apart.changes loaded user quiet (apart.hidden loaded among) (λ dir e. apart.unlisted loaded dir among e) (λ dir e. apart.unnamed loaded dir among e) q
            ∙ (same.views q owned
            ∙ sym (view_stays two is' b apart'.path apart'.changes loaded user quiet' (apart'.hidden loaded among) (λ dir e. apart'.unlisted loaded dir among e) (λ dir e. apart'.unnamed loaded dir among e) q));
        events =
            events_unchanged one is a apart.path apart.changes loaded user quiet (apart.hidden loaded among) (λ dir e. apart.unlisted loaded dir among e) (λ dir e. apart.unnamed loaded dir among e)
            ∙ (same.events
            ∙ sym (events_unchanged two is' b apart'.path apart'.changes loaded user quiet' (apart'.hidden loaded among) (λ dir e. apart'.unlisted loaded dir among e) (λ dir e. apart'.unnamed loaded dir among e)));
      };
}
