-- The same record added in two trees in which a user sees the same.
use Rattle.std.proofs.Common.{◌≡◌, ℕ, suc, Bool, true, false, not, ◌&&◌, cond, List, [], ◌∷◌, ◌++◌, length, refl, sym, ap, subst, ◌∙◌, arith, Option, Some, None, bytes_eq}
use Rattle.std.specs.Prelude.{if◌then◌else◌, ⊤, MatchOption, map}
use Rattle.std.specs.List.{cons_option}
use Rattle.std.specs.Map.{keys_of}
use Rattle.std.specs.Option.{option_map, option_and_then}
use Rattle.std.proofs.Math.Seq.{take-length}
use Rattle.std.proofs.lemmas.List.{take-append-le}
use Rattle.std.proofs.lemmas.Bool.{false≢true, false_from_ne_true}
use Rattle.up_names.specs.PathNames.{PathName, parent_of, control_of, ends_in_access, is_in_group}
use Rattle.up_names.specs.PathOrder.{path_eq}
use Rattle.up_names.specs.UserNames.{base_of}
use Rattle.up_names.specs.declared.paths.Control.{Control}
use Rattle.up_names.specs.declared.paths.Control.TheVariants as control
use Rattle.up_rights.specs.declared.Right.{Right}
use Rattle.up_rights.specs.RightSets.{Rights, has_right, has_any}
use Rattle.up_entry.specs.declared.entries.Entry.{Entry}
use Rattle.up_entry.specs.declared.entries.Kind.{Kind}
use Rattle.up_entry.specs.declared.entries.Kind.TheVariants.{File, Directory, Link}
use Rattle.up_entry.specs.declared.records.Rec.{Rec}
use Rattle.up_entry.specs.declared.records.Rec.TheVariants.{Put, Delete, Snap}
use Rattle.up_entry.specs.ControlFiles.{is_control_file, is_ordinary}
use Rattle.up_entry.specs.Showing.{shown_as}
use Rattle.up_policy.specs.Trees.{owns_snapshots}
use Rattle.up_policy.specs.Governors.{governor}
use Rattle.up_policy.specs.Verdicts.{only_looks, is_control, without_text, text_decides, right_test}
use Rattle.up_wire.specs.declared.replies.WatchEvent.{WatchEvent}
use Rattle.up_log_tree.specs.declared.node.Node.{Node}
use Rattle.up_log_tree.specs.Trees.{Tree, node_at, kind_of, tree_of, made_of, is_parent, children, is_file}
use Rattle.up_entry.specs.Rules.{is_directory}
use Rattle.up_list.specs.Looks.{Look, rights, has_some, shown, look_now}
use Rattle.up_log_tree.specs.Rights.{group_node, is_group, is_group_file, facts_of, group_paths}
use Rattle.up_answers.specs.Views.{View, view, sight, where_held, control_text}
use Rattle.up_answers.proofs.GovernorLemmas.{governor_node, governor_shown}
use Rattle.up_log_tree.specs.Logs.{Log}
use Rattle.up_log_tree.specs.Fits.{HasDirectory, Fits}
use Rattle.up_answers.specs.Events.{Change, change_in, event_of, events}
use Rattle.up_policy.specs.Loadings.{Loading}
use Rattle.up_answers.specs.Agreement.{SeesTheSame}
use Rattle.up_answers.specs.Laws.{IsWhole, touched, with_record}
use Rattle.up_log_tree.proofs.Paths.{some_none, path_eq_itself, path_same, some_same}
use Rattle.up_log_tree.proofs.Trees.{children_made, node_at-put, node_at-delete, tree_of-push, tree_sorted, made_same, made_alike}
use Rattle.up_log_tree.proofs.Rooted.{IsRooted, rooted}
use Rattle.up_answers.proofs.RightLemmas.{decided, held_is, stranger_test}
use Rattle.up_answers.proofs.AnswerLemmas.{alike_of}
use Rattle.up_answers.proofs.AlikeLemmas.{AreAlike, same_sight, same_rights, same_entry, same_kind}
use Rattle.up_answers.proofs.PutLemmas.{two_shown, shown_name}
use Rattle.up_answers.proofs.SeenLemmas.{shown_alike}
use Rattle.up_answers.proofs.QuietLemmas.{IsQuiet, governor_quiet, shown_quiet, now_quiet, events_after, slice_get-last, event_of_same, option_same}
use Rattle.up_answers.proofs.ApartLemmas.{others_stay, quiet_change, map_same}

-- ---- ordinary paths

ordinary_of : (c : Control) → elim c as (λ _. Bool) [ control.Ordinary ↦ false | control.Access ↦ true | control.Group ↦ true ] ≡ false → c ≡ control.Ordinary
ordinary_of control.Ordinary h = refl
ordinary_of control.Access h = absurd (false≢true (sym h))
ordinary_of control.Group h = absurd (false≢true (sym h))

pub ordinary : (path : PathName) → is_control path ≡ false → control_of path ≡ control.Ordinary
ordinary path h = ordinary_of (control_of path) h

pub ordinary_access : (path : PathName) → control_of path ≡ control.Ordinary → ends_in_access path ≡ false
ordinary_access path h = go (ends_in_access path) (is_in_group path) h
  where
    go : (a g : Bool) → (if a then control.Access else if g then control.Group else control.Ordinary) ≡ control.Ordinary → a ≡ false
    go true g h = absurd (cc)
    go false g h = refl

pub ordinary_group : (tree : Tree) (path : PathName) → control_of path ≡ control.Ordinary → group_node tree path ≡ None
ordinary_group tree path h = go (node_at tree path)
  where
    no_group : is_group path ≡ false
    no_group = ap (λ c. elim c as (λ _. Bool) [ control.Group ↦ true | control.Access ↦ false | control.Ordinary ↦ false ]) h

    go : (o : Option Node) → elim o as (λ _. Option Node) [ None ↦ None | Some node ↦ if is_group_file path node then Some node else None ] ≡ None
    go None = refl
    go (Some n) = ap (λ b. if b && is_file (kind_of n) then Some n else None) no_group

pub ordinary_text : (path : PathName) (node : Node) → control_of path ≡ control.Ordinary → control_text path node ≡ None
ordinary_text path node h = go (kind_of node)
  where
    go : (k : Kind) → (if is_control_file k path then Some node.text else None) ≡ None
    go File = ap (λ c. if not (is_ordinary c) then Some node.text else None) h
    go Directory = refl
    go Link = refl

decided_ordinary : (snapshots base own changes owns text : Bool) → snapshots ≡ false → own ≡ false → owns ≡ false → decided snapshots base own changes owns text ≡ true → changes ≡ false
decided_ordinary true base own changes owns text s o w h = absurd (false≢true (sym s))
decided_ordinary false base true changes owns text s o w h = absurd (false≢true (sym o))
decided_ordinary false base false true owns text s o w h = absurd (false≢true (sym w ∙ h))
decided_ordinary false base false false owns text s o w h = refl

-- only the owner may change a control path
pub changes_ordinary : (look : Look) (plain : owns_snapshots look.owner ≡ false) (stranger : look.user ≡ look.owner → ⊥) (path : PathName) (r : Right) → only_looks r ≡ false → has_right (rights look path) r ≡ true → is_control path ≡ false
unfolding rights right_test without_text facts_of
changes_ordinary look plain stranger path r changing held =
    let foreign = stranger_test look.user look.owner stranger in
    let facts = facts_of look.owner look.tree in
    let listed = group_paths look.tree in
    let test = sym (held_is facts listed look.loaded look.user path r) ∙ held in
    let no = decided_ordinary (owns_snapshots look.owner) (only_looks r && bytes_eq look.user (base_of look.owner)) (bytes_eq look.user look.owner && only_looks r) (is_control path && not (only_looks r)) (bytes_eq look.user look.owner) (text_decides facts listed look.loaded look.user r (governor facts path))
    plain (ap (λ b. b && only_looks r) foreign) foreign test in
    go (is_control path) (only_looks r) changing no
  where
    go : (c l : Bool) → l ≡ false → (c && not l) ≡ false → c ≡ false
    go c true l h = absurd (false≢true (sym l))
    go true false l h = absurd (false≢true (sym h))
    go false false l h = refl

-- ---- the new item

-- what stands at the path that a record changes
abbrev fresh : Rec → Option Node
fresh (Put entry text) = Some (record { entry = entry; text = text })
fresh (Delete path) = None
fresh (Snap time) = None

fresh_at : (records : List Rec) (path : PathName) (rec : Rec) → touched rec ≡ Some path → node_at (tree_of (records ++ rec ∷ [])) path ≡ fresh rec
fresh_at records path (Put entry text) is =
    ap (λ t. node_at t path) (tree_of-push records (Put entry text))
    ∙ (node_at-put (tree_of records) entry text path
    ∙ ap (λ b. cond b (Some (record { entry = entry; text = text })) (node_at (tree_of records) path)) (ap (path_eq path) (some_same entry.name path is) ∙ path_eq_itself path))
fresh_at records path (Delete gone) is =
    ap (λ t. node_at t path) (tree_of-push records (Delete gone))
    ∙ (node_at-delete (tree_of records) gone path
    ∙ ap (λ b. cond b None (node_at (tree_of records) path)) (ap (λ p. path_eq p path) (some_same gone path is) ∙ path_eq_itself path))
fresh_at records path (Snap time) is = absurd (some_none path (sym is))

-- a new directory stands where nothing stood
fresh_directory : (owner : List ℕ) (before : List Rec) (path : PathName) (rec : Rec) → touched rec ≡ Some path → Fits owner before rec → (node : Node) → fresh rec ≡ Some node → kind_of node ≡ Directory → node_at (tree_of before) path ≡ None
fresh_directory owner before path (Put entry text) is fits node f d = go (node_at (tree_of before) entry.name) (ap (node_at (tree_of before)) (sym (some_same entry.name path is))) fits.replaces
  where
    go : (o : Option Node) → node_at (tree_of before) path ≡ o → MatchOption o ⊤ (λ n. (kind_of n ≡ File) × (entry.attr.kind ≡ Directory → ⊥)) → node_at (tree_of before) path ≡ None
    go None e h = e
    go (Some n) e h = absurd (h.1 (ap kind_of (some_same (record { entry = entry; text = text }) node f) ∙ d))
fresh_directory owner before path (Delete gone) is fits node f d = absurd (some_none node (sym f))
fresh_directory owner before path (Snap time) is fits node f d = absurd (some_none node (sym f))

pub last_fits : (log : Log) (rec : Rec) → IsWhole (with_record log rec) → Fits log.owner log.records rec
last_fits log rec is =
    subst (λ rs. Fits log.owner rs rec) (take-append-le (length log.records) log.records (rec ∷ []) (omega arith) ∙ take-length log.records)
    (is.fitting.each (length log.records) rec (slice_get-last log.records rec))

-- ---- lists of children

-- what is made of the children of a directory
abbrev of_children : {Y : Type 0} → (Node → Y) → Tree → PathName → List (PathName × Y)
of_children make tree dir = made_of (λ path node. if is_parent dir path then Some (make node) else None) tree

keys_determine : (es fs : List (PathName × ⊤)) → keys_of es ≡ keys_of fs → es ≡ fs
keys_determine es fs h = of es ∙ (ap (λ ks. map (λ (k : PathName). (k, tt)) ks) h ∙ sym (of fs))
  where
    of : (es : List (PathName × ⊤)) → es ≡ map (λ (k : PathName). (k, tt)) (keys_of es)
    of [] = refl
    of (e ∷ es) = ap (λ rest. (e.0, tt) ∷ rest) (of es)

abbrev when_directory : {X : Type 0} → X → Node → Option X
when_directory x node = if is_directory (kind_of node) then Some x else None

-- of a directory in both trees
both_directory : {X : Type 0} (held : Bool) (x y x' y' : X) (a b : Option Node) → option_map kind_of a ≡ option_map kind_of b →
    (held ≡ true → (n m : Node) → a ≡ Some n → b ≡ Some m → kind_of n ≡ Directory → kind_of m ≡ Directory → x ≡ y → x' ≡ y') →
    where_held held (when_directory x) a ≡ where_held held (when_directory y) b → where_held held (when_directory x') a ≡ where_held held (when_directory y') b
both_directory false x y x' y' a b kinds h same = refl
both_directory true x y x' y' None None kinds h same = refl
both_directory true x y x' y' None (Some m) kinds h same = absurd (some_none (kind_of m) (sym kinds))
both_directory true x y x' y' (Some n) None kinds h same = absurd (some_none (kind_of n) kinds)
both_directory {X = X} true x y x' y' (Some n) (Some m) kinds h same = go (kind_of n) refl (sym (some_same (kind_of n) (kind_of m) kinds)) same
  where
    go : (k : Kind) → kind_of n ≡ k → kind_of m ≡ kind_of n → (if is_directory (kind_of n) then Some x else None) ≡ (if is_directory (kind_of m) then Some y else None) → (if is_directory (kind_of n) then Some x' else None) ≡ (if is_directory (kind_of m) then Some y' else None)
    go File e f s = ap (λ k. if is_directory k then Some x' else None) e ∙ sym (ap (λ k. if is_directory k then Some y' else None) (f ∙ e))
    go Link e f s = ap (λ k. if is_directory k then Some x' else None) e ∙ sym (ap (λ k. if is_directory k then Some y' else None) (f ∙ e))
    go Directory e f s =
        let inner : x ≡ y = some_same x y (sym (ap (λ k. if is_directory k then Some x else None) e) ∙ (s ∙ ap (λ k. if is_directory k then Some y else None) (f ∙ e))) in
        ap (λ k. if is_directory k then Some x' else None) e ∙ (ap Some (h refl n m refl refl e (f ∙ e) inner) ∙ sym (ap (λ k. if is_directory k then Some y' else None) (f ∙ e)))

module _ (one two : Log) (is : IsWhole one) (is' : IsWhole two) (owner : one.owner ≡ two.owner) (rec : Rec) (path : PathName) (changes : touched rec ≡ Some path) (plain : control_of path ≡ control.Ordinary) (fits : Fits one.owner one.records rec) (fits' : Fits two.owner two.records rec) (loaded : Loading) (user : List ℕ) (stranger : user ≡ one.owner → ⊥) (same : SeesTheSame user loaded one two) where
  alike : AreAlike (look_now one loaded user) (look_now two loaded user)
  alike = alike_of user loaded one two is is' owner stranger same

  quiet : (log : Log) → IsQuiet (tree_of log.records) (tree_of (log.records ++ rec ∷ []))
  quiet log = quiet_change log.records path rec changes (ordinary_access path plain) (ordinary_group (tree_of log.records) path plain) (ordinary_group (tree_of (log.records ++ rec ∷ [])) path plain)

  rights_stay : (log : Log) (q : PathName) → rights (look_now (with_record log rec) loaded user) q ≡ rights (look_now log loaded user) q
  rights_stay log q = now_quiet log rec loaded user (quiet log) q

  shown_stays : (log : Log) (entry : Entry) → shown (look_now (with_record log rec) loaded user) entry ≡ shown (look_now log loaded user) entry
  shown_stays log entry = shown_quiet log.owner (tree_of log.records) (tree_of (log.records ++ rec ∷ [])) (tree_sorted log.records) (tree_sorted (log.records ++ rec ∷ [])) (quiet log) loaded user entry

  rights_after : (q : PathName) → rights (look_now (with_record one rec) loaded user) q ≡ rights (look_now (with_record two rec) loaded user) q
  rights_after q = rights_stay one q ∙ (same_rights (look_now one loaded user) (look_now two loaded user) alike q ∙ sym (rights_stay two q))

  shown_after : (entry : Entry) → shown (look_now (with_record one rec) loaded user) entry ≡ shown (look_now (with_record two rec) loaded user) entry
  shown_after entry = ap (λ (r : Rights). shown_as r.read entry) (rights_after entry.name)

  -- what is made of the children, where it was the same before
  children_kept : {Y : Type 0} (f g f' g' : Node → Y) (q : PathName) → ((n : Node) → f' n ≡ f n) → ((n : Node) → g' n ≡ g n) → ((n : Node) → f' n ≡ g' n) →
      ((p : PathName) → path_eq p path ≡ false → option_and_then (λ (n : Node). if is_parent q p then Some (f n) else None) (node_at (tree_of one.records) p) ≡ option_and_then (λ (n : Node). if is_parent q p then Some (g n) else None) (node_at (tree_of two.records) p)) →
      of_children f' (tree_of (one.records ++ rec ∷ [])) q ≡ of_children g' (tree_of (two.records ++ rec ∷ [])) q
  children_kept {Y = Y} f g f' g' q a b c old =
      made_same (λ p n. if is_parent q p then Some (f' n) else None) (λ p n. if is_parent q p then Some (g' n) else None) (tree_of (one.records ++ rec ∷ [])) (tree_of (two.records ++ rec ∷ [])) (tree_sorted (one.records ++ rec ∷ [])) (tree_sorted (two.records ++ rec ∷ []))
      (λ p. at p (path_eq p path) refl)
    where
      swap : (h k : Node → Y) (p : PathName) → ((n : Node) → h n ≡ k n) → (o : Option Node) → option_and_then (λ (n : Node). if is_parent q p then Some (h n) else None) o ≡ option_and_then (λ (n : Node). if is_parent q p then Some (k n) else None) o
      swap h k p e o = option_same _ _ o (λ n. ap (λ y. if is_parent q p then Some y else None) (e n))

      at : (p : PathName) (t : Bool) → path_eq p path ≡ t → option_and_then (λ (n : Node). if is_parent q p then Some (f' n) else None) (node_at (tree_of (one.records ++ rec ∷ [])) p) ≡ option_and_then (λ (n : Node). if is_parent q p then Some (g' n) else None) (node_at (tree_of (two.records ++ rec ∷ [])) p)
      at p true e =
          let here = path_same p path e in
          ap (option_and_then (λ (n : Node). if is_parent q p then Some (f' n) else None)) (ap (node_at (tree_of (one.records ++ rec ∷ []))) here ∙ fresh_at one.records path rec changes)
          ∙ (swap f' g' p c (fresh rec)
          ∙ sym (ap (option_and_then (λ (n : Node). if is_parent q p then Some (g' n) else None)) (ap (node_at (tree_of (two.records ++ rec ∷ []))) here ∙ fresh_at two.records path rec changes)))
      at p false e =
          ap (option_and_then (λ (n : Node). if is_parent q p then Some (f' n) else None)) (others_stay one.records path rec changes p e)
          ∙ (swap f' f p a (node_at (tree_of one.records) p)
          ∙ (old p e
          ∙ (sym (swap g' g p b (node_at (tree_of two.records) p))
          ∙ sym (ap (option_and_then (λ (n : Node). if is_parent q p then Some (g' n) else None)) (others_stay two.records path rec changes p e)))))

  -- nothing stood below a new directory
  nothing_stood : {Y : Type 0} (log : Log) (r : IsRooted log.owner (tree_of log.records)) (f : Node → Y) → node_at (tree_of log.records) path ≡ None → (p : PathName) → option_and_then (λ (n : Node). if is_parent path p then Some (f n) else None) (node_at (tree_of log.records) p) ≡ None
  unfolding is_parent
  nothing_stood {Y = Y} log r f none p = go (node_at (tree_of log.records) p) refl
    where
      no : (n : Node) → node_at (tree_of log.records) p ≡ Some n → (o : Option PathName) → parent_of p ≡ o → (elim o as (λ _. Bool) [ None ↦ false | Some parent ↦ path_eq parent path ]) ≡ false
      no n there None e = refl
      no n there (Some dir) e =
          let d : HasDirectory (tree_of log.records) dir = subst (λ o. MatchOption o (p.owner ≡ log.owner) (HasDirectory (tree_of log.records))) e (r.placed p n there) in
          false_from_ne_true (path_eq dir path) (λ h. some_none d.0 (sym d.1 ∙ (ap (node_at (tree_of log.records)) (path_same dir path h) ∙ none)))

      go : (o : Option Node) → node_at (tree_of log.records) p ≡ o → option_and_then (λ (n : Node). if is_parent path p then Some (f n) else None) o ≡ None
      go None e = refl
      go (Some n) e = ap (λ b. if b then Some (f n) else None) (no n e (parent_of p) refl)

  old_alike : {Y : Type 0} (f g : Node → Y) (q : PathName) → of_children f (tree_of one.records) q ≡ of_children g (tree_of two.records) q → (p : PathName) → option_and_then (λ (n : Node). if is_parent q p then Some (f n) else None) (node_at (tree_of one.records) p) ≡ option_and_then (λ (n : Node). if is_parent q p then Some (g n) else None) (node_at (tree_of two.records) p)
  old_alike f g q e p = made_alike (λ p n. if is_parent q p then Some (f n) else None) (λ p n. if is_parent q p then Some (g n) else None) (tree_of one.records) (tree_of two.records) (tree_sorted one.records) (tree_sorted two.records) e p

  -- the children of a new directory, and those of another path
  abbrev kept : {Y : Type 0} → (Node → Y) → (Node → Y) → PathName → Type 0
  kept f' g' q = of_children f' (tree_of (one.records ++ rec ∷ [])) q ≡ of_children g' (tree_of (two.records ++ rec ∷ [])) q

  at_new : {Y : Type 0} (f g f' g' : Node → Y) → ((n : Node) → f' n ≡ f n) → ((n : Node) → g' n ≡ g n) → ((n : Node) → f' n ≡ g' n) → (node : Node) → fresh rec ≡ Some node → kind_of node ≡ Directory → kept f' g' path
  at_new f g f' g' a b c node e d =
      children_kept f g f' g' path a b c (λ p other.
      nothing_stood one (rooted one.owner one.records is.fitting) f (fresh_directory one.owner one.records path rec changes fits node e d) p
      ∙ sym (nothing_stood two (rooted two.owner two.records is'.fitting) g (fresh_directory two.owner two.records path rec changes fits' node e d) p))

  abbrev a : Look
  a = look_now one loaded user

  abbrev b : Look
  b = look_now two loaded user

  abbrev a' : Look
  a' = look_now (with_record one rec) loaded user

  abbrev b' : Look
  b' = look_now (with_record two rec) loaded user

  abbrev s : Look → Node → Entry
  s l n = shown l n.entry

  by_stays : (log : Log) (n : Node) → shown (look_now (with_record log rec) loaded user) n.entry ≡ shown (look_now log loaded user) n.entry
  by_stays log n = shown_stays log n.entry

  governors_kept : (q : PathName) → has_some (look_now one loaded user) q ≡ true → option_map (λ (n : Node). shown (look_now (with_record one rec) loaded user) n.entry) (governor_node one.owner (tree_of (one.records ++ rec ∷ [])) q) ≡ option_map (λ (n : Node). shown (look_now (with_record two rec) loaded user) n.entry) (governor_node two.owner (tree_of (two.records ++ rec ∷ [])) q)
  governors_kept q some =
      stays one q ∙ ((sym (governor_shown a q) ∙ (ap (λ (v : View). v.governor) (same_sight (look_now one loaded user) (look_now two loaded user) alike q some) ∙ governor_shown b q)) ∙ sym (stays two q))
    where
      stays : (log : Log) (q : PathName) → option_map (λ (n : Node). shown (look_now (with_record log rec) loaded user) n.entry) (governor_node log.owner (tree_of (log.records ++ rec ∷ [])) q) ≡ option_map (λ (n : Node). shown (look_now log loaded user) n.entry) (governor_node log.owner (tree_of log.records) q)
      stays log q =
          map_same (λ (n : Node). shown (look_now (with_record log rec) loaded user) n.entry) (λ (n : Node). shown (look_now log loaded user) n.entry) (governor_node log.owner (tree_of (log.records ++ rec ∷ [])) q) (by_stays log)
          ∙ ap (option_map (λ (n : Node). shown (look_now log loaded user) n.entry)) (governor_quiet log.owner (tree_of log.records) (tree_of (log.records ++ rec ∷ [])) (tree_sorted log.records) (tree_sorted (log.records ++ rec ∷ [])) (quiet log) q)

  -- at the path itself
  sight_here : has_some (look_now one loaded user) path ≡ true → sight (look_now (with_record one rec) loaded user) path ≡ sight (look_now (with_record two rec) loaded user) path
  sight_here some i = record {
    rights = rights_after path i;
    entry = (ap (option_map (λ (n : Node). shown a' n.entry)) here ∙ (map_same (λ (n : Node). shown a' n.entry) (λ (n : Node). shown b' n.entry) (fresh rec) (λ n. shown_after n.entry) ∙ sym (ap (option_map (λ (n : Node). shown b' n.entry)) here'))) i;
    text = (no_text (rights a' path).read (node_at a'.tree path) ∙ sym (no_text (rights b' path).read (node_at b'.tree path))) i;
    governor = (governor_shown a' path ∙ (governors ∙ sym (governor_shown b' path))) i;
    children = (ap (where_held (rights a' path).list (when_directory (of_children (s a') a'.tree path))) here ∙ (ap (λ (r : Rights). where_held r.list (when_directory (of_children (s a') a'.tree path)) (fresh rec)) (rights_after path) ∙ (new (fresh rec) refl
        (rights b' path).list (of_children (s a') a'.tree path) (of_children (s b') b'.tree path) (λ node e d. at_new (s a) (s b) (s a') (s b') (by_stays one) (by_stays two) (λ n. shown_after n.entry) node e d) ∙ sym (ap (where_held (rights b' path).list (when_directory (of_children (s b') b'.tree path))) here')))) i;
    names = (ap (where_held (rights a' path).delete (when_directory (children a'.tree path))) here ∙ (ap (λ (r : Rights). where_held r.delete (when_directory (children a'.tree path)) (fresh rec)) (rights_after path) ∙ (new (fresh rec) refl
        (rights b' path).delete (children a'.tree path) (children b'.tree path) (λ node e d. children_made a'.tree path ∙ (ap (λ es. keys_of es) (at_new {Y = ⊤} (λ n. tt) (λ n. tt) (λ n. tt) (λ n. tt) (λ n. refl) (λ n. refl) (λ n. refl) node e d) ∙ sym (children_made b'.tree path))) ∙ sym (ap (where_held (rights b' path).delete (when_directory (children b'.tree path))) here')))) i;
  }
    where
      here : node_at (tree_of (one.records ++ rec ∷ [])) path ≡ fresh rec
      here = fresh_at one.records path rec changes

      here' : node_at (tree_of (two.records ++ rec ∷ [])) path ≡ fresh rec
      here' = fresh_at two.records path rec changes

      no_text : (held : Bool) (o : Option Node) → where_held held (control_text path) o ≡ None
      no_text false o = refl
      no_text true None = refl
      no_text true (Some n) = ordinary_text path n plain

      new : {X : Type 0} (o : Option Node) → fresh rec ≡ o → (held : Bool) (x y : X) → ((node : Node) → fresh rec ≡ Some node → kind_of node ≡ Directory → x ≡ y) → where_held held (when_directory x) o ≡ where_held held (when_directory y) o
      new None e held x y h = refl
      new (Some n) e false x y h = refl
      new (Some n) e true x y h = kind (kind_of n) refl
        where
          kind : (k : Kind) → kind_of n ≡ k → (if is_directory k then Some x else None) ≡ (if is_directory k then Some y else None)
          kind File f = refl
          kind Directory f = ap Some (h n e f)
          kind Link f = refl

      governors : option_map (λ (n : Node). shown a' n.entry) (governor_node a'.owner a'.tree path) ≡ option_map (λ (n : Node). shown b' n.entry) (governor_node b'.owner b'.tree path)
      governors = governors_kept path some

  old_kinds : (q : PathName) → has_some (look_now one loaded user) q ≡ true → option_map kind_of (node_at (tree_of one.records) q) ≡ option_map kind_of (node_at (tree_of two.records) q)
  old_kinds q some = two_shown (s a) (s b) (node_at (tree_of one.records) q) (node_at (tree_of two.records) q) (same_entry (look_now one loaded user) (look_now two loaded user) alike q some) kind_of (λ n m e. same_kind (look_now one loaded user) (look_now two loaded user) alike n m e)

  old_names : (q : PathName) → children (tree_of one.records) q ≡ children (tree_of two.records) q → children (tree_of (one.records ++ rec ∷ [])) q ≡ children (tree_of (two.records ++ rec ∷ [])) q
  old_names q e =
      let es : of_children {Y = ⊤} (λ n. tt) (tree_of one.records) q ≡ of_children {Y = ⊤} (λ n. tt) (tree_of two.records) q = keys_determine (of_children {Y = ⊤} (λ n. tt) (tree_of one.records) q) (of_children {Y = ⊤} (λ n. tt) (tree_of two.records) q) (sym (children_made (tree_of one.records) q) ∙ (e ∙ children_made (tree_of two.records) q)) in
      children_made (tree_of (one.records ++ rec ∷ [])) q ∙ (ap (λ es. keys_of es) (children_kept {Y = ⊤} (λ n. tt) (λ n. tt) (λ n. tt) (λ n. tt) q (λ n. refl) (λ n. refl) (λ n. refl) (λ p o. old_alike {Y = ⊤} (λ n. tt) (λ n. tt) q es p)) ∙ sym (children_made (tree_of (two.records ++ rec ∷ [])) q))

  -- at any other path
  sight_other : (q : PathName) → path_eq q path ≡ false → has_some (look_now one loaded user) q ≡ true → sight (look_now (with_record one rec) loaded user) q ≡ sight (look_now (with_record two rec) loaded user) q
  sight_other q other some i = record {
    rights = rights_after q i;
    entry = (entry_stays one ∙ (same_entry (look_now one loaded user) (look_now two loaded user) alike q some ∙ sym (entry_stays two))) i;
    text = (text_stays one ∙ (ap (λ (v : View). v.text) old ∙ sym (text_stays two))) i;
    governor = (governor_shown a' q ∙ (governors_kept q some ∙ sym (governor_shown b' q))) i;
    children = (list_stays one a' ∙ (both_directory (rights a q).list (of_children (s a) (tree_of one.records) q) (of_children (s b) (tree_of two.records) q) (of_children (s a') a'.tree q) (of_children (s b') b'.tree q) (node_at (tree_of one.records) q) (node_at (tree_of two.records) q) (old_kinds q some)
        (λ held n m e f d g same'. children_kept (s a) (s b) (s a') (s b') q (by_stays one) (by_stays two) (λ n. shown_after n.entry) (λ p o. old_alike (s a) (s b) q same' p))
        (ap (λ (v : View). v.children) old ∙ ap (λ (r : Rights). where_held r.list (when_directory (of_children (s b) (tree_of two.records) q)) (node_at (tree_of two.records) q)) (sym rights_old))
        ∙ (ap (λ (r : Rights). where_held r.list (when_directory (of_children (s b') b'.tree q)) (node_at (tree_of two.records) q)) rights_old ∙ sym (list_stays two b')))) i;
    names = (name_stays one a' ∙ (both_directory (rights a q).delete (children (tree_of one.records) q) (children (tree_of two.records) q) (children a'.tree q) (children b'.tree q) (node_at (tree_of one.records) q) (node_at (tree_of two.records) q) (old_kinds q some)
        (λ held n m e f d g same'. old_names q same')
        (ap (λ (v : View). v.names) old ∙ ap (λ (r : Rights). where_held r.delete (when_directory (children (tree_of two.records) q)) (node_at (tree_of two.records) q)) (sym rights_old))
        ∙ (ap (λ (r : Rights). where_held r.delete (when_directory (children b'.tree q)) (node_at (tree_of two.records) q)) rights_old ∙ sym (name_stays two b')))) i;
  }
    where
      old : sight (look_now one loaded user) q ≡ sight (look_now two loaded user) q
      old = same_sight (look_now one loaded user) (look_now two loaded user) alike q some

      rights_old : rights (look_now one loaded user) q ≡ rights (look_now two loaded user) q
      rights_old = same_rights (look_now one loaded user) (look_now two loaded user) alike q

      entry_stays : (log : Log) → option_map (λ (n : Node). shown (look_now (with_record log rec) loaded user) n.entry) (node_at (tree_of (log.records ++ rec ∷ [])) q) ≡ option_map (λ (n : Node). shown (look_now log loaded user) n.entry) (node_at (tree_of log.records) q)
      entry_stays log = map_same (s (look_now (with_record log rec) loaded user)) (s (look_now log loaded user)) (node_at (tree_of (log.records ++ rec ∷ [])) q) (by_stays log) ∙ ap (option_map (s (look_now log loaded user))) (others_stay log.records path rec changes q other)

      text_stays : (log : Log) → where_held (rights (look_now (with_record log rec) loaded user) q).read (control_text q) (node_at (tree_of (log.records ++ rec ∷ [])) q) ≡ where_held (rights (look_now log loaded user) q).read (control_text q) (node_at (tree_of log.records) q)
      text_stays log = ap (λ (r : Rights). where_held r.read (control_text q) (node_at (tree_of (log.records ++ rec ∷ [])) q)) (rights_stay log q) ∙ ap (where_held (rights (look_now log loaded user) q).read (control_text q)) (others_stay log.records path rec changes q other)

      list_stays : (log : Log) (l : Look) → where_held (rights (look_now (with_record log rec) loaded user) q).list (when_directory (of_children (s l) l.tree q)) (node_at (tree_of (log.records ++ rec ∷ [])) q) ≡ where_held (rights (look_now log loaded user) q).list (when_directory (of_children (s l) l.tree q)) (node_at (tree_of log.records) q)
      list_stays log l = ap (λ (r : Rights). where_held r.list (when_directory (of_children (s l) l.tree q)) (node_at (tree_of (log.records ++ rec ∷ [])) q)) (rights_stay log q) ∙ ap (where_held (rights (look_now log loaded user) q).list (when_directory (of_children (s l) l.tree q))) (others_stay log.records path rec changes q other)

      name_stays : (log : Log) (l : Look) → where_held (rights (look_now (with_record log rec) loaded user) q).delete (when_directory (children l.tree q)) (node_at (tree_of (log.records ++ rec ∷ [])) q) ≡ where_held (rights (look_now log loaded user) q).delete (when_directory (children l.tree q)) (node_at (tree_of log.records) q)
      name_stays log l = ap (λ (r : Rights). where_held r.delete (when_directory (children l.tree q)) (node_at (tree_of (log.records ++ rec ∷ [])) q)) (rights_stay log q) ∙ ap (where_held (rights (look_now log loaded user) q).delete (when_directory (children l.tree q))) (others_stay log.records path rec changes q other)

  views_after : (q : PathName) → view (look_now (with_record one rec) loaded user) q ≡ view (look_now (with_record two rec) loaded user) q
  unfolding view
  views_after q = go (has_some a' q) refl (path_eq q path) refl ∙ ap (λ (r : Rights). if has_any r then Some (sight b' q) else None) (rights_after q)
    where
      go : (some : Bool) → has_some a' q ≡ some → (e : Bool) → path_eq q path ≡ e → (if has_some a' q then Some (sight a' q) else None) ≡ (if has_some a' q then Some (sight b' q) else None)
      go false none e p = ap (λ x. if x then Some (sight a' q) else None) none ∙ sym (ap (λ x. if x then Some (sight b' q) else None) none)
      go true some true p =
          let here : q ≡ path = path_same q path p in
          let seen : has_some a path ≡ true = ap (has_some a) (sym here) ∙ (ap has_any (sym (rights_stay one q)) ∙ some) in
          ap (λ v. if has_some a' q then Some v else None) (ap (sight a') here ∙ (sight_here seen ∙ sym (ap (sight b') here)))
      go true some false p = ap (λ v. if has_some a' q then Some v else None) (sight_other q p (ap has_any (sym (rights_stay one q)) ∙ some))

  -- ---- events

  change_of : Node → Change
  change_of node = record { delete = true; entry = node.entry }

  gone_event : Look → ℕ → Option Node → Option WatchEvent
  gone_event l n found = option_and_then (λ node. event_of l l n (change_of node)) found

  deleted : (n : ℕ) → has_some a path ≡ true → gone_event a' n (node_at (tree_of one.records) path) ≡ gone_event b' n (node_at (tree_of two.records) path)
  unfolding gone_event event_of change_of
  deleted n some =
      shown_alike (shown a) (shown b) (λ node. event_of a' a' n (change_of node)) (λ node. event_of b' b' n (change_of node)) (node_at (tree_of one.records) path) (node_at (tree_of two.records) path) (same_entry (look_now one loaded user) (look_now two loaded user) alike path some)
      (λ x y e.
      let name : x.entry.name ≡ y.entry.name = sym (shown_name a x.entry) ∙ (ap (λ (z : Entry). z.name) e ∙ shown_name b y.entry) in
      ap (λ (r : Rights). if has_any r && has_any r then Some (record { position = suc n; delete = true; entry = shown a' x.entry }) else None) (rights_after x.entry.name)
      ∙ (ap (λ p. if has_some b' p && has_some b' p then Some (record { position = suc n; delete = true; entry = shown a' x.entry }) else None) name
      ∙ ap (λ z. if has_some b' y.entry.name && has_some b' y.entry.name then Some (record { position = suc n; delete = true; entry = z }) else None) (shown_stays one x.entry ∙ (e ∙ sym (shown_stays two y.entry)))))

  not_told : (log : Log) (r : IsRooted log.owner (tree_of log.records)) (l : Look) (n : ℕ) → has_some l path ≡ false → gone_event l n (node_at (tree_of log.records) path) ≡ None
  unfolding gone_event event_of change_of
  not_told log r l n none = go (node_at (tree_of log.records) path) refl
    where
      go : (o : Option Node) → node_at (tree_of log.records) path ≡ o → option_and_then (λ node. event_of l l n (change_of node)) o ≡ None
      go None e = refl
      go (Some node) e = ap (λ b. if b && has_some l node.entry.name then Some (record { position = suc n; delete = true; entry = shown l node.entry }) else None) (ap (has_some l) (r.named path node e) ∙ none)

  gone_same : (n : ℕ) → gone_event a' n (node_at (tree_of one.records) path) ≡ gone_event b' n (node_at (tree_of two.records) path)
  gone_same n = go (has_some a path) refl
    where
      go : (some : Bool) → has_some a path ≡ some → gone_event a' n (node_at (tree_of one.records) path) ≡ gone_event b' n (node_at (tree_of two.records) path)
      go true some = deleted n some
      go false none =
          let first : has_some a' path ≡ false = ap has_any (rights_stay one path) ∙ none in
          not_told one (rooted one.owner one.records is.fitting) a' n first ∙ sym (not_told two (rooted two.owner two.records is'.fitting) b' n (sym (ap has_any (rights_after path)) ∙ first))

  last_same : (n : ℕ) (r : Rec) → touched r ≡ Some path → option_and_then (event_of a' a' n) (change_in (tree_of one.records) r) ≡ option_and_then (event_of b' b' n) (change_in (tree_of two.records) r)
  unfolding change_in gone_event change_of
  last_same n (Put entry text) e = event_of_same a' b' a' b' n (record { delete = false; entry = entry }) rights_after rights_after
  last_same n (Delete gone) e =
      ap (λ p. option_and_then (event_of a' a' n) (option_map change_of (node_at (tree_of one.records) p))) (some_same gone path e)
      ∙ (through a' (node_at (tree_of one.records) path)
      ∙ (gone_same n
      ∙ (sym (through b' (node_at (tree_of two.records) path))
      ∙ sym (ap (λ p. option_and_then (event_of b' b' n) (option_map change_of (node_at (tree_of two.records) p))) (some_same gone path e)))))
    where
      through : (l : Look) (o : Option Node) → option_and_then (event_of l l n) (option_map change_of o) ≡ option_and_then (λ node. event_of l l n (change_of node)) o
      through l None = refl
      through l (Some node) = refl
  last_same n (Snap time) e = absurd (some_none path (sym e))

  events_alike : length one.records ≡ length two.records → events (with_record one rec) loaded user ≡ events (with_record two rec) loaded user
  events_alike count =
      events_after one rec loaded user (quiet one)
      ∙ (ap (λ es. es ++ cons_option (option_and_then (event_of a' a' (length one.records)) (change_in (tree_of one.records) rec)) []) same.events
      ∙ (ap (λ e. events two loaded user ++ cons_option e []) (last_same (length one.records) rec changes ∙ ap (λ n. option_and_then (event_of b' b' n) (change_in (tree_of two.records) rec)) count)
      ∙ sym (events_after two rec loaded user (quiet two))))

  -- the user sees the same after the record
  pub same_after : length one.records ≡ length two.records → SeesTheSame user loaded (with_record one rec) (with_record two rec)
  same_after count = record { views = λ q owned. views_after q; events = events_alike count }
