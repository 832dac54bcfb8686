-- Put in two trees in which a user sees the same at every path.
use Rattle.std.proofs.Common.{◌≡◌, ℕ, zero, suc, ◌+◌, ◌-◌, ◌≤◌, Bool, true, false, not, ◌&&◌, ◌||◌, List, [], ◌∷◌, ◌++◌, length, take, drop, refl, sym, ap, subst, ◌∙◌, arith, Option, Some, None, bytes_eq}
use Rattle.std.specs.Prelude.{if◌then◌else◌, nat_le, ⊤, MatchOption, codes, nat_lt, Result, is_none, is_some, ◌==◌}
use Rattle.std.specs.Prelude as std
use Rattle.std.specs.Option.{option_map}
use Rattle.std.proofs.Math.Seq.{take-length}
use Rattle.std.proofs.lemmas.List.{take-append-drop, drop_at, take-take, take-append-le, length_push}
use Rattle.std.proofs.lemmas.Bool.{false≢true, and_parts, and_from, leb-true, le-leb}
use lib.Pointwise.{pointwise}
use Rattle.std.specs.List.{starts_with}
use Rattle.std.proofs.lemmas.Slice.Eq.{bytes_eq-Decides, slice_eq-Decides}
use Rattle.up_names.specs.PathNames.{PathName, cut, extended, parent_of, control_of, is_in_group, ends_in_access}
use Rattle.up_entry.specs.Rules.{control_fits}
use Rattle.up_names.specs.declared.paths.Control.TheVariants as control
use Rattle.up_names.specs.UserNames.{base_of}
use Rattle.up_rights.specs.declared.Right.{Right}
use Rattle.up_rights.specs.declared.Right.TheVariants as right
use Rattle.up_rights.specs.RightSets.{Rights, has_right}
use Rattle.up_entry.specs.declared.entries.Entry.{Entry}
use Rattle.up_entry.specs.declared.entries.Kind.{Kind}
use Rattle.up_entry.specs.declared.entries.Kind.TheVariants.{Directory}
use Rattle.up_entry.specs.declared.puts.Checked.{Checked}
use Rattle.up_entry.specs.declared.records.Rec.TheVariants as rec
use Rattle.up_entry.specs.Showing.{shown_as}
use Rattle.up_policy.specs.Trees.{owns_snapshots}
use Rattle.up_policy.specs.Governors.{prefixes_to, prefixes, governor}
use Rattle.up_policy.specs.Verdicts.{only_looks, is_control, without_text, text_decides, right_test}
use Rattle.up_wire.specs.declared.replies.Reply.{Reply}
use Rattle.up_wire.specs.declared.replies.Reply.TheVariants as reply
use Rattle.up_log_tree.specs.declared.node.Node.{Node}
use Rattle.up_log_tree.specs.Trees.{Tree, node_at, kind_of, is_file}
use Rattle.up_list.specs.Checks.{first_link, ways, check, lacking, at_link}
use Rattle.up_entry.specs.Rules.{is_directory}
use Rattle.up_list.specs.Looks.{Look, rights, has_some, shown}
use Rattle.up_log_tree.specs.Rights.{access_node, facts_of, group_paths}
use Rattle.up_answers.specs.Views.{View, where_held, control_text, shown_node}
use Rattle.up_answers.proofs.GovernorLemmas.{first_made, governor_node, governor_shown, made_found}
use Rattle.up_log_tree.specs.Fits.{HasDirectory}
use Rattle.up_list.specs.Reads.{file_text, text_reply, group_text_reply}
use Rattle.up_list.specs.Changes.{◌>>=◌, unless, refuse, right_to_put}
use Rattle.up_answers.specs.Puts.{wanted, is_new, holds, lacks_parent, is_in_file, place_refusal, put_outcome}
use Rattle.up_answers.specs.Fetching.{text_put, Fetched}
use Rattle.up_log_tree.proofs.Rooted.{IsRooted}
use Rattle.up_log_tree.proofs.Paths.{some_none, some_same, parent_is, cut_cut, cut_whole, length_cut}
use Rattle.up_answers.proofs.RightLemmas.{governed_above, test_above, held_is, stranger_test, any_from}
use Rattle.up_answers.proofs.AlikeLemmas.{AreAlike, turned_round, same_some, same_sight, same_rights, same_entry, same_governor, ways_are, check_same, passed_some, passed_right, behind_check, same_kind}
use Rattle.up_answers.proofs.ChangeLemmas.{text_is_seen, held_alike, bind_same, unless_ok, same_there, said_text}

-- ---- GroupText

module _ (one two : Look) (alike : AreAlike (record one { loaded = [] }) (record two { loaded = [] })) (rooted : IsRooted one.owner one.tree) (rooted' : IsRooted two.owner two.tree) (stranger : one.user ≡ one.owner → ⊥) (stranger' : two.user ≡ two.owner → ⊥) where
  pub group_text_same : (path : PathName) → control_of path ≡ control.Group → group_text_reply one path ≡ group_text_reply two path
  unfolding group_text_reply
  group_text_same path group =
      let a : Look = record one { loaded = [] } in
      let b : Look = record two { loaded = [] } in
      behind_check (check a (ways path) path (Some right.Read)) (check b (ways path) path (Some right.Read)) (text_reply (file_text (node_at one.tree path))) (text_reply (file_text (node_at two.tree path)))
      (check_same a b alike rooted rooted' stranger stranger' (ways path) path (ways_are path) (Some right.Read))
      (λ passes.
      let some = passed_some a (ways path) path (Some right.Read) passes in
      let held : (rights a path).read ≡ true = passed_right a (ways path) path right.Read passes in
      let texts : where_held (rights a path).read (control_text path) (node_at one.tree path) ≡ where_held (rights b path).read (control_text path) (node_at two.tree path) = ap (λ (v : View). v.text) (same_sight a b alike path some) in
      let same = held_alike (rights a path).read (control_text path) (control_text path) (node_at one.tree path) (node_at two.tree path) held
      (texts ∙ ap (λ c. where_held c (control_text path) (node_at two.tree path)) (sym (ap (λ (r : Rights). r.read) (same_rights a b alike path)))) in
      text_is_seen path (node_at one.tree path) group ∙ (ap said_text same ∙ sym (text_is_seen path (node_at two.tree path) group)))

-- ---- where nothing stands

extended_cut : (dir : PathName) (element : List ℕ) → cut (length dir.elements) (extended dir element) ≡ dir
extended_cut dir element = ap (λ elements. record { owner = dir.owner; elements = elements }) (take-append-le (length dir.elements) dir.elements (element ∷ []) (omega arith) ∙ take-length dir.elements)

extended_parent : (dir : PathName) (element : List ℕ) → parent_of (extended dir element) ≡ Some dir
extended_parent dir element = parent_is (extended dir element) (length dir.elements) (length_push dir.elements element ∙ (let e : length dir.elements + 1 ≡ suc (length dir.elements) = omega arith in e)) ∙ ap Some (extended_cut dir element)

pub ends_extended : (dir : PathName) → ends_in_access (extended dir (codes "Access")) ≡ true
ends_extended dir = ap (λ last. pointwise bytes_eq (codes "Access" ∷ []) last) (drop_at dir.elements (codes "Access" ∷ []) (length (dir.elements ++ codes "Access" ∷ []) - 1) (let e : length (dir.elements ++ codes "Access" ∷ []) ≡ length dir.elements + 1 = length_push dir.elements (codes "Access") in omega arith))

module _ (owner : List ℕ) (tree : Tree) (rooted : IsRooted owner tree) where
  -- no Access file stands in what is no directory
  pub no_access_in : (dir : PathName) → (HasDirectory tree dir → ⊥) → access_node tree dir ≡ None
  no_access_in dir none = go (node_at tree (extended dir (codes "Access"))) refl
    where
      go : (found : Option Node) → node_at tree (extended dir (codes "Access")) ≡ found → found ≡ None
      go None is = refl
      go (Some node) is = absurd (none (subst (λ o. MatchOption o (dir.owner ≡ owner) (HasDirectory tree)) (extended_parent dir (codes "Access")) (rooted.placed (extended dir (codes "Access")) node is)))

  -- what stands nowhere is no directory
  pub absent_directory : (path : PathName) → node_at tree path ≡ None → HasDirectory tree path → ⊥
  absent_directory path none d = some_none d.0 (sym d.1 ∙ none)

-- ---- a path that is free

-- a control path below which an ordinary path stands is an Access path
module _ (path : PathName) (n : ℕ) (is : length path.elements ≡ suc n) where
  group_goes_down : is_in_group (cut n path) ≡ true → is_in_group path ≡ true
  group_goes_down h =
      let parts = and_parts (nat_le 2 (length (cut n path).elements)) (starts_with bytes_eq (cut n path).elements (codes "Group" ∷ [])) h in
      let long : 2 ≤ length (cut n path).elements = leb-true 2 (length (cut n path).elements) parts.0 in
      let size : length (cut n path).elements ≡ n = length_cut n path (omega arith) in
      let two : 2 ≤ n = omega arith in
      and_from (nat_le 2 (length path.elements)) (starts_with bytes_eq path.elements (codes "Group" ∷ []))
      (le-leb 2 (length path.elements) (omega arith))
      (ap (λ front. pointwise bytes_eq (codes "Group" ∷ []) front) (sym (take-take 1 n path.elements (omega arith))) ∙ parts.1)

  access_above : is_control (cut n path) ≡ true → is_control path ≡ false → ends_in_access (cut n path) ≡ true
  access_above above here = go (ends_in_access (cut n path)) refl (is_in_group (cut n path)) refl above
    where
      in_group : (a g : Bool) → g ≡ true → elim (if a then control.Access else if g then control.Group else control.Ordinary) as (λ _. Bool) [ control.Ordinary ↦ false | control.Access ↦ true | control.Group ↦ true ] ≡ true
      in_group true g h = refl
      in_group false true h = refl
      in_group false false h = absurd (false≢true h)

      go : (a : Bool) → ends_in_access (cut n path) ≡ a → (g : Bool) → is_in_group (cut n path) ≡ g → elim (if a then control.Access else if g then control.Group else control.Ordinary) as (λ _. Bool) [ control.Ordinary ↦ false | control.Access ↦ true | control.Group ↦ true ] ≡ true → a ≡ true
      go true a g b h = refl
      go false a true b h = absurd (false≢true (sym here ∙ in_group (ends_in_access path) (is_in_group path) (group_goes_down b)))
      go false a false b h = absurd (false≢true h)

-- an Access path is that of a directory's Access file
pub access_of_directory : (path : PathName) → ends_in_access path ≡ true → (dir : PathName) × (path ≡ extended dir (codes "Access"))
access_of_directory path h =
    let k : ℕ = length path.elements - 1 in
    let last : (codes "Access" ∷ []) ≡ drop k path.elements = (slice_eq-Decides bytes_eq-Decides (codes "Access" ∷ []) (drop k path.elements) (pointwise bytes_eq (codes "Access" ∷ []) (drop k path.elements)) refl).0 h in
    (cut k path, ap (λ elements. record { owner = path.owner; elements = elements }) (sym (take-append-drop k path.elements) ∙ ap (λ end. take k path.elements ++ end) (sym last)))

module _ (look : Look) (rooted : IsRooted look.owner look.tree) (plain : owns_snapshots look.owner ≡ false) (stranger : look.user ≡ look.owner → ⊥) (path : PathName) (n : ℕ) (is : length path.elements ≡ suc n) (free : node_at look.tree path ≡ None) where
  whole : cut (suc n) path ≡ path
  whole = ap (λ k. cut k path) (sym is) ∙ cut_whole path

  no_access_here : access_node look.tree (cut (suc n) path) ≡ None
  no_access_here = ap (access_node look.tree) whole ∙ no_access_in look.owner look.tree rooted path (absent_directory look.owner look.tree rooted path free)

  -- a free path has its parent's governor
  free_governor : governor (facts_of look.owner look.tree) path ≡ governor (facts_of look.owner look.tree) (cut n path)
  unfolding governor facts_of
  free_governor =
      ap (λ o. if owns_snapshots look.owner then None else o)
      (governed_above (facts_of look.owner look.tree).access n path (omega arith) (λ k low high. ap (λ i. (facts_of look.owner look.tree).access (cut i path)) (let e : k ≡ suc n = omega arith in e) ∙ ap (option_map _) no_access_here))

  -- only the owner may create a control file
  no_control : has_right (rights look path) right.Create ≡ true → is_control path ≡ false
  unfolding rights right_test without_text facts_of
  no_control held = go (is_control path) refl (bytes_eq look.user look.owner) (stranger_test look.user look.owner stranger) (owns_snapshots look.owner) plain (sym (held_is (facts_of look.owner look.tree) (group_paths look.tree) look.loaded look.user path right.Create) ∙ held)
    where
      go : (c : Bool) → is_control path ≡ c → (o : Bool) → o ≡ false → (s : Bool) → s ≡ false →
          elim (if s then Some (only_looks right.Create && bytes_eq look.user (base_of look.owner)) else if o && only_looks right.Create then Some true else if is_control path && not (only_looks right.Create) then Some o else None) as (λ _. Bool) [ Some answer ↦ answer | None ↦ text_decides (facts_of look.owner look.tree) (group_paths look.tree) look.loaded look.user right.Create (governor (facts_of look.owner look.tree) path) ] ≡ true → is_control path ≡ false
      go false c o p s q h = c
      go true c true p s q h = absurd (false≢true (sym p))
      go true c false p true q h = absurd (false≢true (sym q))
      go true c false p false q h = absurd (false≢true (sym (ap (λ b. elim (if b && true then Some false else None) as (λ _. Bool) [ Some answer ↦ answer | None ↦ text_decides (facts_of look.owner look.tree) (group_paths look.tree) look.loaded look.user right.Create (governor (facts_of look.owner look.tree) path) ]) c) ∙ h))

  -- who may create there has a right on the parent, where that is no control path
  some_on_parent : has_right (rights look path) right.Create ≡ true → is_control (cut n path) ≡ false → has_some look (cut n path) ≡ true
  unfolding rights facts_of
  some_on_parent held ordinary =
      let facts = facts_of look.owner look.tree in
      let listed = group_paths look.tree in
      let test = test_above facts listed look.loaded look.user right.Create path (cut n path) (stranger_test look.user look.owner stranger) ordinary free_governor (sym (held_is facts listed look.loaded look.user path right.Create) ∙ held) in
      any_from (rights look (cut n path)) right.Create (held_is facts listed look.loaded look.user (cut n path) right.Create ∙ test)

  -- an Access file that would be the parent governs
  parent_governs : (dir : PathName) (node : Node) → cut n path ≡ extended dir (codes "Access") → node_at look.tree (cut n path) ≡ Some node → governor_node look.owner look.tree path ≡ Some node
  parent_governs dir node same there = ap (λ b. if b then None else first_made (access_node look.tree) (prefixes path)) plain ∙ (ap (λ k. first_made (access_node look.tree) (prefixes_to k path)) is ∙ (skip (access_node look.tree (cut (suc n) path)) (first_made (access_node look.tree) (prefixes_to n path)) no_access_here ∙ at n refl))
    where
      skip : (o : Option Node) (rest : Option Node) → o ≡ None → elim o as (λ _. Option Node) [ Some x ↦ Some x | None ↦ rest ] ≡ rest
      skip None rest h = refl
      skip (Some x) rest h = absurd (some_none x h)

      found : (o : Option Node) (rest : Option Node) → o ≡ Some node → elim o as (λ _. Option Node) [ Some x ↦ Some x | None ↦ rest ] ≡ Some node
      found None rest h = absurd (some_none node (sym h))
      found (Some x) rest h = h

      size : length (cut n path).elements ≡ length dir.elements + 1
      size = ap (λ (p : PathName). length p.elements) same ∙ length_push dir.elements (codes "Access")

      long : n ≡ length dir.elements + 1
      long = sym (length_cut n path (omega arith)) ∙ size

      -- an Access file is no directory
      no_directory : HasDirectory look.tree (cut n path) → ⊥
      no_directory d =
          let fits : control_fits Directory (control_of (cut n path)) ≡ true = ap (λ kind. control_fits kind (control_of (cut n path))) (sym d.2) ∙ rooted.control (cut n path) d.0 d.1 in
          false≢true (sym (directory_fits (ends_in_access (cut n path)) (is_in_group (cut n path)) (ap ends_in_access same ∙ ends_extended dir)) ∙ fits)
        where
          directory_fits : (a g : Bool) → a ≡ true → control_fits Directory (if a then control.Access else if g then control.Group else control.Ordinary) ≡ false
          directory_fits true g h = refl
          directory_fits false g h = absurd (false≢true h)

      at : (m : ℕ) → n ≡ m → first_made (access_node look.tree) (prefixes_to m path) ≡ Some node
      at zero e = absurd (let z : ⊥ = omega (arith, long) in z)
      at (suc m) e =
          let size_dir : m ≡ length dir.elements = omega (arith, long) in
          let here : cut m path ≡ dir =
          sym (cut_cut m n path (omega arith)) ∙ (ap (cut m) same ∙ (ap (λ k. cut k (extended dir (codes "Access"))) size_dir ∙ extended_cut dir (codes "Access"))) in
          skip (access_node look.tree (cut (suc m) path)) (first_made (access_node look.tree) (prefixes_to m path)) (ap (λ k. access_node look.tree (cut k path)) (sym e) ∙ no_access_in look.owner look.tree rooted (cut n path) no_directory)
          ∙ first_at m here
        where
          first_at : (k : ℕ) → cut k path ≡ dir → first_made (access_node look.tree) (prefixes_to k path) ≡ Some node
          first_at zero here = found (access_node look.tree (cut 0 path)) None (ap (access_node look.tree) here ∙ (ap (node_at look.tree) (sym same) ∙ there))
          first_at (suc k) here = found (access_node look.tree (cut (suc k) path)) (first_made (access_node look.tree) (prefixes_to k path)) (ap (access_node look.tree) here ∙ (ap (node_at look.tree) (sym same) ∙ there))

-- the governor's node stands at its name
pub governor_stands : (owner : List ℕ) (tree : Tree) (rooted : IsRooted owner tree) (path : PathName) (node : Node) → governor_node owner tree path ≡ Some node → node_at tree node.entry.name ≡ Some node
governor_stands owner tree rooted path node h = go (owns_snapshots owner) h
  where
    go : (s : Bool) → (if s then None else first_made (access_node tree) (prefixes path)) ≡ Some node → node_at tree node.entry.name ≡ Some node
    go true h = absurd (some_none node (sym h))
    go false h =
        let found = made_found (access_node tree) (prefixes path) node h in
        ap (node_at tree) (rooted.named (extended found.0 (codes "Access")) node found.2) ∙ found.2

-- ---- the two trees

pub two_shown : {X : Type 0} (f g : Node → X) (a b : Option Node) → option_map f a ≡ option_map g b → (h : Node → Kind) → ((n m : Node) → f n ≡ g m → h n ≡ h m) → option_map h a ≡ option_map h b
two_shown f g None None e h k = refl
two_shown f g None (Some m) e h k = absurd (some_none (g m) (sym e))
two_shown f g (Some n) None e h k = absurd (some_none (f n) e)
two_shown f g (Some n) (Some m) e h k = ap Some (k n m (some_same (f n) (g m) e))

pub shown_name : (look : Look) (entry : Entry) → (shown look entry).name ≡ entry.name
shown_name look entry = go (rights look entry.name).read
  where
    go : (read : Bool) → (shown_as read entry).name ≡ entry.name
    go true = refl
    go false = refl

pub shown_sequence : (look : Look) (entry : Entry) → (shown look entry).sequence ≡ entry.sequence
shown_sequence look entry = go (rights look entry.name).read
  where
    go : (read : Bool) → (shown_as read entry).sequence ≡ entry.sequence
    go true = refl
    go false = refl

-- what is kept of the parent, and of the item: its kind, and its sequence
abbrev in_file : Option Kind → Bool
in_file found = elim found [ None ↦ false | Some kind ↦ is_file kind ]

lacks_by : (tree : Tree) (path dir : PathName) → parent_of path ≡ Some dir → lacks_parent tree path ≡ is_none (option_map kind_of (node_at tree dir))
lacks_by tree path dir is = ap (λ o. elim o as (λ _. Bool) [ None ↦ false | Some parent ↦ is_none (node_at tree parent) ]) is ∙ go (node_at tree dir)
  where
    go : (o : Option Node) → is_none o ≡ is_none (option_map kind_of o)
    go None = refl
    go (Some n) = refl

file_by : (tree : Tree) (path dir : PathName) → parent_of path ≡ Some dir → is_in_file tree path ≡ in_file (option_map kind_of (node_at tree dir))
file_by tree path dir is = ap (λ o. elim o as (λ _. Bool) [ None ↦ false | Some parent ↦ holds (node_at tree parent) (λ node. is_file (kind_of node)) ]) is ∙ go (node_at tree dir)
  where
    go : (o : Option Node) → holds o (λ node. is_file (kind_of node)) ≡ in_file (option_map kind_of o)
    go None = refl
    go (Some n) = refl

abbrev Brief : Type 0
Brief = Kind × ℕ

abbrev brief : Node → Brief
brief node = (kind_of node, node.entry.sequence)

abbrev place_by : Bool → Bool → Option Brief → Checked → Result ⊤ Reply
place_by lacks inside found put =
    refuse (lacks || (is_some (wanted put.sequence) && is_none found)) reply.NotExist >>= λ parent.
    refuse inside reply.NotDir >>= λ above.
    refuse (elim found as (λ _. Bool) [ None ↦ false | Some b ↦ is_directory b.0 ] && not (is_directory put.entry.attr.kind)) reply.IsDir >>= λ directory.
    refuse (is_some found && (is_new put.sequence || is_directory put.entry.attr.kind)) reply.Exist >>= λ new.
    elim found as (λ _. Result ⊤ Reply) [
      | None ↦ std.Ok tt
      | Some b ↦ elim (wanted put.sequence) as (λ _. Result ⊤ Reply) [ None ↦ std.Ok tt | Some sequence ↦ refuse (not (sequence == b.1)) (reply.BadSequence b.1) ]
    ]

place_is : (found : Option Node) (tree : Tree) (put : Checked) → place_refusal found tree put ≡ place_by (lacks_parent tree put.entry.name) (is_in_file tree put.entry.name) (option_map brief found) put
unfolding place_refusal
place_is None tree put = refl
place_is (Some node) tree put = refl

module _ (one two : Look) (alike : AreAlike one two) (rooted : IsRooted one.owner one.tree) (rooted' : IsRooted two.owner two.tree) (plain : owns_snapshots one.owner ≡ false) (stranger : one.user ≡ one.owner → ⊥) (path : PathName) (n : ℕ) (is : length path.elements ≡ suc n) where
  -- an Access file that would be the parent, where a user may create below it, stands in both trees
  access_over : (dir : PathName) (node : Node) → cut n path ≡ extended dir (codes "Access") → has_some one path ≡ true → node_at one.tree path ≡ None → node_at one.tree (cut n path) ≡ Some node → (other : Node) × (node_at two.tree (cut n path) ≡ Some other) × (kind_of node ≡ kind_of other)
  access_over dir node same some free there = go (governor_node two.owner two.tree path) refl
    where
      governs : Some (shown one node.entry) ≡ option_map (shown_node two) (governor_node two.owner two.tree path)
      governs = sym (ap (option_map (shown_node one)) (parent_governs one rooted plain stranger path n is free dir node same there)) ∙ (sym (governor_shown one path) ∙ (same_governor one two alike path some ∙ governor_shown two path))

      go : (g : Option Node) → governor_node two.owner two.tree path ≡ g → (other : Node) × (node_at two.tree (cut n path) ≡ Some other) × (kind_of node ≡ kind_of other)
      go None none = absurd (some_none (shown one node.entry) (governs ∙ ap (option_map (shown_node two)) none))
      go (Some g) is_g =
          let alike_shown : shown one node.entry ≡ shown two g.entry = some_same (shown one node.entry) (shown two g.entry) (governs ∙ ap (option_map (shown_node two)) is_g) in
          let name : g.entry.name ≡ cut n path = sym (shown_name two g.entry) ∙ (sym (ap (λ (e : Entry). e.name) alike_shown) ∙ (shown_name one node.entry ∙ rooted.named (cut n path) node there)) in
          (g, ap (node_at two.tree) (sym name) ∙ governor_stands two.owner two.tree rooted' path g is_g, same_kind one two alike node g alike_shown)

module _ (one two : Look) (alike : AreAlike one two) (rooted : IsRooted one.owner one.tree) (rooted' : IsRooted two.owner two.tree) (plain : owns_snapshots one.owner ≡ false) (plain' : owns_snapshots two.owner ≡ false) (stranger : one.user ≡ one.owner → ⊥) (stranger' : two.user ≡ two.owner → ⊥) (path : PathName) where
  kinds_alike : (q : PathName) → has_some one q ≡ true → option_map kind_of (node_at one.tree q) ≡ option_map kind_of (node_at two.tree q)
  kinds_alike q some = two_shown (shown_node one) (shown_node two) (node_at one.tree q) (node_at two.tree q) (same_entry one two alike q some) kind_of (λ a b same. same_kind one two alike a b same)

  -- where a user may create, the parents are of one kind
  module _ (n : ℕ) (is : length path.elements ≡ suc n) where
    parents_of_free : has_right (rights one path) right.Create ≡ true → node_at one.tree path ≡ None → node_at two.tree path ≡ None → option_map kind_of (node_at one.tree (cut n path)) ≡ option_map kind_of (node_at two.tree (cut n path))
    parents_of_free held free free' = go (is_control (cut n path)) refl
      where
        some : has_some one path ≡ true
        some = any_from (rights one path) right.Create held

        some' : has_some two path ≡ true
        some' = sym (same_some one two alike path) ∙ some

        by : (dir : PathName) → cut n path ≡ extended dir (codes "Access") → (a : Option Node) → node_at one.tree (cut n path) ≡ a → (b : Option Node) → node_at two.tree (cut n path) ≡ b → option_map kind_of a ≡ option_map kind_of b
        by dir same None p None q = refl
        by dir same (Some a) p None q = let over = access_over one two alike rooted rooted' plain stranger path n is dir a same some free p in absurd (some_none over.0 (sym over.1 ∙ q))
        by dir same None p (Some b) q = let over = access_over two one (turned_round one two alike) rooted' rooted plain' stranger' path n is dir b same some' free' q in absurd (some_none over.0 (sym over.1 ∙ p))
        by dir same (Some a) p (Some b) q = let over = access_over one two alike rooted rooted' plain stranger path n is dir a same some free p in ap Some (over.2 ∙ ap kind_of (some_same over.0 b (sym over.1 ∙ q)))

        go : (c : Bool) → is_control (cut n path) ≡ c → option_map kind_of (node_at one.tree (cut n path)) ≡ option_map kind_of (node_at two.tree (cut n path))
        go false c = kinds_alike (cut n path) (some_on_parent one rooted plain stranger path n is free held c)
        go true c =
            let access = access_of_directory (cut n path) (access_above path n is c (no_control one rooted plain stranger path n is free held)) in
            by access.0 access.1 (node_at one.tree (cut n path)) refl (node_at two.tree (cut n path)) refl

    -- the parent of an item is a directory
    parent_directory : (look : Look) (r : IsRooted look.owner look.tree) (node : Node) → node_at look.tree path ≡ Some node → option_map kind_of (node_at look.tree (cut n path)) ≡ Some Directory
    parent_directory look r node there =
        let d : HasDirectory look.tree (cut n path) = subst (λ o. MatchOption o (path.owner ≡ look.owner) (HasDirectory look.tree)) (parent_is path n is) (r.placed path node there) in
        ap (option_map kind_of) d.1 ∙ ap Some d.2

    parents_alike : (a : Option Node) → node_at one.tree path ≡ a → (b : Option Node) → node_at two.tree path ≡ b → is_none a ≡ is_none b → (a ≡ None → has_right (rights one path) right.Create ≡ true) → option_map kind_of (node_at one.tree (cut n path)) ≡ option_map kind_of (node_at two.tree (cut n path))
    parents_alike None p None q e held = parents_of_free (held refl) p q
    parents_alike None p (Some b) q e held = absurd (false≢true (sym e))
    parents_alike (Some a) p None q e held = absurd (false≢true e)
    parents_alike (Some a) p (Some b) q e held = parent_directory one rooted a p ∙ sym (parent_directory two rooted' b q)

  briefs : (a b : Option Node) → option_map (shown_node one) a ≡ option_map (shown_node two) b → option_map brief a ≡ option_map brief b
  briefs None None e = refl
  briefs None (Some m) e = absurd (some_none (shown two m.entry) (sym e))
  briefs (Some m) None e = absurd (some_none (shown one m.entry) e)
  briefs (Some m) (Some k) e =
      let same = some_same (shown one m.entry) (shown two k.entry) e in
      let kind : kind_of m ≡ kind_of k = same_kind one two alike m k same in
      let sequence : m.entry.sequence ≡ k.entry.sequence = sym (shown_sequence one m.entry) ∙ (ap (λ (x : Entry). x.sequence) same ∙ shown_sequence two k.entry) in
      ap (λ (x : Kind). Some (x, m.entry.sequence)) kind ∙ ap (λ (x : ℕ). Some (kind_of k, x)) sequence

  place_same : (put : Checked) → put.entry.name ≡ path → has_some one path ≡ true → (node_at one.tree path ≡ None → has_right (rights one path) right.Create ≡ true) → place_refusal (node_at one.tree path) one.tree put ≡ place_refusal (node_at two.tree path) two.tree put
  place_same put name some held =
      place_is (node_at one.tree path) one.tree put
      ∙ (ap (λ p. place_by (lacks_parent one.tree p) (is_in_file one.tree p) (option_map brief (node_at one.tree path)) put) name
      ∙ (go (length path.elements) refl
      ∙ (sym (ap (λ p. place_by (lacks_parent two.tree p) (is_in_file two.tree p) (option_map brief (node_at two.tree path)) put) name)
      ∙ sym (place_is (node_at two.tree path) two.tree put))))
    where
      found : option_map brief (node_at one.tree path) ≡ option_map brief (node_at two.tree path)
      found = briefs (node_at one.tree path) (node_at two.tree path) (same_entry one two alike path some)

      root : length path.elements ≡ 0 → parent_of path ≡ None
      root e = ap (λ l. if nat_lt 0 l then Some (cut (l - 1) path) else None) e

      none_lacks : (tree : Tree) → parent_of path ≡ None → (lacks_parent tree path ≡ false) × (is_in_file tree path ≡ false)
      none_lacks tree e = (ap (λ o. elim o as (λ _. Bool) [ None ↦ false | Some parent ↦ is_none (node_at tree parent) ]) e, ap (λ o. elim o as (λ _. Bool) [ None ↦ false | Some parent ↦ holds (node_at tree parent) (λ node. is_file (kind_of node)) ]) e)

      go : (l : ℕ) → length path.elements ≡ l → place_by (lacks_parent one.tree path) (is_in_file one.tree path) (option_map brief (node_at one.tree path)) put ≡ place_by (lacks_parent two.tree path) (is_in_file two.tree path) (option_map brief (node_at two.tree path)) put
      go zero e =
          let a = none_lacks one.tree (root e) in
          let b = none_lacks two.tree (root e) in
          ap (λ x. place_by x (is_in_file one.tree path) (option_map brief (node_at one.tree path)) put) (a.0 ∙ sym b.0)
          ∙ (ap (λ x. place_by (lacks_parent two.tree path) x (option_map brief (node_at one.tree path)) put) (a.1 ∙ sym b.1)
          ∙ ap (λ x. place_by (lacks_parent two.tree path) (is_in_file two.tree path) x put) found)
      go (suc n) e =
          let kinds = parents_alike n e (node_at one.tree path) refl (node_at two.tree path) refl (same_there one two (node_at one.tree path) (node_at two.tree path) (same_entry one two alike path some)) held in
          let dir = parent_is path n e in
          ap (λ x. place_by x (is_in_file one.tree path) (option_map brief (node_at one.tree path)) put) (lacks_by one.tree path (cut n path) dir ∙ (ap is_none kinds ∙ sym (lacks_by two.tree path (cut n path) dir)))
          ∙ (ap (λ x. place_by (lacks_parent two.tree path) x (option_map brief (node_at one.tree path)) put) (file_by one.tree path (cut n path) dir ∙ (ap in_file kinds ∙ sym (file_by two.tree path (cut n path) dir)))
          ∙ ap (λ x. place_by (lacks_parent two.tree path) (is_in_file two.tree path) x put) found)

-- ---- the whole of Put

hidden_check : (look : Look) (tested : List PathName) (path : PathName) (a b : Option Right) → has_some look path ≡ false → check look tested path a ≡ check look tested path b
unfolding check lacking
hidden_check look tested path a b none = go (first_link look.tree tested)
  where
    private : (needed : Option Right) → lacking (rights look path) needed ≡ Some reply.Private
    private None = ap (λ x. if x then None else Some reply.Private) none
    private (Some r) = ap (λ x. if not x then Some reply.Private else if not (has_right (rights look path) r) then Some (reply.Permission r) else None) none

    go : (o : Option Entry) → elim o as (λ _. Option Reply) [ Some link ↦ Some (at_link look link) | None ↦ lacking (rights look path) a ] ≡ elim o as (λ _. Option Reply) [ Some link ↦ Some (at_link look link) | None ↦ lacking (rights look path) b ]
    go (Some link) = refl
    go None = private a ∙ sym (private b)

right_same : (a b : Option Node) → is_none a ≡ is_none b → right_to_put a ≡ right_to_put b
right_same None None e = refl
right_same None (Some m) e = absurd (false≢true (sym e))
right_same (Some m) None e = absurd (false≢true e)
right_same (Some m) (Some k) e = refl

module _ (one two : Look) (alike : AreAlike one two) (rooted : IsRooted one.owner one.tree) (rooted' : IsRooted two.owner two.tree) (plain : owns_snapshots one.owner ≡ false) (plain' : owns_snapshots two.owner ≡ false) (stranger : one.user ≡ one.owner → ⊥) (stranger' : two.user ≡ two.owner → ⊥) (owners : one.owner ≡ two.owner) where
  check_put : (path : PathName) → check one (ways path) path (Some (right_to_put (node_at one.tree path))) ≡ check two (ways path) path (Some (right_to_put (node_at two.tree path)))
  check_put path = check_same one two alike rooted rooted' stranger stranger' (ways path) path (ways_are path) (Some (right_to_put (node_at one.tree path))) ∙ go (has_some one path) refl
    where
      go : (some : Bool) → has_some one path ≡ some → check two (ways path) path (Some (right_to_put (node_at one.tree path))) ≡ check two (ways path) path (Some (right_to_put (node_at two.tree path)))
      go true some = ap (λ r. check two (ways path) path (Some r)) (right_same (node_at one.tree path) (node_at two.tree path) (same_there one two (node_at one.tree path) (node_at two.tree path) (same_entry one two alike path some)))
      go false some = hidden_check two (ways path) path (Some (right_to_put (node_at one.tree path))) (Some (right_to_put (node_at two.tree path))) (sym (same_some one two alike path) ∙ some)

  -- Put answers alike
  pub put_same : (n : ℕ) (fetched : Fetched) (put : Checked) → put_outcome one n fetched put ≡ put_outcome two n fetched put
  unfolding put_outcome
  put_same n fetched put =
      let path : PathName = put.entry.name in
      bind_same (unless (check one (ways path) path (Some (right_to_put (node_at one.tree path))))) (unless (check two (ways path) path (Some (right_to_put (node_at two.tree path))))) _ _
      (ap unless (check_put path))
      (λ ok.
      let passes = unless_ok (check one (ways path) path (Some (right_to_put (node_at one.tree path)))) ok in
      let some = passed_some one (ways path) path (Some (right_to_put (node_at one.tree path))) passes in
      let held = passed_right one (ways path) path (right_to_put (node_at one.tree path)) passes in
      bind_same (place_refusal (node_at one.tree path) one.tree put) (place_refusal (node_at two.tree path) two.tree put) _ _
      (place_same one two alike rooted rooted' plain plain' stranger stranger' path put refl some (λ none. ap (λ o. has_right (rights one path) (right_to_put o)) (sym none) ∙ held))
      (λ placed. ap (λ owner. text_put owner fetched put.entry >>= λ text. std.Ok (rec.Put (record (put.entry) { sequence = n + 1 }) text)) owners))
