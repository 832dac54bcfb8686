-- Delete and Put in two trees in which a user sees the same at every path.
use Rattle.std.proofs.Common.{◌≡◌, ℕ, zero, suc, ◌-◌, ◌≤◌, Bool, true, false, not, List, [], length, refl, sym, ap, subst, ◌∙◌, arith, Option, Some, None}
use Rattle.std.specs.Prelude.{if◌then◌else◌, ⊤, T, MatchOption, Contains, nat_lt, Result, is_none, ◌==◌}
use Rattle.std.specs.Prelude as std
use Rattle.std.specs.Option.{option_map, option_and_then}
use Rattle.std.proofs.lemmas.Bool.{false≢true, false_from_ne_true}
use Rattle.std.specs.FinMap.Entries.{is_sorted}
use Rattle.std.specs.Map.{keys_of}
use Rattle.up_policy.proofs.PathLists.{no_member}
use Rattle.up_names.specs.PathNames.{PathName, cut, parent_of, control_of}
use Rattle.up_names.specs.PathOrder.{path_cmp, path_eq}
use Rattle.up_names.specs.declared.paths.Control.TheVariants as control
use Rattle.up_rights.specs.declared.Right.TheVariants as right
use Rattle.up_rights.specs.RightSets.{Rights}
use Rattle.up_entry.specs.declared.entries.Kind.{Kind}
use Rattle.up_entry.specs.declared.entries.Kind.TheVariants.{File, Directory, Link}
use Rattle.up_entry.specs.declared.records.Rec.TheVariants as rec
use Rattle.up_entry.specs.ControlFiles.{is_control_file, is_ordinary}
use Rattle.up_wire.specs.declared.replies.Reply.{Reply}
use Rattle.up_wire.specs.declared.replies.Reply.TheVariants as reply
use Rattle.up_wire.specs.declared.replies.Done.TheVariants as done
use Rattle.up_log_tree.specs.declared.node.Node.{Node}
use Rattle.up_log_tree.specs.Trees.{Tree, node_at, kind_of, is_file, is_parent, made_of, children}
use Rattle.up_entry.specs.Rules.{is_directory}
use Rattle.up_list.specs.Looks.{Look, rights, has_some, shown}
use Rattle.up_answers.specs.Views.{View, where_held, control_text, shown_node}
use Rattle.up_log_tree.specs.Fits.{HasDirectory}
use Rattle.up_list.specs.Checks.{ways, ways_before, check}
use Rattle.up_list.specs.Reads.{file_text, text_reply}
use Rattle.up_list.specs.Changes.{◌>>=◌, unless, refuse}
use Rattle.up_answers.specs.Deletes.{delete_outcome}
use Rattle.up_log_tree.proofs.Trees.{children_made, made_same}
use Rattle.up_log_tree.proofs.Rooted.{IsRooted}
use Rattle.up_log_tree.proofs.Paths.{path_same, some_none, some_same, parent_is, cut_cut, length_cut}
use Rattle.up_answers.proofs.AlikeLemmas.{AreAlike, same_sight, same_rights, same_entry, AreWays, ways_are, check_same, passed_some, passed_right, same_kind}

-- ---- GroupText

abbrev pub said_text : Option (List ℕ) → Reply
said_text found = elim found [ None ↦ reply.NotExist | Some text ↦ reply.Ok (done.Text text) ]

text_by_kind : (kind : Kind) (path : PathName) (text : List ℕ) → control_of path ≡ control.Group → text_reply (if is_file kind then Some text else None) ≡ said_text (if is_control_file kind path then Some text else None)
text_by_kind File path text group = sym (ap (λ c. said_text (if not (is_ordinary c) then Some text else None)) group)
text_by_kind Directory path text group = refl
text_by_kind Link path text group = refl

-- the text that is given is the control text at the path
pub text_is_seen : (path : PathName) (found : Option Node) → control_of path ≡ control.Group → text_reply (file_text found) ≡ said_text (option_and_then (control_text path) found)
text_is_seen path None group = refl
text_is_seen path (Some node) group = text_by_kind (kind_of node) path node.text group

pub held_alike : {Y : Type 0} (held : Bool) (f g : Node → Option Y) (a b : Option Node) → held ≡ true → where_held held f a ≡ where_held held g b → option_and_then f a ≡ option_and_then g b
held_alike true f g a b is h = h
held_alike false f g a b is h = absurd (false≢true is)

-- ---- children

-- only a directory has children
pub no_children : (owner : List ℕ) (tree : Tree) (sorted : T (is_sorted path_cmp tree)) (rooted : IsRooted owner tree) (path : PathName) → (HasDirectory tree path → ⊥) → children tree path ≡ []
unfolding made_of is_parent
no_children owner tree sorted rooted path none =
    children_made tree path ∙ ap (λ es. keys_of es) (made_same {Y = ⊤} (λ p n. if is_parent path p then Some tt else None) (λ p n. None) tree [] sorted tt (λ q. each q (node_at tree q) refl))
  where
    absent : (o : Option Node) → option_and_then {U = ⊤} (λ (n : Node). None) o ≡ None
    absent None = refl
    absent (Some n) = refl

    not_parent : (q : PathName) (o : Option PathName) → parent_of q ≡ o → MatchOption o (q.owner ≡ owner) (HasDirectory tree) → is_parent path q ≡ false
    not_parent q None is h = ap (λ o. elim o as (λ _. Bool) [ None ↦ false | Some parent ↦ path_eq parent path ]) is
    not_parent q (Some dir) is h =
        ap (λ o. elim o as (λ _. Bool) [ None ↦ false | Some parent ↦ path_eq parent path ]) is
        ∙ false_from_ne_true (path_eq dir path) (λ same. none (subst (HasDirectory tree) (path_same dir path same) h))

    each : (q : PathName) (found : Option Node) → node_at tree q ≡ found → option_and_then {U = ⊤} (λ n. if is_parent path q then Some tt else None) (node_at tree q) ≡ option_and_then {U = ⊤} (λ (n : Node). None) (node_at [] q)
    each q None is = ap (option_and_then _) is ∙ sym (absent (node_at [] q))
    each q (Some node) is = ap (option_and_then _) is ∙ (ap (λ b. if b then Some tt else None) (not_parent q (parent_of q) refl (rooted.placed q node is)) ∙ sym (absent (node_at [] q)))

-- ---- the two trees

pub bind_same : {B : Type 0} (a b : Result ⊤ Reply) (f g : Result B Reply) → a ≡ b → (a ≡ std.Ok tt → f ≡ g) → (a >>= λ ok. f) ≡ (b >>= λ ok. g)
bind_same {B = B} a b f g same rest = go a refl ∙ ap (λ (r : Result ⊤ Reply). r >>= λ ok. g) same
  where
    go : (r : Result ⊤ Reply) → a ≡ r → (a >>= λ ok. f) ≡ (a >>= λ ok. g)
    go (std.Ok u) is = ap (λ (r : Result ⊤ Reply). r >>= λ ok. f) is ∙ (rest is ∙ sym (ap (λ (r : Result ⊤ Reply). r >>= λ ok. g) is))
    go (std.Err e) is = ap (λ (r : Result ⊤ Reply). r >>= λ ok. f) is ∙ sym (ap (λ (r : Result ⊤ Reply). r >>= λ ok. g) is)

pub unless_ok : (o : Option Reply) → unless o ≡ std.Ok tt → o ≡ None
unless_ok None h = refl
unless_ok (Some r) h = absurd (cc)

pub same_there : (one two : Look) (a b : Option Node) → option_map (shown_node one) a ≡ option_map (shown_node two) b → is_none a ≡ is_none b
same_there one two None None h = refl
same_there one two None (Some n) h = absurd (some_none (shown two n.entry) (sym h))
same_there one two (Some n) None h = absurd (some_none (shown one n.entry) h)
same_there one two (Some n) (Some m) h = refl

module _ (one two : Look) (alike : AreAlike one two) (rooted : IsRooted one.owner one.tree) (rooted' : IsRooted two.owner two.tree) (sorted : T (is_sorted path_cmp one.tree)) (sorted' : T (is_sorted path_cmp two.tree)) where
  -- who holds delete on an item has the names of its children, of which only a directory has any
  names_same : (path : PathName) → has_some one path ≡ true → (rights one path).delete ≡ true → is_none (node_at one.tree path) ≡ false → children one.tree path ≡ children two.tree path
  names_same path some held is = go (node_at one.tree path) refl (node_at two.tree path) refl
    where
      names : where_held (rights one path).delete (λ node. if is_directory (kind_of node) then Some (children one.tree path) else None) (node_at one.tree path) ≡ where_held (rights two path).delete (λ node. if is_directory (kind_of node) then Some (children two.tree path) else None) (node_at two.tree path)
      names = ap (λ (v : View). v.names) (same_sight one two alike path some)

      same : option_and_then (λ (node : Node). if is_directory (kind_of node) then Some (children one.tree path) else None) (node_at one.tree path) ≡ option_and_then (λ (node : Node). if is_directory (kind_of node) then Some (children two.tree path) else None) (node_at two.tree path)
      same = held_alike (rights one path).delete _ _ (node_at one.tree path) (node_at two.tree path) held
          (names ∙ ap (λ b. where_held b (λ node. if is_directory (kind_of node) then Some (children two.tree path) else None) (node_at two.tree path)) (sym (ap (λ (r : Rights). r.delete) (same_rights one two alike path))))

      kinds : (k : Kind) (n m : Node) → node_at one.tree path ≡ Some n → node_at two.tree path ≡ Some m → kind_of n ≡ k → kind_of m ≡ k →
          (if is_directory k then Some (children one.tree path) else None) ≡ (if is_directory k then Some (children two.tree path) else None) → children one.tree path ≡ children two.tree path
      kinds Directory n m p q k l h = some_same (children one.tree path) (children two.tree path) h
      kinds File n m p q k l h =
          no_children one.owner one.tree sorted rooted path (λ d. let e : File ≡ Directory = sym k ∙ (ap kind_of (some_same n d.0 (sym p ∙ d.1)) ∙ d.2) in absurd (cc))
          ∙ sym (no_children two.owner two.tree sorted' rooted' path (λ d. let e : File ≡ Directory = sym l ∙ (ap kind_of (some_same m d.0 (sym q ∙ d.1)) ∙ d.2) in absurd (cc)))
      kinds Link n m p q k l h =
          no_children one.owner one.tree sorted rooted path (λ d. let e : Link ≡ Directory = sym k ∙ (ap kind_of (some_same n d.0 (sym p ∙ d.1)) ∙ d.2) in absurd (cc))
          ∙ sym (no_children two.owner two.tree sorted' rooted' path (λ d. let e : Link ≡ Directory = sym l ∙ (ap kind_of (some_same m d.0 (sym q ∙ d.1)) ∙ d.2) in absurd (cc)))

      go : (a : Option Node) → node_at one.tree path ≡ a → (b : Option Node) → node_at two.tree path ≡ b → children one.tree path ≡ children two.tree path
      go None p b q = absurd (false≢true (sym is ∙ ap is_none p))
      go (Some n) p None q = absurd (some_none (shown one n.entry) (sym (ap (option_map (shown_node one)) p) ∙ (same_entry one two alike path some ∙ ap (option_map (shown_node two)) q)))
      go (Some n) p (Some m) q =
          let shown_alike : shown one n.entry ≡ shown two m.entry = some_same (shown one n.entry) (shown two m.entry) (sym (ap (option_map (shown_node one)) p) ∙ (same_entry one two alike path some ∙ ap (option_map (shown_node two)) q)) in
          let kind : kind_of n ≡ kind_of m = same_kind one two alike n m shown_alike in
          kinds (kind_of n) n m p q refl (sym kind)
          (sym (ap (option_and_then (λ (node : Node). if is_directory (kind_of node) then Some (children one.tree path) else None)) p) ∙ (same ∙ (ap (option_and_then (λ (node : Node). if is_directory (kind_of node) then Some (children two.tree path) else None)) q ∙ ap (λ k. if is_directory k then Some (children two.tree path) else None) (sym kind))))

  module _ (stranger : one.user ≡ one.owner → ⊥) (stranger' : two.user ≡ two.owner → ⊥) where
    ways_before_are : (path : PathName) → AreWays (ways_before path) path
    unfolding ways_before
    ways_before_are path = go (parent_of path) refl
      where
        go : (o : Option PathName) → parent_of path ≡ o → AreWays (elim o as (λ _. List PathName) [ None ↦ [] | Some parent ↦ ways parent ]) path
        go None is = record { each = λ q h. absurd (no_member q h) }
        go (Some dir) is = record { each = λ q h. up (length path.elements) refl dir is q h }
          where
            up : (l : ℕ) → length path.elements ≡ l → (dir : PathName) → parent_of path ≡ Some dir → (q : PathName) → Contains (ways dir) q → (m : ℕ) × (m ≤ length path.elements) × (q ≡ cut m path)
            up zero l dir is q h = absurd (some_none dir (sym is ∙ ap (λ n. if nat_lt 0 n then Some (cut (n - 1) path) else None) l))
            up (suc n) l dir is q h =
                let same : dir ≡ cut n path = some_same dir (cut n path) (sym is ∙ parent_is path n l) in
                let found = (ways_are dir).each q h in
                let size : length dir.elements ≡ n = ap (λ (p : PathName). length p.elements) same ∙ length_cut n path (omega arith) in
                let low : found.0 ≤ n = omega (arith, found.1) in
                (found.0, (omega arith), found.2 ∙ (ap (cut found.0) same ∙ cut_cut found.0 n path low))

    -- Delete answers alike
    pub delete_same : (path : PathName) → delete_outcome one path ≡ delete_outcome two path
    unfolding delete_outcome
    delete_same path =
        bind_same (unless (check one (ways_before path) path (Some right.Delete))) (unless (check two (ways_before path) path (Some right.Delete))) _ _
        (ap unless (check_same one two alike rooted rooted' stranger stranger' (ways_before path) path (ways_before_are path) (Some right.Delete)))
        (λ ok.
        let passes = unless_ok (check one (ways_before path) path (Some right.Delete)) ok in
        let some = passed_some one (ways_before path) path (Some right.Delete) passes in
        let held = passed_right one (ways_before path) path right.Delete passes in
        bind_same (refuse (is_none (node_at one.tree path)) reply.NotExist) (refuse (is_none (node_at two.tree path)) reply.NotExist) _ _
        (ap (λ b. refuse b reply.NotExist) (same_there one two (node_at one.tree path) (node_at two.tree path) (same_entry one two alike path some)))
        (λ there. ap (λ names. refuse (not (length names == 0)) reply.NotEmpty >>= λ empty. std.Ok (rec.Delete path)) (names_same path some held (not_none (is_none (node_at one.tree path)) there))))
      where
        not_none : (b : Bool) → refuse b reply.NotExist ≡ std.Ok tt → b ≡ false
        not_none true h = absurd (cc)
        not_none false h = refl
