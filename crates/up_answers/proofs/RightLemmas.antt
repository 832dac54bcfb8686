-- Rights below a link.
use Rattle.std.proofs.Common.{◌≡◌, ℕ, zero, suc, ◌+◌, ◌<◌, ◌≤◌, Bool, true, false, not, ◌&&◌, List, [], ◌∷◌, length, take, refl, sym, ap, subst, ◌∙◌, ◌⊎◌, inl, inr, arith, Option, Some, None}
use Rattle.std.specs.Prelude.{if◌then◌else◌, codes}
use Rattle.std.specs.Option.{option_map, option_or}
use Rattle.std.specs.Str.{bytes_eq}
use Rattle.std.proofs.lemmas.List.{take-take, take-append-le, length-take-le, length_push}
use Rattle.std.proofs.lemmas.Bool.{false≢true, false_from_ne_true}
use Rattle.std.proofs.lemmas.Slice.Eq.{bytes_eq-Decides}
use Rattle.up_names.specs.PathNames.{PathName, cut, extended, control_of}
use Rattle.up_names.specs.declared.paths.Control.{Control}
use Rattle.up_names.specs.declared.paths.Control.TheVariants as control
use Rattle.up_names.specs.UserNames.{base_of}
use Rattle.up_rights.specs.declared.Right.{Right}
use Rattle.up_rights.specs.declared.Right.TheVariants.{Read, Write, List as ListRight, Create, Delete}
use Rattle.up_rights.specs.RightSets.{Rights, has_right, has_any, no_rights}
use Rattle.up_access.specs.declared.Rule.{Rule}
use Rattle.up_entry.specs.declared.entries.Entry.{Entry}
use Rattle.up_entry.specs.declared.entries.Kind.TheVariants.{Link}
use Rattle.up_entry.specs.Rules.{control_fits}
use Rattle.up_policy.specs.Trees.{TreeFacts, owns_snapshots}
use Rattle.up_policy.specs.Governors.{first_text, prefixes_to, prefixes, governor}
use Rattle.up_policy.specs.Verdicts.{only_looks, is_control, without_text, text_decides, right_test, rights_held}
use Rattle.up_log_tree.specs.declared.node.Node.{Node}
use Rattle.up_log_tree.specs.Trees.{Tree, node_at}
use Rattle.up_list.specs.Checks.{link_at}
use Rattle.up_list.specs.Looks.{Look, rights, has_some}
use Rattle.up_log_tree.specs.Rights.{access_node, facts_of, group_paths}
use Rattle.up_log_tree.proofs.Rooted.{IsRooted}
use Rattle.up_log_tree.proofs.Paths.{cut_cut, length_cut}
use Rattle.up_answers.proofs.LinkedLemmas.{is_link_there, nothing_below}

-- ---- sets of rights

any_of : (r w l c d : Bool) → (right : Right) → has_right (record { read = r; write = w; list = l; create = c; delete = d }) right ≡ true → has_any (record { read = r; write = w; list = l; create = c; delete = d }) ≡ true
any_of true w l c d right h = refl
any_of false true l c d right h = refl
any_of false false true c d right h = refl
any_of false false false true d right h = refl
any_of false false false false true right h = refl
any_of false false false false false Read h = h
any_of false false false false false Write h = h
any_of false false false false false ListRight h = h
any_of false false false false false Create h = h
any_of false false false false false Delete h = h

-- a right in a set is any
pub any_from : (set : Rights) (right : Right) → has_right set right ≡ true → has_any set ≡ true
any_from set right h = any_of set.read set.write set.list set.create set.delete right h

some_of : (r w l c d : Bool) → has_any (record { read = r; write = w; list = l; create = c; delete = d }) ≡ true → (right : Right) × (has_right (record { read = r; write = w; list = l; create = c; delete = d }) right ≡ true)
some_of true w l c d h = (Read, refl)
some_of false true l c d h = (Write, refl)
some_of false false true c d h = (ListRight, refl)
some_of false false false true d h = (Create, refl)
some_of false false false false true h = (Delete, refl)
some_of false false false false false h = absurd (false≢true h)

pub from_any : (set : Rights) → has_any set ≡ true → (right : Right) × (has_right set right ≡ true)
from_any set h = some_of set.read set.write set.list set.create set.delete h

none_of : (r w l c d : Bool) → has_any (record { read = r; write = w; list = l; create = c; delete = d }) ≡ false → ◌≡◌ {A = Rights} (record { read = r; write = w; list = l; create = c; delete = d }) no_rights
none_of true w l c d h = absurd (false≢true (sym h))
none_of false true l c d h = absurd (false≢true (sym h))
none_of false false true c d h = absurd (false≢true (sym h))
none_of false false false true d h = absurd (false≢true (sym h))
none_of false false false false true h = absurd (false≢true (sym h))
none_of false false false false false h = refl

-- a set without any right is the empty one
pub none_from : (set : Rights) → has_any set ≡ false → set ≡ no_rights
none_from set h = none_of set.read set.write set.list set.create set.delete h

-- ---- governors

module _ (access : PathName → Option (List Rule)) where
  passed : (n m : ℕ) (path : PathName) → m ≤ n → ((k : ℕ) → m < k → k ≤ n → access (cut k path) ≡ None) → first_text access (prefixes_to n path) ≡ first_text access (prefixes_to m path)
  passed zero m path h none = ap (λ k. first_text access (prefixes_to k path)) (let e : 0 ≡ m = omega arith in e)
  passed (suc n) m path h none = elim (cases m (suc n) h) [
    | inl same ↦ ap (λ k. first_text access (prefixes_to k path)) (sym same)
    | inr less ↦ ap (λ o. option_or o (first_text access (prefixes_to n path))) (none (suc n) (omega arith) (omega arith)) ∙ passed n m path (omega arith) (λ k a b. none k a (omega arith))
  ]
    where
      cases : (a b : ℕ) → a ≤ b → (a ≡ b) ⊎ (a < b)
      cases a b h = grind arith

  shortened : (m n : ℕ) (path : PathName) → m ≤ n → first_text access (prefixes_to m (cut n path)) ≡ first_text access (prefixes_to m path)
  shortened zero n path h = ap (λ p. option_or (access p) None) (cut_cut 0 n path h)
  shortened (suc m) n path h = ap (λ p. option_or (access p) (first_text access (prefixes_to m (cut n path)))) (cut_cut (suc m) n path h) ∙ ap (option_or (access (cut (suc m) path))) (shortened m n path (omega arith))

  -- where no longer prefix has a text, the governor is that of the shorter one
  pub governed_above : (m : ℕ) (path : PathName) → m ≤ length path.elements → ((k : ℕ) → m < k → k ≤ length path.elements → access (cut k path) ≡ None) →
      first_text access (prefixes path) ≡ first_text access (prefixes (cut m path))
  governed_above m path h none =
      passed (length path.elements) m path h none
      ∙ (sym (shortened m m path (omega arith))
      ∙ ap (λ k. first_text access (prefixes_to k (cut m path))) (sym (length_cut m path h)))

-- ---- below a link

module _ (owner : List ℕ) (tree : Tree) (rooted : IsRooted owner tree) (path : PathName) (m : ℕ) (entry : Entry) (link : link_at tree (cut m path) ≡ Some entry) where
  -- no Access file stands below a link
  pub no_access : (k : ℕ) → m ≤ k → k ≤ length path.elements → access_node tree (cut k path) ≡ None
  no_access k low high = go (node_at tree (extended (cut k path) (codes "Access"))) refl
    where
      below : PathName
      below = extended (cut k path) (codes "Access")

      same : cut m (extended (cut k path) (codes "Access")) ≡ cut m path
      same = ap (λ elements. record { owner = path.owner; elements = elements })
          (take-append-le m (take k path.elements) (codes "Access" ∷ []) (let e : m ≤ length (take k path.elements) = subst (λ n. m ≤ n) (sym (length-take-le k path.elements high)) low in e) ∙ take-take m k path.elements low)

      longer : length (extended (cut k path) (codes "Access")).elements ≡ k + 1
      longer = length_push (take k path.elements) (codes "Access") ∙ ap (λ n. n + 1) (length-take-le k path.elements high)

      go : (found : Option Node) → node_at tree (extended (cut k path) (codes "Access")) ≡ found → found ≡ None
      go None is = refl
      go (Some node) is =
          absurd (nothing_below owner tree rooted (extended (cut k path) (codes "Access")) entry m node (ap (link_at tree) same ∙ link) (subst (λ n. m < n) (sym longer) (omega arith)) is)

-- a link stands at an ordinary path
link_ordinary : (c : Control) → control_fits Link c ≡ true → elim c as (λ _. Bool) [ control.Ordinary ↦ false | control.Access ↦ true | control.Group ↦ true ] ≡ false
link_ordinary control.Ordinary h = refl
link_ordinary control.Access h = absurd (false≢true h)
link_ordinary control.Group h = absurd (false≢true h)

-- what decides a right, by what is known of the path
abbrev pub decided : (snapshots base own changes owns text : Bool) → Bool
decided snapshots base own changes owns text =
    elim (if snapshots then Some base else if own then Some true else if changes then Some owns else None) [ Some answer ↦ answer | None ↦ text ]

decided_above : (snapshots base own changes owns text above : Bool) → owns ≡ false → above ≡ false → decided snapshots base own changes owns text ≡ true → decided snapshots base own above owns text ≡ true
decided_above true base own changes owns text above o a h = h
decided_above false base true changes owns text above o a h = refl
decided_above false base false true owns text above o a h = absurd (false≢true (sym o ∙ h))
decided_above false base false false owns text false o a h = h
decided_above false base false false owns text true o a h = absurd (false≢true (sym a))

-- a right on a path is one on a path with the same governor that is no control path
pub test_above : (facts : TreeFacts) (listed : List PathName) (loaded : List (PathName × _)) (user : List ℕ) (right : Right) (path above : PathName) →
    bytes_eq user facts.owner ≡ false → is_control above ≡ false → governor facts path ≡ governor facts above →
    right_test facts listed loaded user right path ≡ true → right_test facts listed loaded user right above ≡ true
unfolding right_test without_text
test_above facts listed loaded user right path above stranger ordinary same h =
    decided_above (owns_snapshots facts.owner) (only_looks right && bytes_eq user (base_of facts.owner)) (bytes_eq user facts.owner && only_looks right)
    (is_control path && not (only_looks right)) (bytes_eq user facts.owner) (text_decides facts listed loaded user right (governor facts above)) (is_control above && not (only_looks right))
    stranger (ap (λ b. b && not (only_looks right)) ordinary)
    (subst (λ text. decided (owns_snapshots facts.owner) (only_looks right && bytes_eq user (base_of facts.owner)) (bytes_eq user facts.owner && only_looks right) (is_control path && not (only_looks right)) (bytes_eq user facts.owner) (text_decides facts listed loaded user right text) ≡ true) same h)

pub held_is : (facts : TreeFacts) (listed : List PathName) (loaded : List (PathName × _)) (user : List ℕ) (path : PathName) (right : Right) → has_right (rights_held facts listed loaded user path) right ≡ right_test facts listed loaded user right path
unfolding rights_held
held_is facts listed loaded user path Read = refl
held_is facts listed loaded user path Write = refl
held_is facts listed loaded user path ListRight = refl
held_is facts listed loaded user path Create = refl
held_is facts listed loaded user path Delete = refl

pub stranger_test : (a b : List ℕ) → (a ≡ b → ⊥) → bytes_eq a b ≡ false
stranger_test a b h = false_from_ne_true (bytes_eq a b) (λ same. h ((bytes_eq-Decides a b).0 same))

module _ (look : Look) (rooted : IsRooted look.owner look.tree) (stranger : look.user ≡ look.owner → ⊥) (path : PathName) (m : ℕ) (entry : Entry) (short : m ≤ length path.elements) (link : link_at look.tree (cut m path) ≡ Some entry) where
  -- a path below a link has the link's governor
  pub link_governs : governor (facts_of look.owner look.tree) path ≡ governor (facts_of look.owner look.tree) (cut m path)
  unfolding governor facts_of
  link_governs =
      ap (λ o. if owns_snapshots look.owner then None else o)
      (governed_above (facts_of look.owner look.tree).access m path short (λ k low high. ap (option_map _) (no_access look.owner look.tree rooted path m entry link k (omega arith) high)))

  is_ordinary_link : is_control (cut m path) ≡ false
  is_ordinary_link =
      let found = is_link_there look.owner look.tree rooted (cut m path) entry link in
      link_ordinary (control_of (cut m path)) (ap (λ kind. control_fits kind (control_of (cut m path))) (sym found.2) ∙ rooted.control (cut m path) found.0 found.1)

  some_above : has_some look path ≡ true → has_some look (cut m path) ≡ true
  unfolding rights facts_of
  some_above h =
      let facts = facts_of look.owner look.tree in
      let listed = group_paths look.tree in
      let held = from_any (rights look path) h in
      let test = test_above facts listed look.loaded look.user held.0 path (cut m path) (stranger_test look.user look.owner stranger) is_ordinary_link link_governs (sym (held_is facts listed look.loaded look.user path held.0) ∙ held.1) in
      any_from (rights look (cut m path)) held.0 (held_is facts listed look.loaded look.user (cut m path) held.0 ∙ test)

  -- who has no right on a link has none below it
  pub none_below : has_some look (cut m path) ≡ false → has_some look path ≡ false
  none_below none = false_from_ne_true (has_some look path) (λ h. false≢true (sym none ∙ some_above h))
