-- The first link on the way to a path is the last item on the way, where that is a link: all items above another are directories.
use Rattle.std.proofs.Common.{◌≡◌, ℕ, zero, suc, ◌-◌, ◌≤◌, Bool, true, false, List, [], ◌∷◌, ◌++◌, length, take, refl, sym, ap, subst, ◌∙◌, arith, Option, Some, None}
use Rattle.std.specs.Prelude.{if◌then◌else◌, find, is_some, nat_lt, MatchOption}
use Rattle.std.proofs.lemmas.Bool.{lt-ltb}
use Rattle.std.specs.Option.{option_map, option_and_then, option_or}
use Rattle.up_names.specs.PathNames.{PathName, cut, parent_of}
use Rattle.up_entry.specs.declared.entries.Entry.{Entry}
use Rattle.up_policy.specs.Governors.{prefixes_to}
use Rattle.up_log_tree.specs.declared.node.Node.{Node}
use Rattle.up_log_tree.specs.Trees.{Tree, node_at, is_link, standing_prefix}
use Rattle.up_log_tree.specs.Fits.{HasPlace, HasDirectory}
use Rattle.up_list.specs.Entries.{entry_of, entry_at, entry_on_way, if_link}
use Rattle.up_list.specs.Rooted.{IsRooted}
use Rattle.up_list.specs.Checks.{first_link, link_at, tested, ways, ways_to, ways_before}

some_none : {X : Type 0} (x : X) → Some x ≡ None → ⊥
some_none x h = absurd (cc)

some_same : {X : Type 0} (x y : X) → Some x ≡ Some y → x ≡ y
some_same x y h = cc

or_none : {X : Type 0} (a : Option X) → option_or a None ≡ a
or_none None = refl
or_none (Some x) = refl

or_again : {X : Type 0} (a b c : Option X) → option_or (option_or a b) c ≡ option_or a (option_or b c)
or_again None b c = refl
or_again (Some x) b c = refl

first_behind : (tree : Tree) (paths : List PathName) (path : PathName) → first_link tree (paths ++ path ∷ []) ≡ option_or (first_link tree paths) (link_at tree path)
first_behind tree [] path = or_none (link_at tree path)
first_behind tree (p ∷ paths) path = ap (option_or (link_at tree p)) (first_behind tree paths path) ∙ sym (or_again (link_at tree p) (first_link tree paths) (link_at tree path))

-- ---- a shorter path has the first elements of a longer one

take_take : {X : Type 0} (n m : ℕ) (xs : List X) → n ≤ m → take n (take m xs) ≡ take n xs
take_take zero m xs h = refl
take_take (suc n) zero xs h = absurd (let z : ⊥ = omega arith in z)
take_take (suc n) (suc m) [] h = refl
take_take (suc n) (suc m) (x ∷ xs) h = ap (λ ys. x ∷ ys) (take_take n m xs (omega arith))

length_take : {X : Type 0} (n : ℕ) (xs : List X) → n ≤ length xs → length (take n xs) ≡ n
length_take zero xs h = refl
length_take (suc n) [] h = absurd (let z : ⊥ = omega arith in z)
length_take (suc n) (x ∷ xs) h = ap suc (length_take n xs (omega arith))

pub cut_cut : (n m : ℕ) (path : PathName) → n ≤ m → cut n (cut m path) ≡ cut n path
cut_cut n m path h = ap (λ elements. record { owner = path.owner; elements = elements }) (take_take n m path.elements h)

parent_if : (b : Bool) (path q : PathName) → b ≡ true → (if b then Some q else None) ≡ Some q
parent_if true path q h = refl
parent_if false path q h = absurd (cc)

-- the parent of the first n + 1 elements are the first n
pub parent_of_cut : (n : ℕ) (path : PathName) → suc n ≤ length path.elements → parent_of (cut (suc n) path) ≡ Some (cut n path)
parent_of_cut n path h =
    let size : length (take (suc n) path.elements) ≡ suc n = length_take (suc n) path.elements h in
    let some : nat_lt 0 (length (take (suc n) path.elements)) ≡ true = lt-ltb 0 (length (take (suc n) path.elements)) (omega arith) in
    parent_if (nat_lt 0 (length (take (suc n) path.elements))) path (cut (length (take (suc n) path.elements) - 1) (cut (suc n) path)) some
    ∙ ap Some (ap (λ k. cut (k - 1) (cut (suc n) path)) size ∙ (ap (λ k. cut k (cut (suc n) path)) (let e : suc n - 1 ≡ n = omega arith in e) ∙ cut_cut n (suc n) path (omega arith)))

-- ---- what stands at the prefixes

module _ (owner : List ℕ) (tree : Tree) (rooted : IsRooted owner tree) (path : PathName) where
  -- above an item stands a directory
  pub above : (n : ℕ) (node : Node) → suc n ≤ length path.elements → node_at tree (cut (suc n) path) ≡ Some node → HasDirectory tree (cut n path)
  above n node h there =
      let place : HasPlace owner tree (cut (suc n) path) = rooted.placed (cut (suc n) path) node there in
      go (parent_of (cut (suc n) path)) (parent_of_cut n path h) place
    where
      go : (o : Option PathName) → o ≡ Some (cut n path) → MatchOption o (path.owner ≡ owner) (HasDirectory tree) → HasDirectory tree (cut n path)
      go None h place = absurd (some_none (cut n path) (sym h))
      go (Some parent) h place = subst (HasDirectory tree) (some_same parent (cut n path) h) place

  -- the entry at the longest of the prefixes with at most n elements at which something stands
  abbrev standing : ℕ → Option Entry
  standing n = option_and_then (entry_at tree) (find (λ prefix. is_some (node_at tree prefix)) (prefixes_to n path))

  found_here : (n : ℕ) (o : Option Node) → node_at tree (cut n path) ≡ o → (rest : Option PathName) →
      option_and_then (entry_at tree) (if is_some (node_at tree (cut n path)) then Some (cut n path) else rest) ≡ option_or (entry_at tree (cut n path)) (option_and_then (entry_at tree) rest)
  found_here n None e rest = ap (λ o. option_and_then (entry_at tree) (if is_some o then Some (cut n path) else rest)) e ∙ sym (ap (λ o. option_or (option_map entry_of o) (option_and_then (entry_at tree) rest)) e)
  found_here n (Some node) e rest =
      ap (λ o. option_and_then (entry_at tree) (if is_some o then Some (cut n path) else rest)) e
      ∙ (ap (option_map entry_of) e ∙ sym (ap (λ o. option_or (option_map entry_of o) (option_and_then (entry_at tree) rest)) e))

  -- no link where the longest is a directory
  no_link : (n : ℕ) → HasDirectory tree (cut n path) → (rest : Option PathName) →
      option_and_then if_link (option_and_then (entry_at tree) (if is_some (node_at tree (cut n path)) then Some (cut n path) else rest)) ≡ None
  no_link n dir rest =
      ap (option_and_then if_link) (found_here n (Some dir.0) dir.1 rest)
      ∙ (ap (λ o. option_and_then if_link (option_or (option_map entry_of o) (option_and_then (entry_at tree) rest))) dir.1
      ∙ ap (λ kind. if is_link kind then Some dir.0.entry else None) dir.2)

  no_link_to : (n : ℕ) → HasDirectory tree (cut n path) → option_and_then if_link (standing n) ≡ None
  no_link_to zero dir = no_link 0 dir None
  no_link_to (suc n) dir = no_link (suc n) dir (find (λ prefix. is_some (node_at tree prefix)) (prefixes_to n path))

  links_to : (n : ℕ) → n ≤ length path.elements → first_link tree (ways_to n path) ≡ option_and_then if_link (standing n)
  links_to zero h = or_none (link_at tree (cut 0 path)) ∙ sym (ap (option_and_then if_link) (found_here 0 (node_at tree (cut 0 path)) refl None ∙ or_none (entry_at tree (cut 0 path))))
  links_to (suc n) h =
      first_behind tree (ways_to n path) (cut (suc n) path)
      ∙ (ap (λ o. option_or o (link_at tree (cut (suc n) path))) (links_to n (omega arith))
      ∙ (go (node_at tree (cut (suc n) path)) refl
      ∙ sym (ap (option_and_then if_link) (found_here (suc n) (node_at tree (cut (suc n) path)) refl (find (λ prefix. is_some (node_at tree prefix)) (prefixes_to n path))))))
    where
      below : (o : Option Entry) → option_and_then if_link (standing n) ≡ None → option_or (option_and_then if_link (standing n)) (option_and_then if_link o) ≡ option_and_then if_link o
      below o h = ap (λ l. option_or l (option_and_then if_link o)) h

      go : (o : Option Node) → node_at tree (cut (suc n) path) ≡ o →
          option_or (option_and_then if_link (standing n)) (link_at tree (cut (suc n) path)) ≡ option_and_then if_link (option_or (entry_at tree (cut (suc n) path)) (standing n))
      go None e =
          ap (λ o. option_or (option_and_then if_link (standing n)) (option_and_then if_link (option_map entry_of o))) e
          ∙ (or_none (option_and_then if_link (standing n))
          ∙ sym (ap (λ o. option_and_then if_link (option_or (option_map entry_of o) (standing n))) e))
      go (Some node) e =
          let dir : HasDirectory tree (cut n path) = above n node h e in
          let none : option_and_then if_link (standing n) ≡ None = no_link_to n dir in
          ap (λ o. option_or (option_and_then if_link (standing n)) (option_and_then if_link (option_map entry_of o))) e
          ∙ (below (Some node.entry) none
          ∙ sym (ap (λ o. option_and_then if_link (option_or (option_map entry_of o) (standing n))) e))

pub first_link_on_way : (owner : List ℕ) (tree : Tree) (path : PathName) → IsRooted owner tree → first_link tree (ways path) ≡ option_and_then if_link (entry_on_way tree path)
unfolding ways standing_prefix
first_link_on_way owner tree path rooted = links_to owner tree rooted path (length path.elements) (omega arith)

-- ---- a link that is met has the owner's name

module _ (owner : List ℕ) (tree : Tree) (rooted : IsRooted owner tree) where
  link_name : (path : PathName) (link : Entry) → link_at tree path ≡ Some link → link.name ≡ path
  link_name path link h = at (node_at tree path) refl h
    where
      kept : (b : Bool) (node : Node) → (if b then Some node.entry else None) ≡ Some link → node.entry ≡ link
      kept true node e = some_same node.entry link e
      kept false node e = absurd (some_none link (sym e))

      at : (o : Option Node) → node_at tree path ≡ o → option_and_then if_link (option_map entry_of o) ≡ Some link → link.name ≡ path
      at None e k = absurd (some_none link (sym k))
      at (Some node) e k = ap (λ (x : Entry). x.name) (sym (kept (is_link node.entry.attr.kind) node k)) ∙ rooted.named path node e

  either : {X : Type 0} (P : X → Type 0) (a b : Option X) (x : X) → option_or a b ≡ Some x → ((y : X) → a ≡ Some y → P y) → ((y : X) → b ≡ Some y → P y) → P x
  either P None b x h f g = g x h
  either P (Some y) b x h f g = subst P (some_same y x h) (f y refl)

  of_ways_to : (n : ℕ) (path : PathName) (link : Entry) → first_link tree (ways_to n path) ≡ Some link → link.name.owner ≡ path.owner
  of_ways_to zero path link h = ap (λ (p : PathName). p.owner) (link_name (cut 0 path) link (sym (or_none (link_at tree (cut 0 path))) ∙ h))
  of_ways_to (suc n) path link h =
      either (λ (e : Entry). e.name.owner ≡ path.owner) (first_link tree (ways_to n path)) (link_at tree (cut (suc n) path)) link (sym (first_behind tree (ways_to n path) (cut (suc n) path)) ∙ h)
      (λ e k. of_ways_to n path e k) (λ e k. ap (λ (p : PathName). p.owner) (link_name (cut (suc n) path) e k))

pub link_owned : (owner : List ℕ) (tree : Tree) (itself : Bool) (path : PathName) (link : Entry) → IsRooted owner tree → path.owner ≡ owner → Some link ≡ first_link tree (tested itself path) → link.name.owner ≡ owner
unfolding ways ways_before
link_owned owner tree true path link rooted owned h = of_ways_to owner tree rooted (length path.elements) path link (sym h) ∙ owned
link_owned owner tree false path link rooted owned h = go (nat_lt 0 (length path.elements)) h
  where
    above : PathName
    above = cut (length path.elements - 1) path

    go : (b : Bool) → Some link ≡ first_link tree (elim (if b then Some above else None) as (λ _. List PathName) [ None ↦ [] | Some parent ↦ ways_to (length parent.elements) parent ]) → link.name.owner ≡ owner
    go true k = of_ways_to owner tree rooted (length above.elements) above link (sym k) ∙ owned
    go false k = absurd (some_none link k)
