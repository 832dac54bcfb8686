-- Paths under the root of a snapshot, and above it.
use Rattle.std.proofs.Common.{◌≡◌, ℕ, zero, suc, ◌<◌, ◌≤◌, Bool, true, false, ◌||◌, List, [], ◌∷◌, ◌++◌, length, take, drop, refl, sym, ap, subst, ◌∙◌, arith, bytes_eq, Decides}
use lib.Pointwise.{pointwise}
use Rattle.std.proofs.lemmas.Bool.{and_parts, and_from}
use Rattle.std.proofs.lemmas.List.{append-nil, length-take-le, take-append-drop}
use Rattle.std.proofs.lemmas.Slice.Eq.{bytes_eq-Decides, slice_eq-Decides}
use Rattle.up_names.specs.PathNames.{PathName, cut, is_under}
use Rattle.up_answers.specs.Calendar.{moment_elements}
use Rattle.up_answers.specs.SnapshotTrees.{moved}
use Rattle.up_log_tree.specs.Fits.{root_of, snapshot_user}
use Rattle.up_log_tree.proofs.Paths.{cut_whole}
use Rattle.up_snap.specs.Shown.{old_path, shown_root}
use Rattle.up_snap.proofs.MomentLemmas.{moment_same}

-- a path is under q where its first elements make q
pub under-Decides : (p q : PathName) → Decides (is_under p q) (cut (length q.elements) p ≡ q)
under-Decides p q =
    let owners = bytes_eq-Decides p.owner q.owner in
    let elements = slice_eq-Decides bytes_eq-Decides q.elements (take (length q.elements) p.elements) (pointwise bytes_eq q.elements (take (length q.elements) p.elements)) refl in (
      λ under. let both = and_parts (bytes_eq p.owner q.owner) (pointwise bytes_eq q.elements (take (length q.elements) p.elements)) under in
          ap (λ owner. record { owner = owner; elements = take (length q.elements) p.elements }) (owners.0 both.0)
          ∙ ap (λ elements. record { owner = q.owner; elements = elements }) (sym (elements.0 both.1)),
      λ same. and_from _ _ (owners.1 (ap (λ (p : PathName). p.owner) same)) (elements.1 (sym (ap (λ (p : PathName). p.elements) same))),
    )

pub moment_length : (time : ℕ) → length (moment_elements time) ≡ 4
unfolding moment_elements
moment_length time = refl

-- the root of a snapshot, where the tree's own root is moved
pub root_moved : (owner : List ℕ) (time : ℕ) → moved time (root_of owner) ≡ shown_root (snapshot_user owner) time
root_moved owner time = ap (λ es. record { owner = snapshot_user owner; elements = es }) (append-nil (moment_elements time))

-- a path at or below the root has at least four elements, and begins with those of the moment
pub record IsBelow (snap_user : List ℕ) (time : ℕ) (path : PathName) : Type 0 where
  pub owned : path.owner ≡ snap_user
  pub front : take 4 path.elements ≡ moment_elements time
  pub size : 4 ≤ length path.elements

four_taken : {X : Type 0} (xs ys : List X) → length ys ≡ 4 → take 4 xs ≡ ys → 4 ≤ length xs
four_taken [] ys size h = let e : 0 ≡ 4 = ap length h ∙ size in absurd (omega (arith, e))
four_taken (a ∷ []) ys size h = let e : 1 ≡ 4 = ap length h ∙ size in absurd (omega (arith, e))
four_taken (a ∷ b ∷ []) ys size h = let e : 2 ≡ 4 = ap length h ∙ size in absurd (omega (arith, e))
four_taken (a ∷ b ∷ c ∷ []) ys size h = let e : 3 ≡ 4 = ap length h ∙ size in absurd (omega (arith, e))
four_taken (a ∷ b ∷ c ∷ d ∷ xs) ys size h = omega arith

module _ (snap_user : List ℕ) (time : ℕ) (path : PathName) where
  pub below_of : is_under path (shown_root snap_user time) ≡ true → IsBelow snap_user time path
  below_of under =
      let same = (under-Decides path (shown_root snap_user time)).0 under in
      let front : take 4 path.elements ≡ moment_elements time =
      ap (λ n. take n path.elements) (sym (moment_length time)) ∙ ap (λ (p : PathName). p.elements) same in
      record { owned = ap (λ (p : PathName). p.owner) same; front = front; size = four_taken path.elements (moment_elements time) (moment_length time) front }

  pub below_is : IsBelow snap_user time path → is_under path (shown_root snap_user time) ≡ true
  below_is is =
      (under-Decides path (shown_root snap_user time)).1
      (ap (λ n. cut n path) (moment_length time)
      ∙ ap (λ o. record { owner = o; elements = take 4 path.elements }) is.owned
      ∙ ap (λ es. record { owner = snap_user; elements = es }) is.front)

  -- a path above the root is one of its fronts
  pub above_of : is_under (shown_root snap_user time) path ≡ true → cut (length path.elements) (shown_root snap_user time) ≡ path
  above_of under = (under-Decides (shown_root snap_user time) path).0 under

  pub above_is : (n : ℕ) → n ≤ 4 → path ≡ cut n (shown_root snap_user time) → is_under (shown_root snap_user time) path ≡ true
  above_is n few is =
      let size : length path.elements ≡ n = ap (λ (p : PathName). length p.elements) is ∙ length-take-le n (moment_elements time) (let e = moment_length time in omega (arith, e, few)) in
      (under-Decides (shown_root snap_user time) path).1 (ap (λ k. cut k (shown_root snap_user time)) size ∙ sym is)

  pub above_few : is_under (shown_root snap_user time) path ≡ true → length path.elements ≤ 4
  above_few under =
      let e = ap (λ (p : PathName). length p.elements) (above_of under) in
      go (length path.elements) (moment_elements time) (moment_length time) e
    where
      go : (n : ℕ) (xs : List (List ℕ)) → length xs ≡ 4 → length (take n xs) ≡ n → n ≤ 4
      go zero xs size e = omega arith
      go (suc n) [] size e = absurd (omega (arith, e))
      go (suc n) (x ∷ xs) size e = more n xs (let s : length xs ≡ 3 = omega (arith, size) in s) (let f : length (take n xs) ≡ n = omega (arith, e) in f)
        where
          shorter : (n : ℕ) (xs : List (List ℕ)) → length (take n xs) ≡ n → n ≤ length xs
          shorter zero xs e = omega arith
          shorter (suc n) [] e = absurd (omega (arith, e))
          shorter (suc n) (x ∷ xs) e = let r = shorter n xs (let f : length (take n xs) ≡ n = omega (arith, e) in f) in omega (arith, r)

          more : (n : ℕ) (xs : List (List ℕ)) → length xs ≡ 3 → length (take n xs) ≡ n → suc n ≤ 4
          more n xs size e = let r = shorter n xs e in omega (arith, r, size)

  -- one that is above it and has four elements is the root
  pub above_whole : is_under (shown_root snap_user time) path ≡ true → 4 ≤ length path.elements → path ≡ shown_root snap_user time
  above_whole under size =
      let few = above_few under in
      let four : length path.elements ≡ 4 = omega (arith, few, size) in
      sym (above_of under) ∙ ap (λ n. cut n (shown_root snap_user time)) (four ∙ sym (moment_length time)) ∙ cut_whole (shown_root snap_user time)

-- the root is below itself
pub root_below : (snap_user : List ℕ) (time : ℕ) → IsBelow snap_user time (shown_root snap_user time)
root_below snap_user time = record {
  owned = refl;
  front = ap (λ n. take n (moment_elements time)) (sym (moment_length time)) ∙ ap (λ (p : PathName). p.elements) (cut_whole (shown_root snap_user time));
  size = let e = moment_length time in omega (arith, e);
}

-- a path with so many elements on which a snapshot bears is at or below the root
pub below_if : (snap_user : List ℕ) (time : ℕ) (path : PathName) → 4 ≤ length path.elements → (is_under path (shown_root snap_user time) || is_under (shown_root snap_user time) path) ≡ true →
    is_under path (shown_root snap_user time) ≡ true
below_if snap_user time path long bears = go (is_under path (shown_root snap_user time)) refl bears
  where
    go : (b : Bool) → is_under path (shown_root snap_user time) ≡ b → (b || is_under (shown_root snap_user time) path) ≡ true → is_under path (shown_root snap_user time) ≡ true
    go true e h = e
    go false e h =
        let root : path ≡ shown_root snap_user time = above_whole snap_user time path h long in
        below_is snap_user time path (subst (IsBelow snap_user time) (sym root) (root_below snap_user time))

-- a path below two roots shows one moment
pub one_moment : (snap_user other : List ℕ) (m n : ℕ) (path : PathName) → m < 253402207200 → n < 253402207200 → IsBelow snap_user m path → IsBelow other n path → m ≡ n
one_moment snap_user other m n path low high one two = moment_same m n low high (sym one.front ∙ two.front)

-- a path below the root is the old path, moved
pub moved_back : (owner : List ℕ) (time : ℕ) (path : PathName) → IsBelow (snapshot_user owner) time path → moved time (old_path owner path) ≡ path
moved_back owner time path is =
    ap (λ es. record { owner = snapshot_user owner; elements = es ++ drop 4 path.elements }) (sym is.front)
    ∙ ap (λ es. record { owner = snapshot_user owner; elements = es }) (take-append-drop 4 path.elements)
    ∙ ap (λ o. record { owner = o; elements = path.elements }) (sym is.owned)

four_back : (xs ys : List (List ℕ)) → length xs ≡ 4 → drop 4 (xs ++ ys) ≡ ys
four_back [] ys e = absurd (omega (arith, e))
four_back (a ∷ []) ys e = absurd (omega (arith, e))
four_back (a ∷ b ∷ []) ys e = absurd (omega (arith, e))
four_back (a ∷ b ∷ c ∷ []) ys e = absurd (omega (arith, e))
four_back (a ∷ b ∷ c ∷ d ∷ []) ys e = refl
four_back (a ∷ b ∷ c ∷ d ∷ f ∷ xs) ys e = absurd (omega (arith, e))

four_front : (xs ys : List (List ℕ)) → length xs ≡ 4 → take 4 (xs ++ ys) ≡ xs
four_front [] ys e = absurd (omega (arith, e))
four_front (a ∷ []) ys e = absurd (omega (arith, e))
four_front (a ∷ b ∷ []) ys e = absurd (omega (arith, e))
four_front (a ∷ b ∷ c ∷ []) ys e = absurd (omega (arith, e))
four_front (a ∷ b ∷ c ∷ d ∷ []) ys e = refl
four_front (a ∷ b ∷ c ∷ d ∷ f ∷ xs) ys e = absurd (omega (arith, e))

-- and the other way round
pub old_moved : (owner : List ℕ) (time : ℕ) (old : PathName) → old.owner ≡ owner → old_path owner (moved time old) ≡ old
old_moved owner time old owned =
    ap (λ es. record { owner = owner; elements = es }) (four_back (moment_elements time) old.elements (moment_length time))
    ∙ ap (λ o. record { owner = o; elements = old.elements }) (sym owned)

-- what is moved is below the root
pub moved_below : (owner : List ℕ) (time : ℕ) (old : PathName) → old.owner ≡ owner → IsBelow (snapshot_user owner) time (moved time old)
moved_below owner time old owned =
    let front = four_front (moment_elements time) old.elements (moment_length time) in
    record { owned = ap snapshot_user owned; front = front; size = four_taken (moment_elements time ++ old.elements) (moment_elements time) (moment_length time) front }
