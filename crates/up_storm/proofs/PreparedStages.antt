-- What is known of the logs of a storm's host while it is prepared, session by session.
use Rattle.std.proofs.Common.{◌≡◌, ℕ, zero, suc, ◌+◌, ◌%◌, ◌≤◌, Bool, true, false, List, [], length, refl, sym, ap, subst, ◌∙◌, ◌⊎◌, inl, inr, arith, Some}
use Rattle.std.specs.Prelude.{◌==◌, if◌then◌else◌}
use Rattle.std.proofs.lemmas.Bool.{false_from_ne_true, false≢true}
use Rattle.std.proofs.lemmas.Bool.Decides.{nat_tests}
use Rattle.up_blocks.specs.declared.record.BlockRecord.{BlockRecord}
use Rattle.up_calls.specs.Views.{SeenTree, Views}
use Rattle.up_host.specs.Opens.{store_limits}
use Rattle.up_names.specs.Texts.{UserName}
use Rattle.up_storm.proofs.KeptBlocks.{AreAccessBlocks}
use Rattle.up_storm.proofs.Placings.{Placed}
use Rattle.up_storm.proofs.Readings.{owner_same}
use Rattle.up_storm.specs.Asked.{owner_text}
use Rattle.up_storm.specs.Preparing.{storm_limits}
use Rattle.up_storm.specs.Summary.{added_up}

-- ---- what is known of the logs on the way

-- how many records a tree has once the sessions before n are prepared: those whose number has this rest by 2 are its own
abbrev pub size_at : ℕ → ℕ → ℕ
size_at side n = 1 + added_up (λ k. k % 2 == side) (λ k. 2) 0 n

-- the tree of session c, with the root and what was put for the first sessions
pub record TreeStage (a : Views) (c ready begun size : ℕ) : Type 0 where
  pub v : SeenTree
  pub there : a.tree (owner_text c) ≡ Some v
  pub fixed : v.fixed ≡ (owner_text c, storm_limits)
  pub placed : Placed (owner_text c) (c % 2) ready begun size v.seen

-- the tree of session c is new
pub record TreeNew (a : Views) (c : ℕ) : Type 0 where
  pub v : SeenTree
  pub there : a.tree (owner_text c) ≡ Some v
  pub fixed : v.fixed ≡ (owner_text c, storm_limits)
  pub empty : v.seen ≡ []

-- the store keeps the texts of the first sessions, and nothing else
pub record StoreStage (a : Views) (n : ℕ) : Type 0 where
  pub fixed : a.store.fixed ≡ store_limits storm_limits
  pub blocks : AreAccessBlocks n a.store.seen
  pub few : length a.store.seen ≤ n

-- the first n sessions are prepared
pub record Stage (a : Views) (n : ℕ) : Type 0 where
  pub tree : (c : ℕ) → TreeStage a c n n (size_at (c % 2) n)
  pub store : StoreStage a n

-- a tree that stays is as it was
pub stage_stays : (a b : Views) (c ready begun size : ℕ) → b.tree (owner_text c) ≡ a.tree (owner_text c) → TreeStage a c ready begun size → TreeStage b c ready begun size
stage_stays a b c ready begun size same s = record { v = s.v; there = same ∙ s.there; fixed = s.fixed; placed = s.placed }

-- and so is a new one
pub new_stays : (a b : Views) (c : ℕ) → b.tree (owner_text c) ≡ a.tree (owner_text c) → TreeNew a c → TreeNew b c
new_stays a b c same s = record { v = s.v; there = same ∙ s.there; fixed = s.fixed; empty = s.empty }

-- and the store, where nothing came to it
pub store_stays : (a b : Views) (n : ℕ) → b.store.seen ≡ a.store.seen → b.store.fixed ≡ a.store.fixed → StoreStage a n → StoreStage b n
store_stays a b n same fixed s = record {
  fixed = fixed ∙ s.fixed;
  blocks = subst (λ (log : List BlockRecord). AreAccessBlocks n log) (sym same) s.blocks;
  few = subst (λ (log : List BlockRecord). length log ≤ n) (sym same) s.few;
}

-- the tree of one session is that of each other of its side
pub stage_turned : (a : Views) (c d ready begun size : ℕ) → c % 2 ≡ d % 2 → TreeStage a c ready begun size → TreeStage a d ready begun size
stage_turned a c d ready begun size side s =
    let owner : owner_text c ≡ owner_text d = owner_same c d side in
    record {
      v = s.v;
      there = sym (ap (λ (o : UserName). a.tree o) owner) ∙ s.there;
      fixed = s.fixed ∙ ap (λ (o : UserName). (o, storm_limits)) owner;
      placed = subst (λ (r : ℕ). Placed (owner_text d) r ready begun size s.v.seen) side (subst (λ (o : UserName). Placed o (c % 2) ready begun size s.v.seen) owner s.placed);
    }

-- ---- counts

-- the last session counts last
added_last : (is_in : ℕ → Bool) (f : ℕ → ℕ) (k n : ℕ) → added_up is_in f k (suc n) ≡ added_up is_in f k n + (if is_in (k + n) then f (k + n) else 0)
added_last is_in f k zero = let e : k ≡ k + 0 = omega arith in turn (subst (λ (m : ℕ). (if is_in k then f k else 0) ≡ (if is_in m then f m else 0)) e refl)
  where
    turn : (if is_in k then f k else 0) ≡ (if is_in (k + 0) then f (k + 0) else 0) → (if is_in k then f k else 0) + 0 ≡ 0 + (if is_in (k + 0) then f (k + 0) else 0)
    turn h = omega (arith, h)
added_last is_in f k (suc n) =
    let rest = added_last is_in f (k + 1) n in
    let e : (k + 1) + n ≡ k + suc n = omega arith in
    let last : (if is_in ((k + 1) + n) then f ((k + 1) + n) else 0) ≡ (if is_in (k + suc n) then f (k + suc n) else 0) = ap (λ (m : ℕ). if is_in m then f m else 0) e in
    omega (arith, rest, last)

-- numbers that pass the test of equality are equal
numbers_equal : (m n : ℕ) → (m == n) ≡ true → m ≡ n
numbers_equal m n h = grind (arith, nat_tests)

-- and equal ones pass it
numbers_same : (m n : ℕ) → m ≡ n → (m == n) ≡ true
numbers_same m n h = grind (arith, nat_tests)

-- a session of a side is told by its rest
pub test_same : (k side : ℕ) → k % 2 ≡ side → (k % 2 == side) ≡ true
test_same k side h = numbers_same (k % 2) side h

-- and one of the other side
pub test_other : (k side : ℕ) → (k % 2 ≡ side → ⊥) → (k % 2 == side) ≡ false
test_other k side h = false_from_ne_true (k % 2 == side) (λ same. h (numbers_equal (k % 2) side same))

-- a session's own tree has two records more, and each other none
pub size_more : (side n : ℕ) → n % 2 ≡ side → size_at side (n + 1) ≡ (size_at side n + 1) + 1
size_more side n same =
    let e : n + 1 ≡ suc n = omega arith in
    let last : added_up (λ k. k % 2 == side) (λ k. 2) 0 (suc n) ≡ added_up (λ k. k % 2 == side) (λ k. 2) 0 n + (if (0 + n) % 2 == side then 2 else 0) = added_last (λ k. k % 2 == side) (λ k. 2) 0 n in
    let z : 0 + n ≡ n = omega arith in
    let two : ◌≡◌ {A = ℕ} (if (0 + n) % 2 == side then 2 else 0) 2 = ap {B = ℕ} (λ (m : ℕ). if m % 2 == side then 2 else 0) z ∙ ap {B = ℕ} (λ (b : Bool). if b then 2 else 0) (test_same n side same) in
    let whole : added_up (λ k. k % 2 == side) (λ k. 2) 0 (n + 1) ≡ added_up (λ k. k % 2 == side) (λ k. 2) 0 (suc n) = ap (λ (m : ℕ). added_up (λ k. k % 2 == side) (λ k. 2) 0 m) e in
    omega (arith, last, two, whole)

-- a session of the other side leaves the count
pub size_stays : (side n : ℕ) → (n % 2 ≡ side → ⊥) → size_at side (n + 1) ≡ size_at side n
size_stays side n other =
    let e : n + 1 ≡ suc n = omega arith in
    let last : added_up (λ k. k % 2 == side) (λ k. 2) 0 (suc n) ≡ added_up (λ k. k % 2 == side) (λ k. 2) 0 n + (if (0 + n) % 2 == side then 2 else 0) = added_last (λ k. k % 2 == side) (λ k. 2) 0 n in
    let z : 0 + n ≡ n = omega arith in
    let none : ◌≡◌ {A = ℕ} (if (0 + n) % 2 == side then 2 else 0) 0 = ap {B = ℕ} (λ (m : ℕ). if m % 2 == side then 2 else 0) z ∙ ap {B = ℕ} (λ (b : Bool). if b then 2 else 0) (test_other n side other) in
    let whole : added_up (λ k. k % 2 == side) (λ k. 2) 0 (n + 1) ≡ added_up (λ k. k % 2 == side) (λ k. 2) 0 (suc n) = ap (λ (m : ℕ). added_up (λ k. k % 2 == side) (λ k. 2) 0 m) e in
    omega (arith, last, none, whole)

-- two numbers are equal or not
pub side_cases : (m n : ℕ) → (m ≡ n) ⊎ (m ≡ n → ⊥)
side_cases m n = go (m == n) refl
  where
    go : (b : Bool) → (m == n) ≡ b → (m ≡ n) ⊎ (m ≡ n → ⊥)
    go true h = inl (numbers_equal m n h)
    go false h = inr (λ same. false≢true (sym h ∙ numbers_same m n same))
