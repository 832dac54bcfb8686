-- What is kept of the hosts of a script stays.
use Rattle.std.proofs.Common.{◌≡◌, ◌<◌, ◌+◌, ℕ, zero, suc, List, [], ◌∷◌, ◌++◌, length, map, Option, Some, None, refl, sym, ap, subst, ◌∙◌, arith, length-append}
use Rattle.std.proofs.lemmas.Grind.{replicate_next}
use Rattle.std.proofs.lemmas.List.Sums.{sum_by-append, sum_by-cons}
use Rattle.std.specs.List.{sum_by}
use Rattle.std.specs.Prelude.{replicate, slice_get, slice_set}
use Rattle.up_disk.specs.declared.disk.Disk.{Ghosts}
use Rattle.up_host.specs.Alone.{HostState}
use Rattle.up_host.specs.Opens.{OpensTrees}
use Rattle.up_host.specs.Settled.{StaysSettled, owner_of}
use Rattle.up_host.specs.declared.held.Held.{Held}
use Rattle.up_journal.specs.declared.limits.Limits.{Limits}
use Rattle.up_names.specs.Texts.{UserName}
use Rattle.up_sessions.specs.Kept.{IsKept, OneOf, disk_count}
use Rattle.up_sessions.specs.Worlds.{no_session}
use Rattle.up_sessions.specs.declared.opened.Opened.{Opened}
use Rattle.up_tree.specs.States as tree

-- one item of a list was replaced: the sum changes as that item does
pub sum_moved : {X : Type 0} (f : X → ℕ) (xs : List X) (i : ℕ) (x y : X) → slice_get xs i ≡ Some x → sum_by f (slice_set xs i y) + f x ≡ sum_by f xs + f y
sum_moved f [] i x y is = absurd (cc)
sum_moved f (z ∷ xs) zero x y is =
    let same : f z ≡ f x = ap f (let e : z ≡ x = cc in e) in
    let a = sum_by-cons f y xs in let b = sum_by-cons f z xs in omega (arith, a, b, same)
sum_moved f (z ∷ xs) (suc i) x y is =
    let a = sum_by-cons f z (slice_set xs i y) in let b = sum_by-cons f z xs in let rest = sum_moved f xs i x y is in omega (arith, a, b, rest)

pub set_length : {X : Type 0} (xs : List X) (i : ℕ) (x : X) → length (slice_set xs i x) ≡ length xs
set_length [] i x = refl
set_length (y ∷ xs) zero x = refl
set_length (y ∷ xs) (suc i) x = ap suc (set_length xs i x)

-- what stands in a list where one item was replaced
set_get : {X : Type 0} (P : X → Type 0) (xs : List X) (i j : ℕ) (x y : X) → ((z : X) → slice_get xs j ≡ Some z → P z) → P x → slice_get (slice_set xs i x) j ≡ Some y → P y
set_get P [] i j x y old new is = old y is
set_get P (z ∷ xs) zero zero x y old new is = let same : x ≡ y = cc in subst P same new
set_get P (z ∷ xs) zero (suc j) x y old new is = old y is
set_get P (z ∷ xs) (suc i) zero x y old new is = old y is
set_get P (z ∷ xs) (suc i) (suc j) x y old new is = set_get P xs i j x y old new is

-- a host has as many disks as before
pub as_many : {X Y : Type 0} (f : X → Y) (xs ys : List X) → map f ys ≡ map f xs → length ys ≡ length xs
as_many {X} f xs ys is = sym (mapped ys) ∙ ap length is ∙ mapped xs
  where
    mapped : (zs : List X) → length (map f zs) ≡ length zs
    mapped [] = refl
    mapped (z ∷ zs) = ap suc (mapped zs)

-- a tree was opened for each owner
pub trees_opened : {D : Type 0} (disks : Ghosts D) (limits : Limits) (owners : List UserName) (used : List D) (trees : List (Held (tree.State D))) → OpensTrees disks limits owners used trees → length owners ≡ length trees
trees_opened disks limits [] [] [] all = refl
trees_opened disks limits (o ∷ os) (d ∷ ds) (h ∷ hs) all = ap suc (trees_opened disks limits os ds hs all.1)
trees_opened disks limits [] [] (h ∷ hs) all = absurd all
trees_opened disks limits [] (d ∷ ds) [] all = absurd all
trees_opened disks limits [] (d ∷ ds) (h ∷ hs) all = absurd all
trees_opened disks limits (o ∷ os) [] [] all = absurd all
trees_opened disks limits (o ∷ os) [] (h ∷ hs) all = absurd all
trees_opened disks limits (o ∷ os) (d ∷ ds) [] all = absurd all

module _ {D : Type 0} where
  -- one host more
  pub kept_more : (hosts : List (HostState D)) (sessions : List (Option Opened)) (spare more : ℕ) (host : HostState D) → IsKept hosts sessions spare → disk_count host ≡ more → IsKept (hosts ++ host ∷ []) sessions (spare + more)
  kept_more hosts sessions spare more host kept is =
      let long : length (hosts ++ host ∷ []) ≡ length hosts + 1 = length-append hosts (host ∷ []) in
      let sum = sum_by-append disk_count hosts (host ∷ []) in
      let one = sum_by-cons disk_count host [] in
      let room = kept.room in
      record {
        numbers = kept.numbers;
        places = λ number opened at. let old = kept.places number opened at in omega (arith, long, old);
        room = omega (arith, sum, one, is, room);
      }

  -- one host became another one, over as many disks
  pub kept_at : (hosts : List (HostState D)) (sessions : List (Option Opened)) (spare place : ℕ) (before after : HostState D) → IsKept hosts sessions spare → slice_get hosts place ≡ Some before
      → length after.trees ≡ length before.trees → IsKept (slice_set hosts place after) sessions spare
  kept_at hosts sessions spare place before after kept is same =
      let long = set_length hosts place after in
      let sum : sum_by disk_count (slice_set hosts place after) + (length before.trees + 2) ≡ sum_by disk_count hosts + (length after.trees + 2) = sum_moved disk_count hosts place before after is in
      let room = kept.room in
      record {
        numbers = kept.numbers;
        places = λ number opened at. let old = kept.places number opened at in omega (arith, long, old);
        room = omega (arith, sum, same, room);
      }

  -- one whose logs stay settled, and so whose trees stand where they stood
  pub kept_settled : (disks : Ghosts D) (hosts : List (HostState D)) (sessions : List (Option Opened)) (spare place : ℕ) (before after : HostState D) → IsKept hosts sessions spare → slice_get hosts place ≡ Some before
      → StaysSettled disks before after → IsKept (slice_set hosts place after) sessions spare
  kept_settled disks hosts sessions spare place before after kept is stays =
      kept_at hosts sessions spare place before after kept is (as_many owner_of before.trees after.trees stays.owners)

  pub kept_one : {P : Type 0} (disks : Ghosts D) (place : ℕ) (did : HostState D → HostState D → P → P → Type 0) (hosts later : List (HostState D)) (sessions : List (Option Opened)) (spare : ℕ) (old new : P) → IsKept hosts sessions spare
      → (one : OneOf place did hosts old later new) → StaysSettled disks one.before one.after → IsKept later sessions spare
  kept_one disks place did hosts later sessions spare old new kept one stays =
      subst (λ hs. IsKept hs sessions spare) (sym one.whole) (kept_settled disks hosts sessions spare place one.before one.after kept one.there stays)

  -- one session more, at one of the hosts
  pub kept_open : (hosts : List (HostState D)) (sessions : List (Option Opened)) (spare number : ℕ) (opened : Opened) → IsKept hosts sessions spare → opened.place < length hosts → IsKept hosts (slice_set sessions number (Some opened)) spare
  kept_open hosts sessions spare number opened kept within = record {
    numbers = set_length sessions number (Some opened) ∙ kept.numbers;
    places = λ n other at.
        set_get (λ session. (o : Opened) → session ≡ Some o → o.place < length hosts) sessions number n (Some opened) (Some other)
        (λ session is o same. kept.places n o (is ∙ ap Some same)) (λ o same. let e : opened ≡ o = cc in subst (λ (x : Opened). x.place < length hosts) e within) at other refl;
    room = kept.room;
  }

  -- one session fewer
  pub kept_closed : (hosts : List (HostState D)) (sessions : List (Option Opened)) (spare number : ℕ) → IsKept hosts sessions spare → IsKept hosts (slice_set sessions number None) spare
  kept_closed hosts sessions spare number kept = record {
    numbers = set_length sessions number None ∙ kept.numbers;
    places = λ n other at.
        set_get (λ session. (o : Opened) → session ≡ Some o → o.place < length hosts) sessions number n None (Some other)
        (λ session is o same. kept.places n o (is ∙ ap Some same)) (λ o same. absurd (cc)) at other refl;
    room = kept.room;
  }

-- no session stands in a list of none
none_there : (m n : ℕ) (opened : Opened) → slice_get (replicate m None) n ≡ Some (Some opened) → ⊥
none_there zero n opened is = cc
none_there (suc m) zero opened is = cc
none_there (suc m) (suc n) opened is = none_there m n opened is

-- no host and no session
kept_none : {D : Type 0} (spare : ℕ) → IsKept {D = D} [] no_session spare
kept_none spare = record { numbers = refl; places = λ number opened at. absurd (none_there 100 number opened at); room = omega arith }

pub kept_start : {D : Type 0} (hosts : List (HostState D)) (sessions : List (Option Opened)) (spare : ℕ) → hosts ≡ [] → sessions ≡ no_session → IsKept hosts sessions spare
kept_start {D} hosts sessions spare none closed =
    subst (λ hs. IsKept hs sessions spare) (sym none) (subst (λ ss. IsKept {D = D} [] ss spare) (sym closed) (kept_none spare))

-- one number more
pub one_more : {X : Type 0} (n : ℕ) (x : X) → replicate n x ++ x ∷ [] ≡ replicate (n + 1) x
one_more n x = sym (replicate_next n x)
