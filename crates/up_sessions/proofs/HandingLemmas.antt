-- The disks of the hosts of a script, as they are handed back.
use Rattle.std.proofs.Common.{◌≡◌, ◌≤◌, ◌+◌, ℕ, List, [], ◌∷◌, ◌++◌, length, map, take, drop, sym, ap, subst, ◌∙◌, arith, append_assoc, length-append}
use Rattle.std.proofs.lemmas.List.{length-map}
use Rattle.std.proofs.lemmas.List.Sums.{sum_by-cons}
use Rattle.std.specs.List.{AllByRecursion, flat_map, sum_by}
use Rattle.up_host.specs.Alone.{HostState}
use Rattle.up_host.specs.Opens.{disk_of, disks_of}
use Rattle.up_host.proofs.OpeningLemmas.{turned}
use Rattle.up_sessions.specs.Kept.{disk_count}

-- a host has as many disks as are counted
pub disks_many : {D : Type 0} (host : HostState D) → length (disks_of host) ≡ disk_count host
disks_many host =
    let all = length-append (map disk_of host.trees) (host.store.state.disk ∷ host.keys.state.disk ∷ []) in
    let trees = length-map host.trees disk_of in
    omega (arith, all, trees)

-- of no host anything holds
pub no_host : {D : Type 0} (P : HostState D → Type 0) (hosts : List (HostState D)) → length hosts ≡ 0 → AllByRecursion P hosts
no_host P [] none = tt
no_host P (host ∷ hosts) none = absurd (omega (arith, none))

module _ {D : Type 0} (hosts rest : List (HostState D)) (host : HostState D) (is : hosts ≡ host ∷ rest) where
  -- there is room for the disks of the next host
  pub next_room : (given : List D) (spare : ℕ) → given ≡ disks_of host → sum_by disk_count hosts ≤ spare → length given ≤ spare
  next_room given spare them room =
      let many = ap length them ∙ disks_many host in
      let all = ap (sum_by disk_count) is ∙ sum_by-cons disk_count host rest in
      omega (arith, many, all, room)

  -- and then for those of the others
  pub rest_room : (given : List D) (spare after : ℕ) → given ≡ disks_of host → after + length given ≡ spare → sum_by disk_count hosts ≤ spare → sum_by disk_count rest ≤ after
  rest_room given spare after them put room =
      let many = ap length them ∙ disks_many host in
      let all = ap (sum_by disk_count) is ∙ sum_by-cons disk_count host rest in
      omega (arith, many, all, put, room)

  -- the disks of the next host were put behind the others
  pub next_disks : (disks later given all : List D) → given ≡ disks_of host → later ≡ disks ++ given → disks ++ flat_map disks_of hosts ≡ all → later ++ flat_map disks_of rest ≡ all
  next_disks disks later given all them put whole =
      ap (λ xs. xs ++ flat_map disks_of rest) (put ∙ ap (λ xs. disks ++ xs) them)
      ∙ append_assoc disks (disks_of host) (flat_map disks_of rest)
      ∙ ap (λ xs. disks ++ flat_map disks_of xs) (sym is)
      ∙ whole

  -- what holds of the next host and of the others holds of all
  pub all_hosts : (P : HostState D → Type 0) → P host → AllByRecursion P rest → AllByRecursion P hosts
  all_hosts P one all = subst (AllByRecursion P) (sym is) (one, all)

-- what was put behind is turned to the front
pub in_front : {X : Type 0} (free given both all : List X) (n : ℕ) → both ≡ free ++ given → n ≡ length free → all ≡ drop n both ++ take n both → all ≡ given ++ free
in_front free given both all n is many turn =
    turn ∙ ap (λ xs. drop n xs ++ take n xs) is ∙ ap (λ m. drop m (free ++ given) ++ take m (free ++ given)) many ∙ turned free given

-- and is not shorter than what stood there
pub no_shorter : {X : Type 0} (free given both : List X) (n : ℕ) → both ≡ free ++ given → n ≡ length free → n ≤ length both
no_shorter free given both n is many =
    let all : length both ≡ length free + length given = ap length is ∙ length-append free given in
    omega (arith, all, many)
