-- How the counts of disks rise where a host is opened over them, or refused.
use Rattle.std.proofs.Common.{◌≡◌, ◌≤◌, ◌<◌, ◌-◌, ◌^◌, ℕ, List, [], ◌∷◌, inl, inr, map, refl, sym, ap, subst, ◌∙◌, arith}
use Rattle.std.proofs.lemmas.List.Sums.{sum_by-append, sum_by-cons}
use Rattle.std.specs.List.{sum_by}
use Rattle.up_disk.specs.declared.disk.Disk.{Ghosts}
use Rattle.up_host.specs.Alone.{HostState, disk_faults}
use Rattle.up_host.specs.Opens.{IsRefusedAs, OpensHost, OpensTrees, RefusesHost, WasOpenedAs, WereOpened, disk_of, disks_of}
use Rattle.up_calls.specs.Routes.{LogName}
use Rattle.up_host.specs.declared.fault.HostFault.{HostFault}
use Rattle.up_host.specs.declared.held.Held.{Held}
use Rattle.up_journal.specs.declared.fault.OpenFault.{OpenFault}
use Rattle.up_journal.specs.declared.fault.OpenWhy.TheVariants as reason
use Rattle.up_journal.specs.declared.limits.Limits.{Limits}
use Rattle.up_lists.specs.Counts.{HasCause, StaysUnless}
use Rattle.up_names.specs.Texts.{UserName}
use Rattle.up_tree.specs.States as tree

-- a sum over what is made of each item
sum_made : {X Y : Type 0} (f : Y → ℕ) (g : X → Y) (xs : List X) → sum_by f (map g xs) ≡ sum_by (λ x. f (g x)) xs
sum_made f g [] = refl
sum_made f g (x ∷ xs) =
    let a = sum_by-cons f (g x) (map g xs) in
    let b = sum_by-cons (λ y. f (g y)) x xs in
    let rest = sum_made f g xs in
    omega (arith, a, b, rest)

module _ {D : Type 0} (disks : Ghosts D) where
  -- the disks of a host in their places
  pub host_faults : (host : HostState D) → sum_by disks.faults (disks_of host) ≡ disk_faults disks host
  host_faults host =
      let trees = sum_made disks.faults (disk_of {D = D}) host.trees in
      let all = sum_by-append disks.faults (map (disk_of {D = D}) host.trees) (host.store.state.disk ∷ host.keys.state.disk ∷ []) in
      let two = sum_by-cons disks.faults host.store.state.disk (host.keys.state.disk ∷ []) in
      let one = sum_by-cons disks.faults host.keys.state.disk [] in
      omega (arith, trees, all, two, one)

module _ {D : Type 0} (disks : Ghosts D) (limits : Limits) where
  trees_later : (owners : List UserName) (used : List D) (trees : List (Held (tree.State D))) → OpensTrees disks limits owners used trees
      → sum_by disks.faults used ≤ sum_by (λ (held : Held (tree.State D)). disks.faults held.state.disk) trees
  trees_later [] [] [] all = omega arith
  trees_later (o ∷ os) (d ∷ ds) (h ∷ hs) all =
      let one = all.0.log.counts.later in
      let rest = trees_later os ds hs all.1 in
      let a = sum_by-cons disks.faults d ds in
      let b = sum_by-cons (λ (held : Held (tree.State D)). disks.faults held.state.disk) h hs in
      omega (arith, one, rest, a, b)
  trees_later [] [] (h ∷ hs) all = absurd all
  trees_later [] (d ∷ ds) [] all = absurd all
  trees_later [] (d ∷ ds) (h ∷ hs) all = absurd all
  trees_later (o ∷ os) [] [] all = absurd all
  trees_later (o ∷ os) [] (h ∷ hs) all = absurd all
  trees_later (o ∷ os) (d ∷ ds) [] all = absurd all

  pub opens_later : (name : List ℕ) (operator : UserName) (owners : List UserName) (given : List D) (host : HostState D) → OpensHost disks limits name operator owners given host
      → sum_by disks.faults given ≤ disk_faults disks host
  opens_later name operator owners given host opens =
      let logs = opens.logs in
      let trees = trees_later owners logs.of_trees host.trees logs.trees_are in
      let store = logs.store_is.log.counts.later in
      let key_log = logs.keys_are.log.counts.later in
      let whole = ap (sum_by disks.faults) logs.given_is ∙ sum_by-append disks.faults logs.of_trees (logs.of_store ∷ logs.of_keys ∷ []) in
      let two = sum_by-cons disks.faults logs.of_store (logs.of_keys ∷ []) in
      let one = sum_by-cons disks.faults logs.of_keys [] in
      omega (arith, trees, store, key_log, whole, two, one)

  trees_calm : (owners : List UserName) (used : List D) (trees : List (Held (tree.State D))) → OpensTrees disks limits owners used trees
      → sum_by (λ (held : Held (tree.State D)). disks.faults held.state.disk) trees ≡ sum_by disks.faults used
  trees_calm [] [] [] all = refl
  trees_calm (o ∷ os) (d ∷ ds) (h ∷ hs) all =
      let one : disks.faults h.state.disk ≡ disks.faults d = all.0.log.quiet.stays (λ none. none) in
      let rest = trees_calm os ds hs all.1 in
      let a = sum_by-cons disks.faults d ds in
      let b = sum_by-cons (λ (held : Held (tree.State D)). disks.faults held.state.disk) h hs in
      omega (arith, one, rest, a, b)
  trees_calm [] [] (h ∷ hs) all = absurd all
  trees_calm [] (d ∷ ds) [] all = absurd all
  trees_calm [] (d ∷ ds) (h ∷ hs) all = absurd all
  trees_calm (o ∷ os) [] [] all = absurd all
  trees_calm (o ∷ os) [] (h ∷ hs) all = absurd all
  trees_calm (o ∷ os) (d ∷ ds) [] all = absurd all

  -- a host that is opened: no disk failed
  pub opens_calm : (name : List ℕ) (operator : UserName) (owners : List UserName) (given : List D) (host : HostState D) → OpensHost disks limits name operator owners given host
      → disk_faults disks host ≡ sum_by disks.faults given
  opens_calm name operator owners given host opens =
      let logs = opens.logs in
      let trees = trees_calm owners logs.of_trees host.trees logs.trees_are in
      let store : disks.faults host.store.state.disk ≡ disks.faults logs.of_store = logs.store_is.log.quiet.stays (λ none. none) in
      let key_log : disks.faults host.keys.state.disk ≡ disks.faults logs.of_keys = logs.keys_are.log.quiet.stays (λ none. none) in
      let whole = ap (sum_by disks.faults) logs.given_is ∙ sum_by-append disks.faults logs.of_trees (logs.of_store ∷ logs.of_keys ∷ []) in
      let two = sum_by-cons disks.faults logs.of_store (logs.of_keys ∷ []) in
      let one = sum_by-cons disks.faults logs.of_keys [] in
      omega (arith, trees, store, key_log, whole, two, one)

  pub was_later : (log : LogName) (disk after : D) → WasOpenedAs disks limits log disk after → disks.faults disk ≤ disks.faults after
  was_later (LogName.OfTree owner) disk after was = subst (λ d. disks.faults disk ≤ disks.faults d) was.disk_is was.opened.counts.later
  was_later LogName.OfStore disk after was = subst (λ d. disks.faults disk ≤ disks.faults d) was.disk_is was.opened.counts.later
  was_later LogName.OfKeys disk after was = subst (λ d. disks.faults disk ≤ disks.faults d) was.disk_is was.opened.counts.later

  were_later : (logs : List LogName) (used opened : List D) → WereOpened disks limits logs used opened → sum_by disks.faults used ≤ sum_by disks.faults opened
  were_later [] [] [] all = omega arith
  were_later (l ∷ ls) (d ∷ ds) (o ∷ os) all =
      let one = was_later l d o all.0 in
      let rest = were_later ls ds os all.1 in
      let a = sum_by-cons disks.faults d ds in
      let b = sum_by-cons disks.faults o os in
      omega (arith, one, rest, a, b)
  were_later [] [] (o ∷ os) all = absurd all
  were_later [] (d ∷ ds) [] all = absurd all
  were_later [] (d ∷ ds) (o ∷ os) all = absurd all
  were_later (l ∷ ls) [] [] all = absurd all
  were_later (l ∷ ls) [] (o ∷ os) all = absurd all
  were_later (l ∷ ls) (d ∷ ds) [] all = absurd all

  was_calm : (log : LogName) (disk after : D) → WasOpenedAs disks limits log disk after → disks.faults after ≡ disks.faults disk
  was_calm (LogName.OfTree owner) disk after was = subst (λ d. disks.faults d ≡ disks.faults disk) was.disk_is (was.opened.quiet.stays (λ none. none))
  was_calm LogName.OfStore disk after was = subst (λ d. disks.faults d ≡ disks.faults disk) was.disk_is (was.opened.quiet.stays (λ none. none))
  was_calm LogName.OfKeys disk after was = subst (λ d. disks.faults d ≡ disks.faults disk) was.disk_is (was.opened.quiet.stays (λ none. none))

  were_calm : (logs : List LogName) (used opened : List D) → WereOpened disks limits logs used opened → sum_by disks.faults opened ≡ sum_by disks.faults used
  were_calm [] [] [] all = refl
  were_calm (l ∷ ls) (d ∷ ds) (o ∷ os) all =
      let one = was_calm l d o all.0 in
      let rest = were_calm ls ds os all.1 in
      let a = sum_by-cons disks.faults d ds in
      let b = sum_by-cons disks.faults o os in
      omega (arith, one, rest, a, b)
  were_calm [] [] (o ∷ os) all = absurd all
  were_calm [] (d ∷ ds) [] all = absurd all
  were_calm [] (d ∷ ds) (o ∷ os) all = absurd all
  were_calm (l ∷ ls) [] [] all = absurd all
  were_calm (l ∷ ls) [] (o ∷ os) all = absurd all
  were_calm (l ∷ ls) (d ∷ ds) [] all = absurd all

  refused_calm : (log : LogName) (disk : D) (fault : OpenFault D) → IsRefusedAs disks limits log disk fault → StaysUnless (disks.faults disk) (disks.faults fault.disk) (fault.why ≡ reason.Fault)
  refused_calm (LogName.OfTree owner) disk fault refused = refused.quiet
  refused_calm LogName.OfStore disk fault refused = refused.quiet
  refused_calm LogName.OfKeys disk fault refused = refused.quiet

  -- disks that are handed back: the sum is as before, but for a fault
  pub refuses_calm : (owners : List UserName) (given : List D) (fault : HostFault D) → RefusesHost disks limits owners given fault → (fault.why ≡ reason.Fault → ⊥) → sum_by disks.faults fault.disks.disks ≡ sum_by disks.faults given
  refuses_calm owners given fault (inl none) no_fault = ap (sum_by disks.faults) none.handed
  refuses_calm owners given fault (inr one) no_fault =
      let same = (refused_calm one.log one.disk one.refused one.was_refused).stays (λ is. no_fault (one.why_is ∙ is)) in
      let were = were_calm one.before one.used one.opened one.were_opened in
      let a = ap (sum_by disks.faults) one.given_is ∙ sum_by-append disks.faults one.used (one.disk ∷ one.rest) in
      let b = sum_by-cons disks.faults one.disk one.rest in
      let c = ap (sum_by disks.faults) one.handed ∙ sum_by-append disks.faults one.opened (one.refused.disk ∷ one.rest) in
      let d = sum_by-cons disks.faults one.refused.disk one.rest in
      omega (arith, same, were, a, b, c, d)

  refused_counts : (log : LogName) (disk : D) (fault : OpenFault D) → IsRefusedAs disks limits log disk fault → HasCause (disks.faults disk) (disks.faults fault.disk) (fault.why ≡ reason.Fault)
  refused_counts (LogName.OfTree owner) disk fault refused = refused.counts
  refused_counts LogName.OfStore disk fault refused = refused.counts
  refused_counts LogName.OfKeys disk fault refused = refused.counts

  -- disks that are handed back: the sum never falls, and rose for a fault
  pub refuses_counts : (owners : List UserName) (given : List D) (fault : HostFault D) → RefusesHost disks limits owners given fault
      → (sum_by disks.faults given ≤ sum_by disks.faults fault.disks.disks) × (fault.why ≡ reason.Fault → sum_by disks.faults given < 2 ^ 64 - 1 → sum_by disks.faults given < sum_by disks.faults fault.disks.disks)
  refuses_counts owners given fault (inl none) =
      let same = ap (sum_by disks.faults) none.handed in
      (omega (arith, same), λ is. absurd (let e : reason.OutOfMemory ≡ reason.Fault = sym none.why_is ∙ is in cc))
  refuses_counts owners given fault (inr one) =
      let counts = refused_counts one.log one.disk one.refused one.was_refused in
      let later = counts.later in
      let were = were_later one.before one.used one.opened one.were_opened in
      let a = ap (sum_by disks.faults) one.given_is ∙ sum_by-append disks.faults one.used (one.disk ∷ one.rest) in
      let b = sum_by-cons disks.faults one.disk one.rest in
      let c = ap (sum_by disks.faults) one.handed ∙ sum_by-append disks.faults one.opened (one.refused.disk ∷ one.rest) in
      let d = sum_by-cons disks.faults one.refused.disk one.rest in
      (omega (arith, later, were, a, b, c, d), λ is below. let rose = counts.rose (sym one.why_is ∙ is) (omega (arith, a, b, below)) in omega (arith, rose, were, a, b, c, d))
