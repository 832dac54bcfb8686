-- The disks of a host, as they are opened and handed back.
use Rattle.std.proofs.Common.{◌≡◌, ◌<◌, ◌+◌, ℕ, zero, suc, List, [], ◌∷◌, ◌++◌, length, map, take, drop, refl, sym, ap, subst, ◌∙◌, inr, arith, add-one, append_assoc, append-nil, length-append, Ok, Err}
use Rattle.std.proofs.lemmas.List.{map-append}
use Rattle.std.specs.List.{AllByRecursion}
use Rattle.up_disk.specs.declared.disk.Disk.{Ghosts}
use Rattle.up_blocks.specs.Records as blocks
use Rattle.up_blocks.specs.declared.record.BlockRecord.{BlockRecord}
use Rattle.up_host.specs.Alone.{IsBase}
use Rattle.up_host.specs.Opens.{IsNoLog, OpensHeld, OpensLogs, OpensTree, OpensTrees, RefusesHost, StopsAtTree, TakesOne, TakesTrees, WereOpened, WasOpenedAs, disk_of, place_by, store_limits}
use Rattle.up_calls.specs.Routes.{LogName}
use Rattle.up_host.specs.declared.fault.HostFault.{HostFault}
use Rattle.up_host.specs.declared.held.Held.{Held}
use Rattle.up_journal.specs.Logs.{LogState}
use Rattle.up_journal.specs.declared.fault.OpenFault.{OpenFault}
use Rattle.up_journal.specs.declared.limits.Limits.{Limits}
use Rattle.up_keys.specs.Records as keys
use Rattle.up_names.specs.Texts.{UserName}
use Rattle.up_tree.specs.States as tree
use Rattle.up_wire.specs.declared.keys.KeyRecord.{KeyRecord}

-- ---- lists

-- the element at a place is the first one of what is left
next_of : {X : Type 0} (xs : List X) (i : ℕ) → i < length xs → (x : X) × (drop i xs ≡ x ∷ drop (suc i) xs) × (take (suc i) xs ≡ take i xs ++ x ∷ [])
next_of [] i h = absurd (omega (arith, h))
next_of (x ∷ xs) zero h = (x, refl, refl)
next_of (x ∷ xs) (suc i) h = let rest = next_of xs i (omega (arith, h)) in (rest.0, rest.1, ap (λ ys. x ∷ ys) rest.2)

-- a list that is turned by i elements is turned by one more
pub turn_step : {X : Type 0} (xs room rest : List X) (i : ℕ) (x : X) → i < length xs → room ≡ drop i xs ++ take i xs → room ≡ x ∷ rest → rest ++ x ∷ [] ≡ drop (i + 1) xs ++ take (i + 1) xs
turn_step xs room rest i x h is taken =
    let next = next_of xs i h in
    let whole : x ∷ rest ≡ next.0 ∷ (drop (suc i) xs ++ take i xs) = sym taken ∙ is ∙ ap (λ ys. ys ++ take i xs) next.1 in
    let first : x ≡ next.0 = cc in
    let others : rest ≡ drop (suc i) xs ++ take i xs = cc in
    ap (λ ys. ys ++ x ∷ []) others
    ∙ append_assoc (drop (suc i) xs) (take i xs) (x ∷ [])
    ∙ ap (λ y. drop (suc i) xs ++ (take i xs ++ y ∷ [])) first
    ∙ ap (λ ys. drop (suc i) xs ++ ys) (sym next.2)
    ∙ ap (λ n. drop n xs ++ take n xs) (sym (add-one i))

take_front : {X : Type 0} (fs bs : List X) → take (length fs) (fs ++ bs) ≡ fs
take_front [] bs = refl
take_front (f ∷ fs) bs = ap (λ zs. f ∷ zs) (take_front fs bs)

drop_front : {X : Type 0} (fs bs : List X) → drop (length fs) (fs ++ bs) ≡ bs
drop_front [] bs = refl
drop_front (f ∷ fs) bs = drop_front fs bs

-- a list that has another behind it is turned to it
pub turned : {X : Type 0} (xs ys : List X) → drop (length xs) (xs ++ ys) ++ take (length xs) (xs ++ ys) ≡ ys ++ xs
turned xs ys = ap (λ zs. drop (length xs) (xs ++ ys) ++ zs) (take_front xs ys) ∙ ap (λ zs. zs ++ xs) (drop_front xs ys)

-- a list that is not turned yet
pub turn_none : {X : Type 0} (xs : List X) → xs ≡ drop 0 xs ++ take 0 xs
turn_none xs = sym (append-nil xs)

-- ---- trees, one more

module _ {D : Type 0} (disks : Ghosts D) (limits : Limits) where
  opens_more : (owners : List UserName) (used : List D) (trees : List (Held (tree.State D))) (owner : UserName) (disk : D) (held : Held (tree.State D)) → OpensTrees disks limits owners used trees → OpensTree disks limits owner disk held
      → OpensTrees disks limits (owners ++ owner ∷ []) (used ++ disk ∷ []) (trees ++ held ∷ [])
  opens_more [] [] [] owner disk held all one = (one, tt)
  opens_more (o ∷ os) (d ∷ ds) (h ∷ hs) owner disk held all one = (all.0, opens_more os ds hs owner disk held all.1 one)
  opens_more [] [] (h ∷ hs) owner disk held all one = absurd all
  opens_more [] (d ∷ ds) [] owner disk held all one = absurd all
  opens_more [] (d ∷ ds) (h ∷ hs) owner disk held all one = absurd all
  opens_more (o ∷ os) [] [] owner disk held all one = absurd all
  opens_more (o ∷ os) [] (h ∷ hs) owner disk held all one = absurd all
  opens_more (o ∷ os) (d ∷ ds) [] owner disk held all one = absurd all

  pub as_many_disks : (owners : List UserName) (used : List D) (trees : List (Held (tree.State D))) → OpensTrees disks limits owners used trees → length used ≡ length trees
  as_many_disks [] [] [] all = refl
  as_many_disks (o ∷ os) (d ∷ ds) (h ∷ hs) all = ap suc (as_many_disks os ds hs all.1)
  as_many_disks [] [] (h ∷ hs) all = absurd all
  as_many_disks [] (d ∷ ds) [] all = absurd all
  as_many_disks [] (d ∷ ds) (h ∷ hs) all = absurd all
  as_many_disks (o ∷ os) [] [] all = absurd all
  as_many_disks (o ∷ os) [] (h ∷ hs) all = absurd all
  as_many_disks (o ∷ os) (d ∷ ds) [] all = absurd all

  pub as_many_owners : (owners : List UserName) (used : List D) (trees : List (Held (tree.State D))) → OpensTrees disks limits owners used trees → length owners ≡ length trees
  as_many_owners [] [] [] all = refl
  as_many_owners (o ∷ os) (d ∷ ds) (h ∷ hs) all = ap suc (as_many_owners os ds hs all.1)
  as_many_owners [] [] (h ∷ hs) all = absurd all
  as_many_owners [] (d ∷ ds) [] all = absurd all
  as_many_owners [] (d ∷ ds) (h ∷ hs) all = absurd all
  as_many_owners (o ∷ os) [] [] all = absurd all
  as_many_owners (o ∷ os) [] (h ∷ hs) all = absurd all
  as_many_owners (o ∷ os) (d ∷ ds) [] all = absurd all

  pub opened_bases : (owners : List UserName) (used : List D) (trees : List (Held (tree.State D))) → OpensTrees disks limits owners used trees → AllByRecursion IsBase trees
  opened_bases [] [] [] all = tt
  opened_bases (o ∷ os) (d ∷ ds) (h ∷ hs) all = let base = all.0.base_is in (omega (arith, base), opened_bases os ds hs all.1)
  opened_bases [] [] (h ∷ hs) all = absurd all
  opened_bases [] (d ∷ ds) [] all = absurd all
  opened_bases [] (d ∷ ds) (h ∷ hs) all = absurd all
  opened_bases (o ∷ os) [] [] all = absurd all
  opened_bases (o ∷ os) [] (h ∷ hs) all = absurd all
  opened_bases (o ∷ os) (d ∷ ds) [] all = absurd all

  trees_were : (owners : List UserName) (used : List D) (trees : List (Held (tree.State D))) → OpensTrees disks limits owners used trees → WereOpened disks limits (map LogName.OfTree owners) used (map disk_of trees)
  trees_were [] [] [] all = tt
  trees_were (o ∷ os) (d ∷ ds) (h ∷ hs) all = (record { log = tree.over_journal h.state; opened = all.0.log; disk_is = refl }, trees_were os ds hs all.1)
  trees_were [] [] (h ∷ hs) all = absurd all
  trees_were [] (d ∷ ds) [] all = absurd all
  trees_were [] (d ∷ ds) (h ∷ hs) all = absurd all
  trees_were (o ∷ os) [] [] all = absurd all
  trees_were (o ∷ os) [] (h ∷ hs) all = absurd all
  trees_were (o ∷ os) (d ∷ ds) [] all = absurd all

  were_more : (logs : List LogName) (used after : List D) (log : LogName) (disk new : D) → WereOpened disks limits logs used after → WasOpenedAs disks limits log disk new → WereOpened disks limits (logs ++ log ∷ []) (used ++ disk ∷ []) (after ++ new ∷ [])
  were_more [] [] [] log disk new all one = (one, tt)
  were_more (o ∷ os) (d ∷ ds) (h ∷ hs) log disk new all one = (all.0, were_more os ds hs log disk new all.1 one)
  were_more [] [] (h ∷ hs) log disk new all one = absurd all
  were_more [] (d ∷ ds) [] log disk new all one = absurd all
  were_more [] (d ∷ ds) (h ∷ hs) log disk new all one = absurd all
  were_more (o ∷ os) [] [] log disk new all one = absurd all
  were_more (o ∷ os) [] (h ∷ hs) log disk new all one = absurd all
  were_more (o ∷ os) (d ∷ ds) [] log disk new all one = absurd all

  -- ---- the loop over the owners

  -- these owners are left
  pub record SoFar (owners : List UserName) (old new : List D) (left : List UserName) (trees : List (Held (tree.State D))) : Type 0 where
    pub before : List UserName
    pub owners_are : owners ≡ before ++ left
    pub used : List D
    pub taken : old ≡ used ++ new
    pub opened : OpensTrees disks limits before used trees

  pub none_opened : (owners : List UserName) (old : List D) (trees : List (Held (tree.State D))) → trees ≡ [] → SoFar owners old old owners trees
  none_opened owners old trees none = record { before = []; owners_are = refl; used = []; taken = refl; opened = subst (λ xs. OpensTrees disks limits [] [] xs) (sym none) tt }

  pub all_opened : (owners : List UserName) (old new left : List _) (trees : List (Held (tree.State D))) → SoFar owners old new left trees → left ≡ [] → TakesTrees disks limits owners old new trees
  all_opened owners old new left trees so_far none = record {
    used = so_far.used;
    taken = so_far.taken;
    opened = subst (λ os. OpensTrees disks limits os so_far.used trees) (sym (so_far.owners_are ∙ ap (λ xs. so_far.before ++ xs) none ∙ append-nil so_far.before)) so_far.opened;
  }

  pub one_opened : (owners : List UserName) (old new after : List D) (left rest : List UserName) (owner : UserName) (trees : List (Held (tree.State D))) (held : Held (tree.State D)) → SoFar owners old new left trees → left ≡ owner ∷ rest
      → TakesOne (OpensTree disks limits owner) (IsNoLog disks (tree.records_in owner) limits) new after (Ok held) → SoFar owners old after rest (trees ++ held ∷ [])
  one_opened owners old new after left rest owner trees held so_far is takes = record {
    before = so_far.before ++ owner ∷ [];
    owners_are = so_far.owners_are ∙ ap (λ xs. so_far.before ++ xs) is ∙ sym (append_assoc so_far.before (owner ∷ []) rest);
    used = so_far.used ++ takes.disk ∷ [];
    taken = so_far.taken ∙ ap (λ xs. so_far.used ++ xs) takes.taken ∙ sym (append_assoc so_far.used (takes.disk ∷ []) after);
    opened = opens_more so_far.before so_far.used trees owner takes.disk held so_far.opened takes.opened;
  }

  pub one_refused : (owners : List UserName) (old new after : List D) (left rest : List UserName) (owner : UserName) (trees : List (Held (tree.State D))) (fault : OpenFault D) → SoFar owners old new left trees → left ≡ owner ∷ rest
      → TakesOne (OpensTree disks limits owner) (IsNoLog disks (tree.records_in owner) limits) new after (Err fault) → StopsAtTree disks limits owners old after trees fault
  one_refused owners old new after left rest owner trees fault so_far is takes = record {
    before = so_far.before;
    owner = owner;
    behind = rest;
    owners_are = so_far.owners_are ∙ ap (λ xs. so_far.before ++ xs) is;
    used = so_far.used;
    disk = takes.disk;
    taken = so_far.taken ∙ ap (λ xs. so_far.used ++ xs) takes.taken;
    opened = so_far.opened;
    refused = takes.refused;
  }

  -- ---- a refusal

  length_map : {X Y : Type 0} (f : X → Y) (xs : List X) → length (map f xs) ≡ length xs
  length_map f [] = refl
  length_map f (x ∷ xs) = ap suc (length_map f xs)

  others : List LogName
  others = LogName.OfStore ∷ LogName.OfKeys ∷ []

  pub tree_refused : (owners : List UserName) (given room : List D) (trees : List (Held (tree.State D))) (refused : OpenFault D) (fault : HostFault D) → StopsAtTree disks limits owners given room trees refused
      → fault.disks.disks ≡ map disk_of trees ++ refused.disk ∷ room → fault.which ≡ place_by (length trees) refused.why → fault.why ≡ refused.why → RefusesHost disks limits owners given fault
  unfolding others
  tree_refused owners given room trees refused fault stops handed which why = inr (record {
    before = map LogName.OfTree stops.before;
    log = LogName.OfTree stops.owner;
    behind = map LogName.OfTree stops.behind ++ others;
    logs_are = ap (λ xs. map LogName.OfTree xs ++ others) stops.owners_are
        ∙ ap (λ xs. xs ++ others) (map-append LogName.OfTree stops.before (stops.owner ∷ stops.behind))
        ∙ append_assoc (map LogName.OfTree stops.before) (map LogName.OfTree (stops.owner ∷ stops.behind)) others;
    used = stops.used;
    disk = stops.disk;
    rest = room;
    given_is = stops.taken;
    opened = map disk_of trees;
    refused = refused;
    handed = handed;
    were_opened = trees_were stops.before stops.used trees stops.opened;
    was_refused = stops.refused;
    why_is = why;
    which_is = which ∙ ap (λ n. place_by n refused.why) (sym (length_map LogName.OfTree stops.before ∙ as_many_owners stops.before stops.used trees stops.opened));
  })

  pub store_refused : (owners : List UserName) (given room rest : List D) (trees : List (Held (tree.State D))) (refused : OpenFault D) (fault : HostFault D) → TakesTrees disks limits owners given room trees
      → TakesOne (OpensHeld disks blocks.blocks_in (store_limits limits)) (IsNoLog disks blocks.blocks_in (store_limits limits)) room rest (Err refused)
      → fault.disks.disks ≡ map disk_of trees ++ refused.disk ∷ rest → fault.which ≡ place_by (length trees) refused.why → fault.why ≡ refused.why → RefusesHost disks limits owners given fault
  store_refused owners given room rest trees refused fault takes one handed which why = inr (record {
    before = map LogName.OfTree owners;
    log = LogName.OfStore;
    behind = LogName.OfKeys ∷ [];
    logs_are = refl;
    used = takes.used;
    disk = one.disk;
    rest = rest;
    given_is = takes.taken ∙ ap (λ xs. takes.used ++ xs) one.taken;
    opened = map disk_of trees;
    refused = refused;
    handed = handed;
    were_opened = trees_were owners takes.used trees takes.opened;
    was_refused = one.refused;
    why_is = why;
    which_is = which ∙ ap (λ n. place_by n refused.why) (sym (length_map LogName.OfTree owners ∙ as_many_owners owners takes.used trees takes.opened));
  })

  pub keys_refused : (owners : List UserName) (given room rest last : List D) (trees : List (Held (tree.State D))) (store : Held (LogState D BlockRecord)) (refused : OpenFault D) (fault : HostFault D) → TakesTrees disks limits owners given room trees
      → TakesOne (OpensHeld disks blocks.blocks_in (store_limits limits)) (IsNoLog disks blocks.blocks_in (store_limits limits)) room rest (Ok store)
      → TakesOne (OpensHeld disks keys.records_in limits) (IsNoLog disks keys.records_in limits) rest last (Err refused)
      → last ≡ [] → fault.disks.disks ≡ map disk_of trees ++ store.state.disk ∷ refused.disk ∷ [] → fault.which ≡ place_by (length trees + 1) refused.why → fault.why ≡ refused.why → RefusesHost disks limits owners given fault
  keys_refused owners given room rest last trees store refused fault takes one two none handed which why = inr (record {
    before = map LogName.OfTree owners ++ LogName.OfStore ∷ [];
    log = LogName.OfKeys;
    behind = [];
    logs_are = sym (append_assoc (map LogName.OfTree owners) (LogName.OfStore ∷ []) (LogName.OfKeys ∷ []));
    used = takes.used ++ one.disk ∷ [];
    disk = two.disk;
    rest = last;
    given_is = takes.taken ∙ ap (λ xs. takes.used ++ xs) (one.taken ∙ ap (λ xs. one.disk ∷ xs) two.taken) ∙ sym (append_assoc takes.used (one.disk ∷ []) (two.disk ∷ last));
    opened = map disk_of trees ++ store.state.disk ∷ [];
    refused = refused;
    handed = handed ∙ ap (λ xs. map disk_of trees ++ store.state.disk ∷ refused.disk ∷ xs) (sym none) ∙ sym (append_assoc (map disk_of trees) (store.state.disk ∷ []) (refused.disk ∷ last));
    were_opened = were_more (map LogName.OfTree owners) takes.used (map disk_of trees) LogName.OfStore one.disk store.state.disk (trees_were owners takes.used trees takes.opened)
        (record { log = store.state; opened = one.opened.log; disk_is = refl });
    was_refused = two.refused;
    why_is = why;
    which_is = which ∙ ap (λ n. place_by n refused.why) (sym (length-append (map LogName.OfTree owners) (LogName.OfStore ∷ []) ∙ ap (λ n. n + 1) (length_map LogName.OfTree owners ∙ as_many_owners owners takes.used trees takes.opened)));
  })

  pub logs_opened : (owners : List UserName) (given room rest last : List D) (trees : List (Held (tree.State D))) (store : Held (LogState D BlockRecord)) (key_log : Held (LogState D KeyRecord)) → TakesTrees disks limits owners given room trees
      → TakesOne (OpensHeld disks blocks.blocks_in (store_limits limits)) (IsNoLog disks blocks.blocks_in (store_limits limits)) room rest (Ok store)
      → TakesOne (OpensHeld disks keys.records_in limits) (IsNoLog disks keys.records_in limits) rest last (Ok key_log)
      → last ≡ [] → OpensLogs disks limits owners given trees store key_log
  logs_opened owners given room rest last trees store key_log takes one two none = record {
    of_trees = takes.used;
    of_store = one.disk;
    of_keys = two.disk;
    given_is = takes.taken ∙ ap (λ xs. takes.used ++ xs) (one.taken ∙ ap (λ xs. one.disk ∷ xs) (two.taken ∙ ap (λ xs. two.disk ∷ xs) none));
    trees_are = takes.opened;
    store_is = one.opened;
    keys_are = two.opened;
  }
