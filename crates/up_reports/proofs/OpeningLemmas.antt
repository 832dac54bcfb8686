-- The disks of a stopped server, as they are opened and put back.
use Rattle.std.proofs.Common.{◌≡◌, ◌<◌, ◌+◌, ℕ, zero, suc, List, [], ◌∷◌, ◌++◌, length, map, take, drop, refl, sym, ap, subst, ◌∙◌, inl, inr, arith, add-one, append_assoc, append-nil, length-append, Result, Ok, Err}
use Rattle.up_blocks.specs.Records as blocks
use Rattle.up_blocks.specs.declared.record.BlockRecord.{BlockRecord}
use Rattle.up_disk.specs.declared.disk.Disk.{Ghosts}
use Rattle.up_journal.specs.Logs.{LogState}
use Rattle.up_journal.specs.declared.fault.OpenFault.{OpenFault}
use Rattle.up_journal.specs.declared.limits.Limits.{Limits}
use Rattle.up_names.specs.Texts.{UserName}
use Rattle.up_reports.specs.Opens.{IsNoLog, LogKind, OpensLogs, OpensStore, OpensTree, OpensTrees, RefusesLogs, StopsAtTree, TakesOne, TakesTrees, WereOpened, disk_of, logs_of, store_limits, trees_of}
use Rattle.up_reports.specs.declared.refused.Refused.{Refused}
use Rattle.up_tree.specs.States as tree

-- ---- lists

-- the element at a place is the first one of what is left
next_of : {X : Type 0} (xs : List X) (i : ℕ) → i < length xs → (x : X) × (drop i xs ≡ x ∷ drop (suc i) xs) × (take (suc i) xs ≡ take i xs ++ x ∷ [])
next_of [] i h = absurd (omega (arith, h))
next_of (x ∷ xs) zero h = (x, refl, refl)
next_of (x ∷ xs) (suc i) h = let rest = next_of xs i (omega (arith, h)) in (rest.0, rest.1, ap (λ ys. x ∷ ys) rest.2)

-- a list that is turned by i elements is turned by one more
pub turn_step : {X : Type 0} (xs room rest : List X) (i : ℕ) (x : X) → i < length xs → room ≡ drop i xs ++ take i xs → room ≡ x ∷ rest → rest ++ x ∷ [] ≡ drop (i + 1) xs ++ take (i + 1) xs
turn_step xs room rest i x h is taken =
    let next = next_of xs i h in
    let whole : x ∷ rest ≡ next.0 ∷ (drop (suc i) xs ++ take i xs) = sym taken ∙ is ∙ ap (λ ys. ys ++ take i xs) next.1 in
    let first : x ≡ next.0 = cc in
    let others : rest ≡ drop (suc i) xs ++ take i xs = cc in
    ap (λ ys. ys ++ x ∷ []) others
    ∙ append_assoc (drop (suc i) xs) (take i xs) (x ∷ [])
    ∙ ap (λ y. drop (suc i) xs ++ (take i xs ++ y ∷ [])) first
    ∙ ap (λ ys. drop (suc i) xs ++ ys) (sym next.2)
    ∙ ap (λ n. drop n xs ++ take n xs) (sym (add-one i))

take_front : {X : Type 0} (fs bs : List X) → take (length fs) (fs ++ bs) ≡ fs
take_front [] bs = refl
take_front (f ∷ fs) bs = ap (λ zs. f ∷ zs) (take_front fs bs)

drop_front : {X : Type 0} (fs bs : List X) → drop (length fs) (fs ++ bs) ≡ bs
drop_front [] bs = refl
drop_front (f ∷ fs) bs = drop_front fs bs

-- a list that has another behind it is turned to it
turned : {X : Type 0} (xs ys : List X) → drop (length xs) (xs ++ ys) ++ take (length xs) (xs ++ ys) ≡ ys ++ xs
turned xs ys = ap (λ zs. drop (length xs) (xs ++ ys) ++ zs) (take_front xs ys) ∙ ap (λ zs. zs ++ xs) (drop_front xs ys)

-- a list that is not turned yet
pub turn_none : {X : Type 0} (xs : List X) → xs ≡ drop 0 xs ++ take 0 xs
turn_none xs = sym (append-nil xs)

-- those of the opened trees and the refused one, and then the others
pub in_order : {X : Type 0} (front rest given back all : List X) (x : X) (n : ℕ) → given ≡ front ++ rest → back ≡ given ++ x ∷ [] → n ≡ length front → all ≡ drop n back ++ take n back → all ≡ rest ++ x ∷ front
in_order front rest given back all x n is then many turn =
    let whole : back ≡ front ++ (rest ++ x ∷ []) = then ∙ ap (λ xs. xs ++ x ∷ []) is ∙ append_assoc front rest (x ∷ []) in
    turn ∙ ap (λ xs. drop n xs ++ take n xs) whole ∙ ap (λ m. drop m (front ++ (rest ++ x ∷ [])) ++ take m (front ++ (rest ++ x ∷ []))) many
    ∙ turned front (rest ++ x ∷ []) ∙ append_assoc rest (x ∷ []) front

none_of : {X : Type 0} (xs : List X) → length xs ≡ 0 → xs ≡ []
none_of [] h = refl
none_of (x ∷ xs) h = absurd (omega (arith, h))

length_map : {X Y : Type 0} (f : X → Y) (xs : List X) → length (map f xs) ≡ length xs
length_map f [] = refl
length_map f (x ∷ xs) = ap suc (length_map f xs)

map_append : {X Y : Type 0} (f : X → Y) (xs ys : List X) → map f (xs ++ ys) ≡ map f xs ++ map f ys
map_append f [] ys = refl
map_append f (x ∷ xs) ys = ap (λ zs. f x ∷ zs) (map_append f xs ys)

-- ---- trees, one more

module _ {D : Type 0} (disks : Ghosts D) (limits : Limits) where
  opens_more : (owners : List UserName) (used : List D) (trees : List (tree.State D)) (owner : UserName) (disk : D) (state : tree.State D) → OpensTrees disks limits owners used trees → OpensTree disks limits owner disk state
      → OpensTrees disks limits (owners ++ owner ∷ []) (used ++ disk ∷ []) (trees ++ state ∷ [])
  opens_more [] [] [] owner disk state all one = (one, tt)
  opens_more (o ∷ os) (d ∷ ds) (h ∷ hs) owner disk state all one = (all.0, opens_more os ds hs owner disk state all.1 one)
  opens_more [] [] (h ∷ hs) owner disk state all one = absurd all
  opens_more [] (d ∷ ds) [] owner disk state all one = absurd all
  opens_more [] (d ∷ ds) (h ∷ hs) owner disk state all one = absurd all
  opens_more (o ∷ os) [] [] owner disk state all one = absurd all
  opens_more (o ∷ os) [] (h ∷ hs) owner disk state all one = absurd all
  opens_more (o ∷ os) (d ∷ ds) [] owner disk state all one = absurd all

  pub as_many_disks : (owners : List UserName) (used : List D) (trees : List (tree.State D)) → OpensTrees disks limits owners used trees → length used ≡ length trees
  as_many_disks [] [] [] all = refl
  as_many_disks (o ∷ os) (d ∷ ds) (h ∷ hs) all = ap suc (as_many_disks os ds hs all.1)
  as_many_disks [] [] (h ∷ hs) all = absurd all
  as_many_disks [] (d ∷ ds) [] all = absurd all
  as_many_disks [] (d ∷ ds) (h ∷ hs) all = absurd all
  as_many_disks (o ∷ os) [] [] all = absurd all
  as_many_disks (o ∷ os) [] (h ∷ hs) all = absurd all
  as_many_disks (o ∷ os) (d ∷ ds) [] all = absurd all

  pub as_many_owners : (owners : List UserName) (used : List D) (trees : List (tree.State D)) → OpensTrees disks limits owners used trees → length owners ≡ length trees
  as_many_owners [] [] [] all = refl
  as_many_owners (o ∷ os) (d ∷ ds) (h ∷ hs) all = ap suc (as_many_owners os ds hs all.1)
  as_many_owners [] [] (h ∷ hs) all = absurd all
  as_many_owners [] (d ∷ ds) [] all = absurd all
  as_many_owners [] (d ∷ ds) (h ∷ hs) all = absurd all
  as_many_owners (o ∷ os) [] [] all = absurd all
  as_many_owners (o ∷ os) [] (h ∷ hs) all = absurd all
  as_many_owners (o ∷ os) (d ∷ ds) [] all = absurd all

  trees_were : (owners : List UserName) (used : List D) (trees : List (tree.State D)) → OpensTrees disks limits owners used trees → WereOpened disks limits (trees_of owners) used (map disk_of trees)
  trees_were [] [] [] all = tt
  trees_were (o ∷ os) (d ∷ ds) (h ∷ hs) all = (record { log = tree.over_journal h; opened = all.0.log; disk_is = refl }, trees_were os ds hs all.1)
  trees_were [] [] (h ∷ hs) all = absurd all
  trees_were [] (d ∷ ds) [] all = absurd all
  trees_were [] (d ∷ ds) (h ∷ hs) all = absurd all
  trees_were (o ∷ os) [] [] all = absurd all
  trees_were (o ∷ os) [] (h ∷ hs) all = absurd all
  trees_were (o ∷ os) (d ∷ ds) [] all = absurd all

  -- ---- the loop over the owners

  -- these owners are left
  pub record SoFar (owners : List UserName) (given now : List D) (left : List UserName) (trees : List (tree.State D)) : Type 0 where
    pub before : List UserName
    pub owners_are : owners ≡ before ++ left
    pub used : List D
    pub taken : given ≡ used ++ now
    pub opened : OpensTrees disks limits before used trees

  pub none_opened : (owners : List UserName) (given : List D) (trees : List (tree.State D)) → trees ≡ [] → SoFar owners given given owners trees
  none_opened owners given trees none = record { before = []; owners_are = refl; used = []; taken = refl; opened = subst (λ xs. OpensTrees disks limits [] [] xs) (sym none) tt }

  pub all_opened : (owners : List UserName) (given now left : List _) (trees : List (tree.State D)) → SoFar owners given now left trees → left ≡ [] → TakesTrees disks limits owners given now trees
  all_opened owners given now left trees so_far none = record {
    used = so_far.used;
    given_is = so_far.taken;
    opened = subst (λ os. OpensTrees disks limits os so_far.used trees) (sym (so_far.owners_are ∙ ap (λ xs. so_far.before ++ xs) none ∙ append-nil so_far.before)) so_far.opened;
  }

  pub one_opened : (owners : List UserName) (given now after : List D) (left rest : List UserName) (owner : UserName) (trees : List (tree.State D)) (state : tree.State D) → SoFar owners given now left trees → left ≡ owner ∷ rest
      → TakesOne (OpensTree disks limits owner) (IsNoLog disks (tree.records_in owner) limits) now after (Ok state) → SoFar owners given after rest (trees ++ state ∷ [])
  one_opened owners given now after left rest owner trees state so_far is takes = record {
    before = so_far.before ++ owner ∷ [];
    owners_are = so_far.owners_are ∙ ap (λ xs. so_far.before ++ xs) is ∙ sym (append_assoc so_far.before (owner ∷ []) rest);
    used = so_far.used ++ takes.disk ∷ [];
    taken = so_far.taken ∙ ap (λ xs. so_far.used ++ xs) takes.taken ∙ sym (append_assoc so_far.used (takes.disk ∷ []) after);
    opened = opens_more so_far.before so_far.used trees owner takes.disk state so_far.opened takes.opened;
  }

  pub one_refused : (owners : List UserName) (given now after : List D) (left rest : List UserName) (owner : UserName) (trees : List (tree.State D)) (fault : OpenFault D) → SoFar owners given now left trees → left ≡ owner ∷ rest
      → TakesOne (OpensTree disks limits owner) (IsNoLog disks (tree.records_in owner) limits) now after (Err fault) → StopsAtTree disks limits owners given after trees fault
  one_refused owners given now after left rest owner trees fault so_far is takes = record {
    before = so_far.before;
    owner = owner;
    behind = rest;
    owners_are = so_far.owners_are ∙ ap (λ xs. so_far.before ++ xs) is;
    used = so_far.used;
    disk = takes.disk;
    taken = so_far.taken ∙ ap (λ xs. so_far.used ++ xs) takes.taken;
    opened = so_far.opened;
    refused = takes.refused;
  }

  -- ---- a refusal

  pub tree_refused : (owners : List UserName) (given room now : List D) (trees : List (tree.State D)) (fault : OpenFault D) (refused : Refused) → StopsAtTree disks limits owners given room trees fault
      → now ≡ map disk_of trees ++ fault.disk ∷ room → refused ≡ record { which = length trees; why = fault.why } → RefusesLogs disks limits (trees_of owners) given now refused
  tree_refused owners given room now trees fault refused stops back is = inr (record {
    before = trees_of stops.before;
    log = LogKind.OfTree stops.owner;
    behind = trees_of stops.behind;
    logs_are = ap trees_of stops.owners_are ∙ map_append LogKind.OfTree stops.before (stops.owner ∷ stops.behind);
    used = stops.used;
    disk = stops.disk;
    rest = room;
    given_is = stops.taken;
    opened = map disk_of trees;
    fault = fault;
    back_is = back;
    were_opened = trees_were stops.before stops.used trees stops.opened;
    was_refused = stops.refused;
    refused_is = is ∙ ap (λ n. record { which = n; why = fault.why }) (sym (length_map LogKind.OfTree stops.before ∙ as_many_owners stops.before stops.used trees stops.opened));
  })

  -- so are all logs, among which those of the trees are
  pub trees_refused : (owners : List UserName) (given now : List D) (refused : Refused) → RefusesLogs disks limits (trees_of owners) given now refused → RefusesLogs disks limits (logs_of owners) given now refused
  trees_refused owners given now refused (inl none) = inl none
  trees_refused owners given now refused (inr one) = inr (record {
    before = one.before;
    log = one.log;
    behind = one.behind ++ LogKind.OfStore ∷ [];
    logs_are = ap (λ xs. xs ++ LogKind.OfStore ∷ []) one.logs_are ∙ append_assoc one.before (one.log ∷ one.behind) (LogKind.OfStore ∷ []);
    used = one.used;
    disk = one.disk;
    rest = one.rest;
    given_is = one.given_is;
    opened = one.opened;
    fault = one.fault;
    back_is = one.back_is;
    were_opened = one.were_opened;
    was_refused = one.was_refused;
    refused_is = one.refused_is;
  })

  pub store_refused : (owners : List UserName) (given room rest now : List D) (trees : List (tree.State D)) (fault : OpenFault D) (refused : Refused) → TakesTrees disks limits owners given room trees
      → TakesOne (OpensStore disks limits) (IsNoLog disks blocks.blocks_in (store_limits limits)) room rest (Err fault)
      → now ≡ map disk_of trees ++ fault.disk ∷ rest → refused ≡ record { which = length trees; why = fault.why } → RefusesLogs disks limits (logs_of owners) given now refused
  store_refused owners given room rest now trees fault refused takes one back is = inr (record {
    before = trees_of owners;
    log = LogKind.OfStore;
    behind = [];
    logs_are = refl;
    used = takes.used;
    disk = one.disk;
    rest = rest;
    given_is = takes.given_is ∙ ap (λ xs. takes.used ++ xs) one.taken;
    opened = map disk_of trees;
    fault = fault;
    back_is = back;
    were_opened = trees_were owners takes.used trees takes.opened;
    was_refused = one.refused;
    refused_is = is ∙ ap (λ n. record { which = n; why = fault.why }) (sym (length_map LogKind.OfTree owners ∙ as_many_owners owners takes.used trees takes.opened));
  })

  pub logs_opened : (owners : List UserName) (given room rest : List D) (trees : List (tree.State D)) (store : LogState D BlockRecord) → TakesTrees disks limits owners given room trees
      → TakesOne (OpensStore disks limits) (IsNoLog disks blocks.blocks_in (store_limits limits)) room rest (Ok store)
      → rest ≡ [] → OpensLogs disks limits owners given trees store
  logs_opened owners given room rest trees store takes one none = record {
    of_trees = takes.used;
    of_store = one.disk;
    given_is = takes.given_is ∙ ap (λ xs. takes.used ++ xs) (one.taken ∙ ap (λ xs. one.disk ∷ xs) none);
    trees_are = takes.opened;
    store_is = one.opened;
  }

  -- ---- how many there are

  -- the room for the disks of the trees and of the refused one
  pub stops_spare : (owners : List UserName) (given room : List D) (trees : List (tree.State D)) (fault : OpenFault D) (before after : ℕ) → StopsAtTree disks limits owners given room trees fault
      → after + length room ≡ before + length given → after ≡ before + (length trees + 1)
  stops_spare owners given room trees fault before after stops kept =
      let many = as_many_disks stops.before stops.used trees stops.opened in
      let long : length given ≡ length stops.used + (length room + 1) = ap length stops.taken ∙ length-append stops.used (stops.disk ∷ room) ∙ ap (λ n. length stops.used + n) (sym (add-one (length room))) in
      omega (arith, many, long, kept)

  -- the room for the disks of the trees
  pub takes_spare : (owners : List UserName) (given room : List D) (trees : List (tree.State D)) (before after : ℕ) → TakesTrees disks limits owners given room trees
      → after + length room ≡ before + length given → after ≡ before + length trees
  takes_spare owners given room trees before after takes kept =
      let many = as_many_disks owners takes.used trees takes.opened in
      let long : length given ≡ length takes.used + length room = ap length takes.given_is ∙ length-append takes.used room in
      omega (arith, many, long, kept)

  -- one disk is left for the store
  pub store_left : (owners : List UserName) (given room : List D) (trees : List (tree.State D)) → TakesTrees disks limits owners given room trees → length given ≡ length owners + 1 → length room ≡ 1
  store_left owners given room trees takes all =
      let many = as_many_disks owners takes.used trees takes.opened in
      let same = as_many_owners owners takes.used trees takes.opened in
      let long : length given ≡ length takes.used + length room = ap length takes.given_is ∙ length-append takes.used room in
      omega (arith, many, same, long, all)

  -- and none behind it
  pub none_left : {S : Type 0} (opens : D → S → Type 0) (refuses : D → OpenFault D → Type 0) (room rest : List D) (result : Result S (OpenFault D)) → TakesOne opens refuses room rest result → length room ≡ 1 → rest ≡ []
  none_left opens refuses room rest result takes many =
      let long : length room ≡ length rest + 1 = ap length takes.taken ∙ sym (add-one (length rest)) in
      none_of rest (omega (arith, long, many))
