-- The logs of a storm's host as it is opened: all are empty.
use Rattle.std.proofs.Common.{◌≡◌, ◌≤◌, ℕ, true, cond, List, [], ◌∷◌, ◌++◌, length, refl, sym, ap, subst, ◌∙◌, arith, Option, Some, None, IfSome, is_some}
use Rattle.std.specs.Prelude.{codes, Result, Ok}
use Rattle.std.specs.List.{AllByRecursion, find}
use Rattle.std.specs.Option.{option_map}
use Rattle.std.specs.Str.{bytes_eq}
use Rattle.up_blocks.specs.Records.{blocks_in}
use Rattle.up_blocks.specs.declared.record.BlockRecord.{BlockRecord}
use Rattle.up_disk.specs.Leaving.{IsBlank}
use Rattle.up_disk.specs.declared.disk.Disk.{Ghosts}
use Rattle.up_host.specs.Alone.{HostState, is_of, tree_for, tree_view, views}
use Rattle.up_host.specs.Opens.{OpensTree, OpensTrees, store_limits}
use Rattle.up_host.specs.declared.held.Held.{Held}
use Rattle.up_journal.specs.Damages.{Damage}
use Rattle.up_journal.specs.Format2.{log_of}
use Rattle.up_journal.specs.Records.{state_of}
use Rattle.up_journal.specs.declared.limits.Limits.{Limits}
use Rattle.up_names.specs.Texts.{UserName}
use Rattle.up_storm.proofs.KeptBlocks.{AreAccessBlocks}
use Rattle.up_storm.proofs.PreparedReadings.{of_owners}
use Rattle.up_storm.proofs.PreparedStages.{StoreStage, TreeNew}
use Rattle.up_storm.specs.Asked.{owner_text}
use Rattle.up_storm.specs.Preparing.{IsOpened, storm_limits}
use Rattle.up_tree.specs.States.{State, fixed_of, records_in}

-- what two equal results have inside is one
ok_same : {X E : Type 0} (x y : X) → ◌≡◌ {A = Result X E} (Ok x) (Ok y) → x ≡ y
ok_same x y h = cc

-- an empty image has no records
empty_tree : (owner : UserName) (largest : ℕ) → records_in owner largest [] ≡ Ok []
unfolding state_of log_of
empty_tree owner largest = refl

-- and no blocks
empty_store : (largest : ℕ) → blocks_in largest [] ≡ Ok []
unfolding state_of log_of
empty_store largest = refl

-- what a log has that was opened on an empty disk
log_empty : {R : Type 0} (read : List ℕ → Result (List R) Damage) (content : Option (List ℕ)) (log : List R) → read [] ≡ Ok [] → content ≡ Some [] → IfSome content (λ bytes. read bytes ≡ Ok log) → log ≡ []
log_empty read content log none blank told =
    let is : read [] ≡ Ok log = subst (λ (o : Option (List ℕ)). IfSome o (λ bytes. read bytes ≡ Ok log)) blank told in
    ok_same log [] (sym is ∙ none)

-- what holds of each of a front and what stands behind it
all_front_of : {X : Type 0} (P : X → Type 0) (xs ys : List X) → AllByRecursion P (xs ++ ys) → AllByRecursion P xs
all_front_of P [] ys h = tt
all_front_of P (x ∷ xs) ys h = (h.0, all_front_of P xs ys h.1)

-- what holds of each of a list holds of each behind a front of it
all_behind : {X : Type 0} (P : X → Type 0) (xs ys : List X) → AllByRecursion P (xs ++ ys) → AllByRecursion P ys
all_behind P [] ys h = h
all_behind P (x ∷ xs) ys h = all_behind P xs ys h.1

module _ {D : Type 0} (disks : Ghosts D) where
  -- an owner's tree was opened, and is empty
  record OpenedTree (trees : List (Held (State D))) (owner : UserName) : Type 0 where
    held : Held (State D)
    found : tree_for trees owner ≡ Some held
    empty : held.state.log ≡ []
    fixed : fixed_of held.state ≡ (owner, storm_limits)

  -- a tree that was opened on an empty disk is empty
  new_tree : (owner : UserName) (disk : D) (held : Held (State D)) (trees : List (Held (State D))) → OpensTree disks storm_limits owner disk held → IsBlank disks disk → tree_for trees owner ≡ Some held → OpenedTree trees owner
  new_tree owner disk held trees opens blank found = record {
    held = held;
    found = found;
    empty = log_empty (records_in owner storm_limits.largest) (disks.content disk) held.state.log (empty_tree owner storm_limits.largest) blank.empty opens.log.opens.log;
    fixed = ap (λ (o : UserName). (o, held.state.limits)) opens.owner_is ∙ ap (λ (l : Limits). (owner, l)) opens.log.opens.limits_are;
  }

  -- both trees are
  two_trees : (of_trees : List D) (trees : List (Held (State D))) → OpensTrees disks storm_limits (codes "a@storm.example" ∷ codes "b@storm.example" ∷ []) of_trees trees → AllByRecursion (IsBlank disks) of_trees
      → (c : ℕ) → OpenedTree trees (owner_text c)
  two_trees (one ∷ (two ∷ [])) (first ∷ (second ∷ [])) opens blank c =
      of_owners (λ (o : UserName). OpenedTree (first ∷ (second ∷ [])) o)
      (new_tree (codes "a@storm.example") one first (first ∷ (second ∷ [])) opens.0 blank.0
      (ap (λ (o : UserName). cond (bytes_eq o (codes "a@storm.example")) (Some first) (find (is_of (codes "a@storm.example")) (second ∷ []))) opens.0.owner_is))
      (new_tree (codes "b@storm.example") two second (first ∷ (second ∷ [])) opens.1.0 blank.1.0
      (ap (λ (o : UserName). cond (bytes_eq o (codes "b@storm.example")) (Some first) (find (is_of (codes "b@storm.example")) (second ∷ []))) opens.0.owner_is
      ∙ ap (λ (o : UserName). cond (bytes_eq o (codes "b@storm.example")) (Some second) None) opens.1.0.owner_is)) c
  two_trees [] [] opens blank c = absurd opens
  two_trees [] (h ∷ trees) opens blank c = absurd opens
  two_trees (d ∷ of_trees) [] opens blank c = absurd opens
  two_trees (d ∷ []) (h ∷ []) opens blank c = absurd opens.1
  two_trees (d ∷ []) (h ∷ (g ∷ trees)) opens blank c = absurd opens.1
  two_trees (d ∷ (e ∷ of_trees)) (h ∷ []) opens blank c = absurd opens.1
  two_trees (d ∷ (e ∷ [])) (h ∷ (g ∷ (f ∷ trees))) opens blank c = absurd opens.1.1
  two_trees (d ∷ (e ∷ (i ∷ of_trees))) (h ∷ (g ∷ [])) opens blank c = absurd opens.1.1
  two_trees (d ∷ (e ∷ (i ∷ of_trees))) (h ∷ (g ∷ (f ∷ trees))) opens blank c = absurd opens.1.1

  module _ (host : HostState D) (opened : IsOpened disks host) where
    -- all disks were empty
    all_blank : AllByRecursion (IsBlank disks) (opened.opens.logs.of_trees ++ opened.opens.logs.of_store ∷ opened.opens.logs.of_keys ∷ [])
    all_blank = subst (λ (ds : List D). AllByRecursion (IsBlank disks) ds) opened.opens.logs.given_is opened.blank

    -- that of the store too
    store_blank : IsBlank disks opened.opens.logs.of_store
    store_blank = (all_behind (IsBlank disks) opened.opens.logs.of_trees (opened.opens.logs.of_store ∷ opened.opens.logs.of_keys ∷ []) all_blank).0

    -- each tree is new
    pub trees_new : (c : ℕ) → TreeNew (views disks host) c
    trees_new c =
        let tree = two_trees opened.opens.logs.of_trees host.trees opened.opens.logs.trees_are
        (all_front_of (IsBlank disks) opened.opens.logs.of_trees (opened.opens.logs.of_store ∷ opened.opens.logs.of_keys ∷ []) all_blank) c in
        record {
          v = tree_view disks tree.held;
          there = ap (λ (o : Option (Held (State D))). option_map (tree_view disks) o) tree.found;
          fixed = tree.fixed;
          empty = tree.empty;
        }

    -- the store keeps nothing
    pub store_new : StoreStage (views disks host) 0
    store_new =
        let empty : host.store.state.log ≡ [] = log_empty (blocks_in (store_limits storm_limits).largest) (disks.content opened.opens.logs.of_store) host.store.state.log (empty_store (store_limits storm_limits).largest)
        store_blank.empty opened.opens.logs.store_is.log.opens.log in
        record {
          fixed = opened.opens.logs.store_is.log.opens.limits_are;
          blocks = subst (λ (log : List BlockRecord). AreAccessBlocks 0 log) (sym empty) tt;
          few = subst (λ (log : List BlockRecord). length log ≤ 0) (sym empty) (omega arith);
        }

    -- and its disk tells what it has
    pub store_tells : is_some (disks.content host.store.state.disk) ≡ true
    store_tells = opened.opens.logs.store_is.log.opened.told ∙ ap (λ (o : Option (List ℕ)). is_some o) store_blank.empty
