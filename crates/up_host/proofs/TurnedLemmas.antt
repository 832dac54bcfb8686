-- What one turn of a log of a host tells its caller.
use Rattle.std.proofs.Common.{◌≡◌, ◌≤◌, ℕ, List, length, refl, sym, ap, subst, ◌∙◌, true, inl, inr, Option, Some, None, Result, Ok, Err, option_map, slice_get, slice_set}
use Rattle.std.specs.Prelude.{IfOk, is_some, position}
use Rattle.std.proofs.lemmas.Bool.{false≢true}
use Rattle.up_answers.specs.Fetching.{Fetched}
use Rattle.up_blocks.specs.Blocks as blocks
use Rattle.up_blocks.specs.declared.record.BlockRecord.{BlockRecord}
use Rattle.up_calls.proofs.KeptLemmas.{missing_then, seen_whole}
use Rattle.up_calls.proofs.SettledLemmas.{tried_settled}
use Rattle.up_calls.proofs.StepLemmas.{block_told, keys_told, store_told, turn_told}
use Rattle.up_calls.specs.Blocks.{IsFromStore}
use Rattle.up_calls.specs.Calls.{KeysTurn, StoreTurn}
use Rattle.up_calls.specs.Kept.{KeepsSeen, where_missing}
use Rattle.up_calls.specs.Routes.{LogName, Question}
use Rattle.up_calls.specs.Services.{key_fault, store_fault}
use Rattle.up_calls.specs.Steps.{BlockRead, KeysTried, StoreReads, StoreTried, Tried}
use Rattle.up_calls.specs.Told.{LogTold, TreeTold, answered_at}
use Rattle.up_calls.specs.Views.{SeenTree}
use Rattle.up_calls.specs.declared.logs.Turn.{Turn}
use Rattle.up_calls.specs.declared.logs.Turn.TheVariants as turn
use Rattle.up_disk.specs.declared.disk.Disk.{Ghosts}
use Rattle.up_ends.specs.Growing.{OnlyGrows}
use Rattle.up_entry.specs.declared.fetch.Fetch.{Fetch}
use Rattle.up_entry.specs.declared.fetch.Fetch.TheVariants as fetch
use Rattle.up_foreign.specs.Kept.{Keeps}
use Rattle.up_foreign.specs.declared.kept.KeptSearch.{KeptSearch}
use Rattle.up_host.proofs.PlaceLemmas.{found_at, position-none}
use Rattle.up_host.proofs.TiedLemmas.{keys_rose, store_rose, tied_keys, tied_store, tied_tree, took_view, tree_rose, view_after, view_before}
use Rattle.up_host.specs.Alone.{HostState, ends_at, is_of, keys_view, store_view, tree_view, views}
use Rattle.up_host.specs.Tied.{DiskRose, IsTied}
use Rattle.up_host.specs.declared.held.Held.{Held}
use Rattle.up_journal.specs.Logs.{LogState}
use Rattle.up_keys.specs.Keys as keys
use Rattle.up_names.specs.Texts.{UserName}
use Rattle.up_policy.specs.Loadings.{Loading}
use Rattle.up_tree.specs.States.{State, entries_of, fixed_of}
use Rattle.up_wire.specs.declared.keys.KeyRecord.{KeyRecord}
use Rattle.up_wire.specs.declared.replies.Reply.{Reply}

module _ {D : Type 0} (disks : Ghosts D) where
  -- ---- a tree

  -- a host that has the tree of an owner has it at a place
  pub nowhere : (host : HostState D) (owner : UserName) → position (is_of owner) host.trees ≡ None → is_some ((views disks host).tree owner) ≡ true → ⊥
  nowhere host owner none there = false≢true (sym (ap (λ (v : Option SeenTree). is_some v) (ap (option_map (tree_view disks)) (position-none (is_of owner) host.trees none))) ∙ there)

  -- what is kept of the tree that the host's caller has seen is of the tree at its place
  pub kept_there : (host : HostState D) (owner : UserName) (place : ℕ) (before : Held (State D)) → position (is_of owner) host.trees ≡ Some place → slice_get host.trees place ≡ Some before → (now_is : HostState D) → host ≡ now_is
      → (loaded : Loading) (kept : KeptSearch) → KeepsSeen ((views disks now_is).tree owner) loaded kept → Keeps before.state.owner before.state.log loaded kept
  kept_there host owner place before at there now_is is loaded kept h =
      h.seen (tree_view disks before) (ap (λ (x : HostState D). (views disks x).tree owner) (sym is) ∙ ap (option_map (tree_view disks)) (found_at (is_of owner) host.trees place at ∙ there))

  module _ (host : HostState D) (owner : UserName) (place : ℕ) (before : Held (State D)) (state : State D) (at : position (is_of owner) host.trees ≡ Some place) (there : slice_get host.trees place ≡ Some before)
      (grows : OnlyGrows entries_of (λ (s : State D). disks.faults s.disk) fixed_of before.state state) (fits : before.base ≤ length before.state.log)
      (q : Question) (loaded : Loading) (fetched : Fetched) (now : ℕ) (came : Turn) (tried : Tried disks q loaded fetched now before.state state came) where
    abbrev after : HostState D
    after = record host { trees = slice_set host.trees place (record { state = state; base = before.base }) }

    pub tree_told : TreeTold (DiskRose disks host after) (views disks host) (views disks after) owner q loaded fetched now came
    tree_told = record {
      v = tree_view disks before;
      w = tree_view disks (record { state = state; base = before.base });
      before = view_before disks host owner place before state at there grows fits;
      after = view_after disks host owner place before state at there grows fits;
      told = turn_told disks q loaded fetched now before.state state (tree_view disks before) (tree_view disks (record { state = state; base = before.base })) (DiskRose disks host after) grows
          (took_view before.state.log state.log before.base (disks.faults before.state.disk) (disks.faults state.disk) (fixed_of before.state) (fixed_of state) (DiskRose disks host after) fits
          (tree_rose disks host owner place before state at there grows fits)) refl came tried;
    }

    -- the answer is at the end of its log
    tree_end : ends_at (Some (LogName.OfTree owner)) (views disks host) ≡ Some (length before.state.log)
    tree_end = ap (option_map (λ (v : SeenTree). length v.seen)) (view_before disks host owner place before state at there grows fits)

    at_end : (t : Turn) → Tried disks q loaded fetched now before.state state t → answered_at t (λ n. ends_at (Some (LogName.OfTree owner)) (views disks host) ≡ Some n)
    at_end (turn.Missing names) h = tt
    at_end (turn.Said said n) h = tree_end ∙ ap Some (sym h.position_is)
    at_end turn.Wanting h = tt

    pub tree_left : (now_is : HostState D) → host ≡ now_is → answered_at came (λ n. ends_at (Some (LogName.OfTree owner)) (views disks now_is) ≡ Some n)
    tree_left now_is is = subst (λ (h : HostState D). answered_at came (λ n. ends_at (Some (LogName.OfTree owner)) (views disks h) ≡ Some n)) is (at_end came tried)

    -- what the turn kept is of the tree as the caller has seen it then
    pub tree_kept : (now_is : HostState D) → host ≡ now_is → (kept : KeptSearch) → where_missing came (Keeps state.owner state.log loaded kept) → where_missing came (KeepsSeen ((views disks after).tree owner) loaded kept)
    tree_kept now_is is kept h =
        missing_then came (Keeps state.owner state.log loaded kept) (KeepsSeen ((views disks after).tree owner) loaded kept)
        (seen_whole ((views disks after).tree owner) (tree_view disks (record { state = state; base = before.base })) loaded kept (view_after disks host owner place before state at there grows fits)) h

    pub tree_tied : IsTied disks (Some (LogName.OfTree owner)) host after
    tree_tied = tied_tree disks host owner place before state at there grows fits (tried_settled disks q loaded fetched now before.state state came tried)

  -- ---- the store

  module _ (host : HostState D) (state : LogState D BlockRecord) (grows : OnlyGrows blocks.log_of (λ (b : LogState D BlockRecord). disks.faults b.disk) blocks.limits_of host.store.state state)
      (fits : host.store.base ≤ length host.store.state.log) where
    abbrev stored : HostState D
    stored = record host { store = record { state = state; base = host.store.base } }

    pub asked_store : (q : Question) → store_fault q.request ≡ None → (said : Reply) (position : ℕ) → StoreTried disks host.operator q host.store.state state said position
        → LogTold (StoreTurn host.operator (views disks host).store (views disks stored).store q) (DiskRose disks host stored) (views disks host).store (views disks stored).store said position
    asked_store q sound said position h =
        store_told disks host.operator q host.store.state state (store_view disks host.store) (store_view disks stored.store) (DiskRose disks host stored)
        (took_view host.store.state.log state.log host.store.base (disks.faults host.store.state.disk) (disks.faults state.disk) host.store.state.limits state.limits (DiskRose disks host stored) fits (store_rose disks host state grows fits))
        grows.stays sound said position h

    pub store_tied : (q : Question) (said : Reply) (position : ℕ) → StoreTried disks host.operator q host.store.state state said position → IsTied disks (Some LogName.OfStore) host stored
    store_tied q said position h = tied_store disks host state grows fits (Some LogName.OfStore) (λ n. absurd (n refl)) h.stays

    pub read_tied : StoreReads disks host.store.state state → IsTied disks None host stored
    read_tied reads = tied_store disks host state grows fits None (λ n. reads.log) reads.stays

    read_gives : {E : Type 0} (reference : List ℕ) (result : Result Fetch E) → StoreReads disks host.store.state state → IfOk result (BlockRead disks host.store.state state reference)
        → IfOk result (IsFromStore (views disks host).store (views disks stored).store reference)
    read_gives reference (Ok given) reads h =
        block_told disks host.store.state state (store_view disks host.store) (store_view disks stored.store) (DiskRose disks host stored)
        (took_view host.store.state.log state.log host.store.base (disks.faults host.store.state.disk) (disks.faults state.disk) host.store.state.limits state.limits (DiskRose disks host stored) fits (store_rose disks host state grows fits))
        reads reference given h
    read_gives reference (Err e) reads h = tt

    pub read_given : {E : Type 0} (now_is : HostState D) → host ≡ now_is → (reference : List ℕ) (result : Result Fetch E) → StoreReads disks host.store.state state → IfOk result (BlockRead disks host.store.state state reference)
        → IfOk result (IsFromStore (views disks now_is).store (views disks stored).store reference)
    read_given now_is is reference result reads h =
        subst (λ (x : HostState D). IfOk result (IsFromStore (views disks x).store (views disks stored).store reference)) is (read_gives reference result reads h)

    failed_read : (reference : List ℕ) (given : Fetch) → BlockRead disks host.store.state state reference given → given ≡ fetch.Failed → DiskRose disks host stored
    failed_read reference fetch.Failed (inl none) is = absurd none
    failed_read reference given (inr failed) is = store_rose disks host state grows fits failed.1
    failed_read reference (fetch.Got bytes) (inl by) is = absurd (cc)
    failed_read reference fetch.Missing (inl by) is = absurd (cc)

    pub read_failed : {E : Type 0} (reference : List ℕ) (result : Result Fetch E) → IfOk result (BlockRead disks host.store.state state reference) → result ≡ Ok fetch.Failed → DiskRose disks host stored
    read_failed reference (Ok given) h is = failed_read reference given h (let k : given ≡ fetch.Failed = cc in k)
    read_failed reference (Err e) h is = absurd (cc)

  -- ---- the keys

  module _ (host : HostState D) (state : LogState D KeyRecord) (grows : OnlyGrows keys.log_of (λ (k : LogState D KeyRecord). disks.faults k.disk) keys.limits_of host.keys.state state)
      (fits : host.keys.base ≤ length host.keys.state.log) where
    abbrev keyed : HostState D
    keyed = record host { keys = record { state = state; base = host.keys.base } }

    pub asked_keys : (q : Question) → key_fault q.request ≡ None → (said : Reply) (position : ℕ) → KeysTried disks q host.keys.state state said position
        → LogTold (KeysTurn (views disks host).keys (views disks keyed).keys q) (DiskRose disks host keyed) (views disks host).keys (views disks keyed).keys said position
    asked_keys q sound said position h =
        keys_told disks q host.keys.state state (keys_view disks host.keys) (keys_view disks keyed.keys) (DiskRose disks host keyed)
        (took_view host.keys.state.log state.log host.keys.base (disks.faults host.keys.state.disk) (disks.faults state.disk) host.keys.state.limits state.limits (DiskRose disks host keyed) fits (keys_rose disks host state grows fits))
        grows.stays sound said position h

    pub keys_tied : (q : Question) (said : Reply) (position : ℕ) → KeysTried disks q host.keys.state state said position → IsTied disks (Some LogName.OfKeys) host keyed
    keys_tied q said position h = tied_keys disks host state grows fits h.stays
