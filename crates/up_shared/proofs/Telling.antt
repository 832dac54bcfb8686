-- What one turn of a seat tells whoever has the logs.
use Rattle.std.proofs.Common.{◌≡◌, ◌<◌, ◌+◌, ℕ, List, length, refl, sym, ap, subst, ◌∙◌, inl, inr, arith, option_map, slice_get, Some, None, Result, Ok, Err, position}
use Rattle.std.specs.Prelude.{IfOk}
use Rattle.up_answers.specs.Fetching.{Fetched}
use Rattle.up_blocks.specs.Blocks as blocks
use Rattle.up_blocks.specs.declared.record.BlockRecord.{BlockRecord}
use Rattle.up_calls.proofs.KeptLemmas.{missing_then, seen_whole}
use Rattle.up_calls.proofs.StepLemmas.{block_told, keys_told, store_told, turn_told}
use Rattle.up_calls.specs.Answered.{Risen}
use Rattle.up_calls.specs.Blocks.{IsFromStore}
use Rattle.up_calls.specs.Calls.{KeysTurn, StoreTurn}
use Rattle.up_calls.specs.Gathered.{OwnText}
use Rattle.up_calls.specs.Kept.{KeepsSeen, where_missing}
use Rattle.up_calls.specs.Loads.{group_text_answer, load_of}
use Rattle.up_calls.specs.Routes.{LogName, OwnStays, Question}
use Rattle.up_calls.specs.Services.{key_fault, store_fault}
use Rattle.up_calls.specs.Shown.{FailsAsShown, QuietBut}
use Rattle.up_calls.specs.Steps.{BlockRead, KeysTried, StoreReads, StoreTried, Takes, Tried}
use Rattle.up_calls.specs.Told.{LogTold, TreeTold, answered_at}
use Rattle.up_calls.specs.Views.{SeenTree, log_after, own_of}
use Rattle.up_calls.specs.declared.event.Event.{Event}
use Rattle.up_calls.specs.declared.logs.Turn.{Turn}
use Rattle.up_calls.specs.declared.logs.Turn.TheVariants as turn
use Rattle.up_cell.proofs.Turns.{Onward-looked, Onward-self, Onward-trans, turn_floor, turn_from, turn_onward, turn_quiet, turn_taken, turn_to}
use Rattle.up_cell.specs.Known.{Known, Onward, looked_of}
use Rattle.up_disk.specs.declared.disk.Disk as disk
use Rattle.up_entry.specs.declared.fetch.Fetch.{Fetch}
use Rattle.up_entry.specs.declared.fetch.Fetch.TheVariants as fetch
use Rattle.up_entry.specs.declared.records.Rec.{Rec}
use Rattle.up_foreign.proofs.KeptLemmas.{keeps_later}
use Rattle.up_foreign.specs.Kept.{Keeps}
use Rattle.up_foreign.specs.declared.kept.KeptSearch.{KeptSearch}
use Rattle.up_journal.specs.Logs.{LogState}
use Rattle.up_journal.specs.declared.limits.Limits.{Limits}
use Rattle.up_keys.specs.Keys as keys
use Rattle.up_lists.specs.Begins.{Begins}
use Rattle.up_lists.specs.Counts.{StaysUnless}
use Rattle.up_names.specs.PathNames.{PathName}
use Rattle.up_names.specs.Texts.{UserName}
use Rattle.up_policy.specs.Loadings.{Loading}
use Rattle.up_policy.specs.declared.load_answer.LoadAnswer.{LoadAnswer}
use Rattle.up_log_tree.specs.Logs.{Log}
use Rattle.up_shared.proofs.Places.{seat_at}
use Rattle.up_shared.proofs.Turning.{turn_fixed, turn_stays, turn_takes, turned_after, turned_before, turned_fixed, turned_later, turned_looked, turned_own, turned_quiet, turned_takes}
use Rattle.up_shared.specs.Callers.{IsTied, KeysTurned, StoreTurned, TreeTurned, seats_same}
use Rattle.up_shared.specs.Jobs.{there}
use Rattle.up_shared.specs.Sharing.{AreSeats, EachPair, HasFailed, HasLooked, IsQuiet, Looked, SeatsLater, TreeSeatLater, is_seat_of, seat_for, seen_by, tree_seen, views_of}
use Rattle.up_shared.specs.declared.shared.Seats.{Seats}
use Rattle.up_shared.specs.declared.shared.Shared.{Shared}
use Rattle.up_shared.specs.declared.shared.TreeSeat.{TreeSeat}
use Rattle.up_tree.specs.States.{State, entries_of, fixed_of, log_of}
use Rattle.up_wire.specs.declared.keys.KeyRecord.{KeyRecord}
use Rattle.up_wire.specs.declared.replies.Reply.{Reply}
use Rattle.up_wire.specs.declared.requests.Request.{Request}

store_no_tree : (owner : UserName) → Some LogName.OfStore ≡ Some (LogName.OfTree owner) → ⊥
store_no_tree owner h = cc

-- ---- the tree of an owner

-- what is kept of the tree that the caller has seen is of any state of it that a seat may be lent
pub kept_there : {D : Type 0} (seats : Seats D) (owner : UserName) (place : ℕ) (seat : TreeSeat D) → position (is_seat_of owner) seats.trees.items ≡ Some place → slice_get seats.trees.items place ≡ Some seat → (state : State D)
    → (seat.owner, seat.limits) ≡ fixed_of state → Begins seat.seat.seen state.log → (loaded : Loading) (kept : KeptSearch) → KeepsSeen ((views_of seats).tree owner) loaded kept → Keeps state.owner state.log loaded kept
kept_there seats owner place seat at there state fixed begins loaded kept h =
    let seen = h.seen (tree_seen seat) (ap (option_map tree_seen) (seat_at owner seats.trees.items place seat at there)) in
    subst (λ (f : UserName × Limits). Keeps f.0 state.log loaded kept) fixed (keeps_later seat.owner seat.seat.seen state.log loaded kept begins seen)

module _ {D J : Type 0} (disks : disk.Ghosts D) (did : J → State D → J → State D → Type 0) (place : ℕ) (job after : J) (shared : Shared D) (a b : Seats D) (sits : AreSeats shared a) (t : TreeTurned disks did place job after a b) (owner : UserName) (at : position (is_seat_of owner) a.trees.items ≡ Some place) where
  abbrev faults_of : State D → ℕ
  faults_of state = disks.faults state.disk

  abbrev looked_seat : Known Rec (UserName × Limits)
  looked_seat = looked_of t.before.seat t.count

  abbrev after_seat : TreeSeat D
  after_seat = record t.before { seat = t.seat }

  fixed_after : (t.before.owner, t.before.limits) ≡ fixed_of t.turn.after
  fixed_after = turned_fixed disks did place job after a b t owner at shared sits

  -- the log before the turn, by what was seen of it
  log_before : log_after (tree_seen after_seat) (length t.turn.before.log) ≡ log_of t.turn.before
  log_before =
      ap (λ (rs : List Rec). let log : Log = record { owner = t.before.owner; limits = t.before.limits; records = rs } in log) (turn_taken entries_of faults_of fixed_of did job after looked_seat t.seat t.turn)
      ∙ ap (λ (f : UserName × Limits). let log : Log = record { owner = f.0; limits = f.1; records = t.turn.before.log } in log) (fixed_after ∙ t.turn.grows.stays)

  -- what a text is that was read
  text_told : (operator : UserName) (name : PathName) (answer : LoadAnswer) → name.owner ≡ owner → answer ≡ load_of name.owner (group_text_answer (log_of t.turn.before) operator name)
      → OwnText operator (views_of a) (views_of b) name (Some answer)
  text_told operator name answer is given = (
    tree_seen t.before,
    tree_seen after_seat,
    ap (λ (o : UserName). (views_of a).tree o) is ∙ turned_before disks did place job after a b t owner at,
    ap (λ (o : UserName). (views_of b).tree o) is ∙ turned_after disks did place job after a b t owner at,
    record {
      position = length t.turn.before.log;
      from = turn_from entries_of faults_of fixed_of did job after looked_seat t.seat t.turn;
      to = turn_to entries_of faults_of fixed_of did job after looked_seat t.seat t.turn;
      given = given ∙ ap (λ (log : Log). load_of name.owner (group_text_answer log operator name)) (sym log_before);
    },
  )

  pub text_told_by : {E : Type 0} (operator : UserName) (name : PathName) (given : Result LoadAnswer E) → name.owner ≡ owner
      → IfOk given (λ answer. answer ≡ load_of name.owner (group_text_answer (log_of t.turn.before) operator name)) → IfOk (there given) (OwnText operator (views_of a) (views_of b) name)
  text_told_by operator name (Ok answer) is h = text_told operator name answer is h
  text_told_by operator name (Err e) is h = tt

  -- what every such turn leaves
  pub tied_own : {N : Type 0} (n : N) → IsTied (Some (LogName.OfTree owner)) shared shared n n a b
  tied_own n = record { host = refl; name_is = refl; later = turned_later disks did place job after a b t owner at; own = turned_own disks did place job after a b t owner at }

  pub tied_quiet : {N : Type 0} (n : N) → t.turn.after.log ≡ t.turn.before.log → IsTied None shared shared n n a b
  tied_quiet n same = record { host = refl; name_is = refl; later = turned_later disks did place job after a b t owner at; own = turned_quiet disks did place job after a b t owner at same }

  -- what a turn kept is of the tree as the caller has seen it then
  pub tree_kept : (loaded : Loading) (came : Turn) (kept : KeptSearch) → where_missing came (Keeps t.turn.after.owner t.turn.after.log loaded kept) → where_missing came (KeepsSeen ((views_of b).tree owner) loaded kept)
  tree_kept loaded came kept h =
      missing_then came (Keeps t.turn.after.owner t.turn.after.log loaded kept) (KeepsSeen ((views_of b).tree owner) loaded kept)
      (λ keeps. seen_whole ((views_of b).tree owner) (tree_seen after_seat) loaded kept (turned_after disks did place job after a b t owner at)
      (subst (λ (rs : List Rec). Keeps t.before.owner rs loaded kept) (sym (ap (λ (k : Known Rec (UserName × Limits)). k.seen) t.turn.seat))
      (subst (λ (f : UserName × Limits). Keeps f.0 t.turn.after.log loaded kept) (sym fixed_after) keeps))) h

  module _ (q : Question) (loaded : Loading) (fetched : Fetched) (now : ℕ) where
    pub tree_told : (came : Turn) → Tried disks q loaded fetched now t.turn.before t.turn.after came
        → TreeTold (HasFailed (LogName.OfTree owner) a b) (views_of a) (views_of b) owner q loaded fetched now came
    tree_told came h = record {
      v = tree_seen t.before;
      w = tree_seen after_seat;
      before = turned_before disks did place job after a b t owner at;
      after = turned_after disks did place job after a b t owner at;
      told = turn_told disks q loaded fetched now t.turn.before t.turn.after (tree_seen t.before) (tree_seen after_seat) (HasFailed (LogName.OfTree owner) a b)
          t.turn.grows (turned_takes disks did place job after a b t owner at) fixed_after came h;
    }

    pub tree_looked : (came : Turn) → Tried disks q loaded fetched now t.turn.before t.turn.after came → answered_at came (λ n. HasLooked (LogName.OfTree owner) n a b)
    tree_looked (turn.Missing names) h = tt
    tree_looked (turn.Said said n) h = turned_looked disks did place job after a b t owner at n h.position_is
    tree_looked turn.Wanting h = tt

-- ---- the store

module _ {D J : Type 0} (disks : disk.Ghosts D) (did : J → LogState D BlockRecord → J → LogState D BlockRecord → Type 0) (job after : J) (shared : Shared D) (a b : Seats D) (sits : AreSeats shared a) (t : StoreTurned disks did job after a b) where
  abbrev store_faults : LogState D BlockRecord → ℕ
  store_faults state = disks.faults state.disk

  abbrev looked_store : Known BlockRecord Limits
  looked_store = looked_of a.store t.count

  store_onward : Onward a.store b.store
  store_onward = subst (Onward a.store) (sym t.store) (Onward-trans a.store looked_store t.seat (Onward-looked a.store t.count) (turn_onward blocks.log_of store_faults blocks.limits_of did job after looked_store t.seat t.turn))

  store_later : SeatsLater a b
  store_later = record {
    trees = subst (λ (xs : List (TreeSeat D)). EachPair TreeSeatLater a.trees.items xs) (sym t.trees) (seats_same a).trees;
    store = store_onward;
    store_limits = t.store_limits;
    keys = subst (Onward a.keys) (sym t.keys) (Onward-self a.keys);
    keys_limits = t.keys_limits;
  }

  store_own : OwnStays (Some LogName.OfStore) (views_of a) (views_of b)
  store_own = record {
    trees = λ owner differs. ap (λ (xs : List (TreeSeat D)). own_of (option_map tree_seen (seat_for xs owner))) t.trees;
    store = λ differs. absurd (differs refl);
    keys = λ differs. ap (λ (k : Known _ _). k.own) t.keys;
  }

  pub tied_store : {N : Type 0} (n : N) → IsTied (Some LogName.OfStore) shared shared n n a b
  tied_store n = record { host = refl; name_is = refl; later = store_later; own = store_own }

  pub tied_read : {N : Type 0} (n : N) → t.turn.after.log ≡ t.turn.before.log → IsTied None shared shared n n a b
  tied_read n same = record {
    host = refl;
    name_is = refl;
    later = store_later;
    own = record {
      trees = λ owner differs. store_own.trees owner (store_no_tree owner);
      store = λ differs. ap (λ (k : Known BlockRecord Limits). k.own) t.store ∙ turn_quiet blocks.log_of store_faults blocks.limits_of did job after looked_store t.seat t.turn same;
      keys = λ differs. ap (λ (k : Known _ _). k.own) t.keys;
    };
  }

  pub store_looked : (n : ℕ) → n ≡ length t.turn.before.log → HasLooked LogName.OfStore n a b
  store_looked n is =
      let looks : t.seat.looks ≡ a.store.looks + 1 = ap (λ (k : Known BlockRecord Limits). k.looks) t.turn.seat in
      let floor = turn_floor blocks.log_of store_faults blocks.limits_of did job after looked_store t.seat t.turn in
      subst (λ (k : Known BlockRecord Limits). Looked a.store k n) (sym t.store) (record { looks = omega (arith, looks); floor = omega (arith, floor, is) })

  store_takes : Takes t.turn.before.log t.turn.after.log (seen_by a.store b.store_limits) (seen_by b.store b.store_limits) (disks.faults t.turn.before.disk) (disks.faults t.turn.after.disk) (HasFailed LogName.OfStore a b)
  store_takes =
      subst (λ (k : Known BlockRecord Limits). Takes t.turn.before.log t.turn.after.log (seen_by a.store b.store_limits) (seen_by k b.store_limits) (disks.faults t.turn.before.disk) (disks.faults t.turn.after.disk) (HasFailed LogName.OfStore a b)) (sym t.store)
      (turn_takes blocks.log_of store_faults blocks.limits_of did job after looked_store t.seat t.turn b.store_limits (HasFailed LogName.OfStore a b) (λ more. subst (λ (k : Known BlockRecord Limits). a.store.failed < k.failed) (sym t.store) more))

  -- no disk failed but the store's, and that one only where its count did not stay
  pub store_calm : (fault : Type 0) → StaysUnless (disks.faults t.turn.before.disk) (disks.faults t.turn.after.disk) fault → QuietBut (λ log. IsQuiet disks log a b) LogName.OfStore fault
  store_calm fault stays = record { stays = by }
    where
      by : (log : LogName) → (log ≡ LogName.OfStore → fault → ⊥) → IsQuiet disks log a b
      by (LogName.OfTree owner) none = IsQuiet.Stays (ap (λ (xs : List (TreeSeat D)). option_map (λ (v : SeenTree). v.failed) (option_map tree_seen (seat_for xs owner))) t.trees)
      by LogName.OfStore none = elim (turn_stays blocks.log_of store_faults blocks.limits_of did job after looked_store t.seat t.turn (stays.stays (none refl))) [
        | inl same ↦ IsQuiet.Stays (ap (λ (n : ℕ). Some n) (ap (λ (k : Known BlockRecord Limits). k.failed) t.store ∙ same))
        | inr end ↦ IsQuiet.AtEnd t.turn.before.disk end
      ]
      by LogName.OfKeys none = IsQuiet.Stays (ap (λ (k : Known _ _). Some k.failed) t.keys)

  store_fixed : b.store_limits ≡ t.turn.before.limits
  store_fixed =
      turn_fixed blocks.log_of store_faults blocks.limits_of did job after looked_store t.seat t.turn b.store_limits (sits.store_fixed ∙ ap (λ (l : Limits). Some l) (sym t.store_limits))
      ∙ t.turn.grows.stays

  pub store_answered : (operator : UserName) (q : Question) → store_fault q.request ≡ None → (said : Reply) (position : ℕ) → StoreTried disks operator q t.turn.before t.turn.after said position
      → LogTold (StoreTurn operator (views_of a).store (views_of b).store q) (HasFailed LogName.OfStore a b) (views_of a).store (views_of b).store said position
  store_answered operator q sound said position h =
      subst (λ (l : Limits). LogTold (StoreTurn operator (seen_by a.store l) (views_of b).store q) (HasFailed LogName.OfStore a b) (seen_by a.store l) (views_of b).store said position) t.store_limits
      (store_told disks operator q t.turn.before t.turn.after (seen_by a.store b.store_limits) (views_of b).store (HasFailed LogName.OfStore a b) store_takes store_fixed sound said position h)

  block_given : (reference : List ℕ) → StoreReads disks t.turn.before t.turn.after → (given : Fetch) → BlockRead disks t.turn.before t.turn.after reference given → IsFromStore (views_of a).store (views_of b).store reference given
  block_given reference reads given h =
      subst (λ (l : Limits). IsFromStore (seen_by a.store l) (views_of b).store reference given) t.store_limits
      (block_told disks t.turn.before t.turn.after (seen_by a.store b.store_limits) (views_of b).store (HasFailed LogName.OfStore a b) store_takes reads reference given h)

  pub block_told_by : {E : Type 0} (reference : List ℕ) → StoreReads disks t.turn.before t.turn.after → (given : Result Fetch E) → IfOk given (BlockRead disks t.turn.before t.turn.after reference)
      → IfOk given (IsFromStore (views_of a).store (views_of b).store reference)
  block_told_by reference reads (Ok given) h = block_given reference reads given h
  block_told_by reference reads (Err e) h = tt

  -- where a read failed, the seat counts it
  pub block_failed : (reference : List ℕ) → BlockRead disks t.turn.before t.turn.after reference fetch.Failed → HasFailed LogName.OfStore a b
  block_failed reference (inl given) = absurd given
  block_failed reference (inr failed) = (store_takes.rose failed.1).1

-- ---- the keys

module _ {D J : Type 0} (disks : disk.Ghosts D) (did : J → LogState D KeyRecord → J → LogState D KeyRecord → Type 0) (job after : J) (shared : Shared D) (a b : Seats D) (sits : AreSeats shared a) (t : KeysTurned disks did job after a b) where
  abbrev keys_faults : LogState D KeyRecord → ℕ
  keys_faults state = disks.faults state.disk

  abbrev looked_keys : Known KeyRecord Limits
  looked_keys = looked_of a.keys t.count

  keys_onward : Onward a.keys b.keys
  keys_onward = subst (Onward a.keys) (sym t.keys) (Onward-trans a.keys looked_keys t.seat (Onward-looked a.keys t.count) (turn_onward keys.log_of keys_faults keys.limits_of did job after looked_keys t.seat t.turn))

  keys_later : SeatsLater a b
  keys_later = record {
    trees = subst (λ (xs : List (TreeSeat D)). EachPair TreeSeatLater a.trees.items xs) (sym t.trees) (seats_same a).trees;
    store = subst (Onward a.store) (sym t.store) (Onward-self a.store);
    store_limits = t.store_limits;
    keys = keys_onward;
    keys_limits = t.keys_limits;
  }

  keys_own : OwnStays (Some LogName.OfKeys) (views_of a) (views_of b)
  keys_own = record {
    trees = λ owner differs. ap (λ (xs : List (TreeSeat D)). own_of (option_map tree_seen (seat_for xs owner))) t.trees;
    store = λ differs. ap (λ (k : Known _ _). k.own) t.store;
    keys = λ differs. absurd (differs refl);
  }

  pub tied_keys : {N : Type 0} (n : N) → IsTied (Some LogName.OfKeys) shared shared n n a b
  tied_keys n = record { host = refl; name_is = refl; later = keys_later; own = keys_own }

  pub keys_looked : (n : ℕ) → n ≡ length t.turn.before.log → HasLooked LogName.OfKeys n a b
  keys_looked n is =
      let looks : t.seat.looks ≡ a.keys.looks + 1 = ap (λ (k : Known KeyRecord Limits). k.looks) t.turn.seat in
      let floor = turn_floor keys.log_of keys_faults keys.limits_of did job after looked_keys t.seat t.turn in
      subst (λ (k : Known KeyRecord Limits). Looked a.keys k n) (sym t.keys) (record { looks = omega (arith, looks); floor = omega (arith, floor, is) })

  keys_takes : Takes t.turn.before.log t.turn.after.log (seen_by a.keys b.keys_limits) (seen_by b.keys b.keys_limits) (disks.faults t.turn.before.disk) (disks.faults t.turn.after.disk) (HasFailed LogName.OfKeys a b)
  keys_takes =
      subst (λ (k : Known KeyRecord Limits). Takes t.turn.before.log t.turn.after.log (seen_by a.keys b.keys_limits) (seen_by k b.keys_limits) (disks.faults t.turn.before.disk) (disks.faults t.turn.after.disk) (HasFailed LogName.OfKeys a b)) (sym t.keys)
      (turn_takes keys.log_of keys_faults keys.limits_of did job after looked_keys t.seat t.turn b.keys_limits (HasFailed LogName.OfKeys a b) (λ more. subst (λ (k : Known KeyRecord Limits). a.keys.failed < k.failed) (sym t.keys) more))

  -- no disk failed but that of the keys, and that one only where its count did not stay
  pub keys_calm : (fault : Type 0) → StaysUnless (disks.faults t.turn.before.disk) (disks.faults t.turn.after.disk) fault → QuietBut (λ log. IsQuiet disks log a b) LogName.OfKeys fault
  keys_calm fault stays = record { stays = by }
    where
      by : (log : LogName) → (log ≡ LogName.OfKeys → fault → ⊥) → IsQuiet disks log a b
      by (LogName.OfTree owner) none = IsQuiet.Stays (ap (λ (xs : List (TreeSeat D)). option_map (λ (v : SeenTree). v.failed) (option_map tree_seen (seat_for xs owner))) t.trees)
      by LogName.OfStore none = IsQuiet.Stays (ap (λ (k : Known _ _). Some k.failed) t.store)
      by LogName.OfKeys none = elim (turn_stays keys.log_of keys_faults keys.limits_of did job after looked_keys t.seat t.turn (stays.stays (none refl))) [
        | inl same ↦ IsQuiet.Stays (ap (λ (n : ℕ). Some n) (ap (λ (k : Known KeyRecord Limits). k.failed) t.keys ∙ same))
        | inr end ↦ IsQuiet.AtEnd t.turn.before.disk end
      ]

  keys_fixed : b.keys_limits ≡ t.turn.before.limits
  keys_fixed =
      turn_fixed keys.log_of keys_faults keys.limits_of did job after looked_keys t.seat t.turn b.keys_limits (sits.keys_fixed ∙ ap (λ (l : Limits). Some l) (sym t.keys_limits))
      ∙ t.turn.grows.stays

  pub keys_answered : (q : Question) → key_fault q.request ≡ None → (said : Reply) (position : ℕ) → KeysTried disks q t.turn.before t.turn.after said position
      → LogTold (KeysTurn (views_of a).keys (views_of b).keys q) (HasFailed LogName.OfKeys a b) (views_of a).keys (views_of b).keys said position
  keys_answered q sound said position h =
      subst (λ (l : Limits). LogTold (KeysTurn (seen_by a.keys l) (views_of b).keys q) (HasFailed LogName.OfKeys a b) (seen_by a.keys l) (views_of b).keys said position) t.keys_limits
      (keys_told disks q t.turn.before t.turn.after (seen_by a.keys b.keys_limits) (views_of b).keys (HasFailed LogName.OfKeys a b) keys_takes keys_fixed sound said position h)

-- ---- one call

-- that the failures rose, of the seats and the loader as they are left
pub risen_at : {D L : Type 0} (faults : L → ℕ) (before : ℕ) (a b final : Seats D) (l last : L) (user who : UserName) (request : Request) (e : Event)
    → Risen (λ log. HasFailed log a b) before (faults l) (record { user = user; request = request }) e → final ≡ b → last ≡ l → who ≡ user
    → Risen (λ log. HasFailed log a final) before (faults last) (record { user = who; request = request }) e
risen_at faults before a b final l last user who request e risen one two three =
    subst (λ (x : Seats _). Risen (λ log. HasFailed log a x) before (faults last) (record { user = who; request = request }) e) (sym one)
    (subst (λ (x : _). Risen (λ log. HasFailed log a b) before (faults x) (record { user = who; request = request }) e) (sym two)
    (subst (λ (x : UserName). Risen (λ log. HasFailed log a b) before (faults l) (record { user = x; request = request }) e) (sym three) risen))

-- that no disk failed but as the event shows, of the seats as they are left
pub quiet_at : {D : Type 0} (disks : disk.Ghosts D) (a b final : Seats D) (user who : UserName) (request : Request) (e : Event) → FailsAsShown (λ log. IsQuiet disks log a b) (record { user = user; request = request }) e → final ≡ b → who ≡ user
    → FailsAsShown (λ log. IsQuiet disks log a final) (record { user = who; request = request }) e
quiet_at disks a b final user who request e shown one two =
    subst (λ (x : Seats _). FailsAsShown (λ log. IsQuiet disks log a x) (record { user = who; request = request }) e) (sym one)
    (subst (λ (x : UserName). FailsAsShown (λ log. IsQuiet disks log a b) (record { user = x; request = request }) e) (sym two) shown)
