-- How a log stays settled.
use Rattle.std.proofs.Common.{arith, ◌≡◌, ◌≢◌, ◌≤◌, ℕ, Bool, true, false, List, length, refl, sym, ap, subst, ◌∙◌, inl, inr, Option, Some, None, Result, Ok, Err, nat_lt, bytes_eq}
use Rattle.std.specs.Prelude.{IfErr, IsErrOf, is_some}
use Rattle.up_commit.specs.Steps.{Steps}
use Rattle.up_blocks.specs.Blocks.{AddsBlock, DeletesBlock, GivesBlock, PutsBlock}
use Rattle.up_blocks.specs.Records.{holds, largest_block, put_record}
use Rattle.up_blocks.specs.declared.fault.BlockWhy.{BlockWhy}
use Rattle.up_blocks.specs.declared.fault.BlockWhy.TheVariants as why
use Rattle.up_blocks.specs.declared.record.BlockRecord.{BlockRecord}
use Rattle.up_blocks.specs.declared.record.BlockRecord.TheVariants as block
use Rattle.up_disk.specs.declared.disk.Disk.{Ghosts}
use Rattle.up_entry.specs.declared.records.Rec.{Rec}
use Rattle.up_lists.specs.Counts.{HasCause}
use Rattle.up_calls.proofs.AsksLemmas.{Rose-left, Rose-right}
use Rattle.up_answers.specs.Fetching.{Fetched}
use Rattle.up_calls.specs.Routes.{Question}
use Rattle.up_calls.specs.Settled.{KeepsSettled}
use Rattle.up_calls.specs.Steps.{Tried}
use Rattle.up_calls.specs.declared.logs.Turn.{Turn}
use Rattle.up_calls.specs.declared.logs.Turn.TheVariants as turn
use Rattle.up_policy.specs.Loadings.{Loading}
use Rattle.up_journal.specs.Damages.{Damage}
use Rattle.up_journal.specs.Logs.{AddsRecord, IsSettledLog, LogState}
use Rattle.up_journal.specs.declared.fault.AppendWhy.{AppendWhy}
use Rattle.up_journal.specs.declared.fault.AppendWhy.TheVariants as append
use Rattle.up_keys.specs.Answers as of_keys
use Rattle.up_keys.specs.Keys.{PutsRecord}
use Rattle.up_keys.specs.Records.{records_in}
use Rattle.up_names.specs.Texts.{UserName}
use Rattle.up_refs.specs.References.{reference_in}
use Rattle.up_refs.specs.Sha256.{sha256}
use Rattle.up_store.specs.Answers as of_store
use Rattle.up_tree.specs.States as tree
use Rattle.up_tree.specs.States.{State, over_journal}
use Rattle.up_wire.specs.declared.keys.KeyRecord.{KeyRecord}
use Rattle.up_wire.specs.declared.replies.Reply.{Reply}
use Rattle.up_wire.specs.declared.requests.Request.{Request}
use Rattle.up_wire.specs.declared.requests.Request.TheVariants as request

module _ {D : Type 0} (disks : Ghosts D) where
  -- ---- any log

  pub settled_same : {R : Type 0} (log : LogState D R) → KeepsSettled disks log log
  settled_same log = record { settled = λ h. inl h; told = refl; later = omega arith }

  pub settled_equal : {R : Type 0} (old new : LogState D R) → new ≡ old → KeepsSettled disks old new
  settled_equal old new h = subst (λ s. KeepsSettled disks old s) (sym h) (settled_same old)

  pub settled_trans : {R : Type 0} (a b c : LogState D R) → disks.faults a.disk ≤ disks.faults b.disk → disks.faults b.disk ≤ disks.faults c.disk → KeepsSettled disks a b → KeepsSettled disks b c → KeepsSettled disks a c
  settled_trans a b c first then one two = record {
    settled = λ h. elim (one.settled h) [
      | inl stays ↦ elim (two.settled stays) [
        | inl still ↦ inl still
        | inr rose ↦ inr (Rose-right (disks.faults a.disk) (disks.faults b.disk) (disks.faults c.disk) first rose then)
      ]
      | inr rose ↦ inr (Rose-left (disks.faults a.disk) (disks.faults b.disk) (disks.faults c.disk) rose then)
    ];
    told = two.told ∙ one.told;
    later = omega (arith, first, then);
  }

  -- ---- a record is added

  settled_adds : {R S : Type 0} (view : S → LogState D R) (read : ℕ → List ℕ → Result (List R) Damage) (rec : R) (old new : S) (result : Result ℕ AppendWhy) → AddsRecord disks read rec (view old) (view new) result
      → IfErr result (λ reason. reason ≢ append.Fault → new ≡ old) → HasCause (disks.faults (view old).disk) (disks.faults (view new).disk) (IsErrOf result append.Fault) → KeepsSettled disks (view old) (view new)
  settled_adds view read rec old new (Ok position) added untouched cause = record { settled = λ h. inl added.settled; told = added.told; later = cause.later }
  settled_adds view read rec old new (Err append.Fault) added untouched cause = record { settled = λ h. inr (cause.rose refl); told = added.told; later = cause.later }
  settled_adds view read rec old new (Err (append.Full n)) added untouched cause = settled_equal (view old) (view new) (ap view (untouched (λ e. absurd (cc))))
  settled_adds view read rec old new (Err append.OutOfMemory) added untouched cause = settled_equal (view old) (view new) (ap view (untouched (λ e. absurd (cc))))

  -- to a tree
  pub steps_settled : (meant : Reply) (added : List Rec) (old new : State D) (answered : Reply) → Steps disks meant added old new answered → KeepsSettled disks (over_journal old) (over_journal new)
  steps_settled meant added old new answered steps = elim steps.stands [
    | inl same ↦ settled_equal (over_journal old) (over_journal new) (ap over_journal same)
    | inr a ↦ settled_adds over_journal (tree.records_in old.owner) a.rec old new a.result a.applies.added a.applies.untouched a.applies.cause
  ]

  -- one turn of a tree
  pub tried_settled : (q : Question) (loaded : Loading) (fetched : Fetched) (now : ℕ) (old new : State D) (came : Turn) → Tried disks q loaded fetched now old new came → KeepsSettled disks (over_journal old) (over_journal new)
  tried_settled q loaded fetched now old new (turn.Missing names) h = settled_equal (over_journal old) (over_journal new) (ap over_journal h.stays)
  tried_settled q loaded fetched now old new (turn.Said said position) h = steps_settled _ _ old new said h.steps
  tried_settled q loaded fetched now old new turn.Wanting h = elim h.stands [
    | inl same ↦ settled_equal (over_journal old) (over_journal new) (ap over_journal same)
    | inr a ↦ settled_adds over_journal (tree.records_in old.owner) a.rec old new a.result a.applies.added a.applies.untouched a.applies.cause
  ]

  -- to the keys
  pub puts_settled : (known : KeyRecord) (old new : LogState D KeyRecord) (result : Result ℕ AppendWhy) → PutsRecord disks known old new result → KeepsSettled disks old new
  puts_settled known old new result h = settled_adds (λ (log : LogState D KeyRecord). log) records_in known old new result h.added h.untouched h.cause

  put_settled : (old new : LogState D KeyRecord) (meant : Result KeyRecord Reply) (answer : Reply) → of_keys.PutsAsked disks meant old new answer → KeepsSettled disks old new
  put_settled old new (Err refusal) answer h = settled_equal old new h.0
  put_settled old new (Ok known) answer h = puts_settled known old new h.0 h.2

  pub keys_settled : (user : UserName) (asked : Request) (old new : LogState D KeyRecord) (answer : Reply) → of_keys.KeySteps disks user asked old new answer → KeepsSettled disks old new
  keys_settled user (request.KeyLookup text) old new answer h = settled_equal old new h.0
  keys_settled user (request.KeyPut card) old new answer h = put_settled old new (of_keys.to_put user card) answer h
  keys_settled user (request.Lookup text) old new answer h = absurd h
  keys_settled user (request.Put put) old new answer h = absurd h
  keys_settled user (request.Delete text) old new answer h = absurd h
  keys_settled user (request.Glob text) old new answer h = absurd h
  keys_settled user (request.WhichAccess text) old new answer h = absurd h
  keys_settled user (request.Watch text sequence) old new answer h = absurd h
  keys_settled user (request.GroupText text) old new answer h = absurd h
  keys_settled user (request.Get text) old new answer h = absurd h
  keys_settled user (request.StorePut bytes) old new answer h = absurd h
  keys_settled user (request.StoreDelete text) old new answer h = absurd h

  -- ---- the store

  block_settled : (rec : BlockRecord) (old new : LogState D BlockRecord) (result : Result ℕ BlockWhy) → AddsBlock disks rec old new result → KeepsSettled disks old new
  block_settled rec old new (Ok position) h = record { settled = λ s. inl h.added.settled; told = h.added.told; later = h.cause.later }
  block_settled rec old new (Err why.Fault) h = record { settled = λ s. inr (h.cause.rose refl); told = h.added.told; later = h.cause.later }
  block_settled rec old new (Err (why.Full n)) h = settled_equal old new (h.untouched (λ e. absurd (cc)))
  block_settled rec old new (Err why.NotExist) h = settled_equal old new (h.untouched (λ e. absurd (cc)))
  block_settled rec old new (Err why.OutOfMemory) h = settled_equal old new (h.untouched (λ e. absurd (cc)))

  pub gives_settled : (reference : List ℕ) (old new : LogState D BlockRecord) (result : Result (List ℕ) BlockWhy) → GivesBlock disks reference old new result → KeepsSettled disks old new
  gives_settled reference old new result h = record {
    settled = λ s. inl (subst IsSettledLog (sym h.unchanged) (record { settled = s.settled; nothing = s.nothing }));
    told = ap is_some h.content;
    later = h.cause.later;
  }

  kept_settled : (bytes : List ℕ) (old new : LogState D BlockRecord) (result : Result (List ℕ) BlockWhy) (held : Bool) → holds old.log (sha256 bytes) ≡ held → PutsBlock disks bytes old new result → KeepsSettled disks old new
  kept_settled bytes old new result true is h = settled_equal old new (h.held is).1
  kept_settled bytes old new result false is h = let fresh = h.fresh is in block_settled (put_record (is_some (disks.content old.disk)) bytes) old new fresh.0 fresh.2

  taken_settled : (reference : List ℕ) (old new : LogState D BlockRecord) (result : Result ℕ BlockWhy) (held : Bool) → holds old.log reference ≡ held → DeletesBlock disks reference old new result → KeepsSettled disks old new
  taken_settled reference old new result true is h = block_settled (block.Delete reference) old new result (h.held is)
  taken_settled reference old new result false is h = settled_equal old new (h.missing is).1

  get_settled : (found : Option (List ℕ)) (old new : LogState D BlockRecord) (answer : Reply) → of_store.GetsBlock disks found old new answer → KeepsSettled disks old new
  get_settled None old new answer h = settled_equal old new h.0
  get_settled (Some reference) old new answer h = gives_settled reference old new h.0 h.2

  put_of_settled : (long : Bool) (bytes : List ℕ) (old new : LogState D BlockRecord) (answer : Reply) → of_store.PutsOf disks long bytes old new answer → KeepsSettled disks old new
  put_of_settled true bytes old new answer h = settled_equal old new h.0
  put_of_settled false bytes old new answer h = kept_settled bytes old new h.0 (holds old.log (sha256 bytes)) refl h.2

  delete_by_settled : (is_operator : Bool) (reference : List ℕ) (old new : LogState D BlockRecord) (answer : Reply) → of_store.DeletesBy disks is_operator reference old new answer → KeepsSettled disks old new
  delete_by_settled false reference old new answer h = settled_equal old new h.0
  delete_by_settled true reference old new answer h = taken_settled reference old new h.0 (holds old.log reference) refl h.2

  delete_of_settled : (operator user : UserName) (found : Option (List ℕ)) (old new : LogState D BlockRecord) (answer : Reply) → of_store.DeletesOf disks operator user found old new answer → KeepsSettled disks old new
  delete_of_settled operator user None old new answer h = settled_equal old new h.0
  delete_of_settled operator user (Some reference) old new answer h = delete_by_settled (bytes_eq user operator) reference old new answer h

  pub store_settled : (operator user : UserName) (asked : Request) (old new : LogState D BlockRecord) (answer : Reply) → of_store.StoreSteps disks operator user asked old new answer → KeepsSettled disks old new
  store_settled operator user (request.Get text) old new answer h = get_settled (reference_in text) old new answer h
  store_settled operator user (request.StorePut bytes) old new answer h = put_of_settled (nat_lt largest_block (length bytes)) bytes old new answer h
  store_settled operator user (request.StoreDelete text) old new answer h = delete_of_settled operator user (reference_in text) old new answer h
  store_settled operator user (request.Lookup text) old new answer h = absurd h
  store_settled operator user (request.Put put) old new answer h = absurd h
  store_settled operator user (request.Delete text) old new answer h = absurd h
  store_settled operator user (request.Glob text) old new answer h = absurd h
  store_settled operator user (request.WhichAccess text) old new answer h = absurd h
  store_settled operator user (request.Watch text sequence) old new answer h = absurd h
  store_settled operator user (request.GroupText text) old new answer h = absurd h
  store_settled operator user (request.KeyLookup text) old new answer h = absurd h
  store_settled operator user (request.KeyPut card) old new answer h = absurd h
