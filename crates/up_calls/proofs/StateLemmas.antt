-- What is done in one turn over a state.
use Rattle.std.proofs.Common.{◌≡◌, ◌≢◌, ℕ, List, length, refl, sym, ap, subst, ◌∙◌, inl, inr, append-nil, Some, None, Result, Ok, Err}
use Rattle.std.specs.Prelude.{IfOk, is_some}
use Rattle.std.specs.List.{AllByRecursion}
use Rattle.std.specs.Result.{result_ok}
use Rattle.up_commit.specs.Steps.{Steps}
use Rattle.up_answers.specs.Answers.{added, answer}
use Rattle.up_answers.specs.Fetching.{Fetched}
use Rattle.up_answers.specs.Needs.{needs}
use Rattle.up_blocks.specs.Blocks.{GivesBlock}
use Rattle.up_blocks.specs.Records.{IsTold}
use Rattle.up_blocks.specs.declared.fault.BlockWhy.{BlockWhy}
use Rattle.up_blocks.specs.declared.fault.BlockWhy.TheVariants as why
use Rattle.up_blocks.specs.declared.record.BlockRecord.{BlockRecord}
use Rattle.up_calls.proofs.SettledLemmas.{gives_settled}
use Rattle.up_calls.proofs.StoreDone.{told_bytes}
use Rattle.up_calls.specs.Loads.{load_of}
use Rattle.up_calls.specs.Routes.{Question, service_of}
use Rattle.up_calls.specs.Rounds.{IsWhole}
use Rattle.up_calls.specs.Steps.{BlockRead, FetchedAs, StoreReads, Tried, said_at}
use Rattle.up_calls.specs.declared.service.Service.TheVariants as service
use Rattle.up_disk.specs.declared.disk.Disk.{Ghosts}
use Rattle.up_entry.specs.declared.fetch.Fetch.{Fetch}
use Rattle.up_entry.specs.declared.fetch.Fetch.TheVariants as fetch
use Rattle.up_journal.specs.Logs.{LogState}
use Rattle.up_keys.specs.Answers as of_keys
use Rattle.up_lists.proofs.Causes.{StaysUnless-more}
use Rattle.up_lists.specs.Counts.{StaysUnless}
use Rattle.up_names.specs.Texts.{UserName}
use Rattle.up_policy.specs.Loadings.{Loading}
use Rattle.up_policy.specs.declared.load_answer.LoadAnswer.{LoadAnswer}
use Rattle.up_log_tree.specs.Fits.{IsLog}
use Rattle.up_store.specs.Answers as of_store
use Rattle.up_tree.specs.States.{State, log_of}
use Rattle.up_wire.specs.declared.replies.Reply.{Reply}
use Rattle.up_wire.specs.declared.replies.Reply.TheVariants as reply
use Rattle.up_wire.specs.declared.requests.Request.{Request}
use Rattle.up_wire.specs.declared.requests.Request.TheVariants as request

-- ---- a tree

module _ {D : Type 0} (disks : Ghosts D) (q : Question) (loaded : Loading) (fetched : Fetched) (now : ℕ) (old new : State D) where
  pub tried_said : (said : Reply) (position : ℕ) → IsWhole (needs (log_of old) loaded q.user q.request) loaded → position ≡ length old.log
      → Steps disks (answer (log_of old) loaded fetched q.user q.request now) (added (log_of old) loaded fetched q.user q.request now) old new said → IsLog old.owner old.log
      → StaysUnless (disks.faults old.disk) (disks.faults new.disk) (said ≡ reply.Io) → Tried disks q loaded fetched now old new (said_at said position)
  tried_said reply.OutOfMemory position whole at steps legal quiet = record { log = steps.log ∙ append-nil old.log; stands = steps.stands; quiet = quiet.stays (λ e. cc) }
  tried_said reply.Io position whole at steps legal quiet = record { enough = λ e. cc; whole = whole; position_is = at; steps = steps; legal = legal; quiet = quiet }
  tried_said (reply.Ok what) position whole at steps legal quiet = record { enough = λ e. cc; whole = whole; position_is = at; steps = steps; legal = legal; quiet = quiet }
  tried_said (reply.Invalid what) position whole at steps legal quiet = record { enough = λ e. cc; whole = whole; position_is = at; steps = steps; legal = legal; quiet = quiet }
  tried_said reply.WrongHost position whole at steps legal quiet = record { enough = λ e. cc; whole = whole; position_is = at; steps = steps; legal = legal; quiet = quiet }
  tried_said (reply.FollowLink entry) position whole at steps legal quiet = record { enough = λ e. cc; whole = whole; position_is = at; steps = steps; legal = legal; quiet = quiet }
  tried_said reply.Private position whole at steps legal quiet = record { enough = λ e. cc; whole = whole; position_is = at; steps = steps; legal = legal; quiet = quiet }
  tried_said (reply.Permission right) position whole at steps legal quiet = record { enough = λ e. cc; whole = whole; position_is = at; steps = steps; legal = legal; quiet = quiet }
  tried_said reply.NotExist position whole at steps legal quiet = record { enough = λ e. cc; whole = whole; position_is = at; steps = steps; legal = legal; quiet = quiet }
  tried_said reply.NotDir position whole at steps legal quiet = record { enough = λ e. cc; whole = whole; position_is = at; steps = steps; legal = legal; quiet = quiet }
  tried_said reply.IsDir position whole at steps legal quiet = record { enough = λ e. cc; whole = whole; position_is = at; steps = steps; legal = legal; quiet = quiet }
  tried_said reply.Exist position whole at steps legal quiet = record { enough = λ e. cc; whole = whole; position_is = at; steps = steps; legal = legal; quiet = quiet }
  tried_said (reply.BadSequence sequence) position whole at steps legal quiet = record { enough = λ e. cc; whole = whole; position_is = at; steps = steps; legal = legal; quiet = quiet }
  tried_said reply.NotEmpty position whole at steps legal quiet = record { enough = λ e. cc; whole = whole; position_is = at; steps = steps; legal = legal; quiet = quiet }
  tried_said (reply.BadBlock reference) position whole at steps legal quiet = record { enough = λ e. cc; whole = whole; position_is = at; steps = steps; legal = legal; quiet = quiet }
  tried_said (reply.BadText line) position whole at steps legal quiet = record { enough = λ e. cc; whole = whole; position_is = at; steps = steps; legal = legal; quiet = quiet }
  tried_said (reply.TooLarge size) position whole at steps legal quiet = record { enough = λ e. cc; whole = whole; position_is = at; steps = steps; legal = legal; quiet = quiet }
  tried_said (reply.Full records) position whole at steps legal quiet = record { enough = λ e. cc; whole = whole; position_is = at; steps = steps; legal = legal; quiet = quiet }

-- ---- a text

pub text_read : {E : Type 0} (owner : UserName) (meant said : Reply) (result : Result LoadAnswer E) → (said ≢ reply.OutOfMemory → said ≡ meant) → IfOk result (λ answer. (said ≢ reply.OutOfMemory) × (answer ≡ load_of owner said))
    → IfOk result (λ answer. answer ≡ load_of owner meant)
text_read owner meant said (Ok answer) is h = h.1 ∙ ap (load_of owner) (is h.0)
text_read owner meant said (Err e) is h = tt

-- ---- a block

module _ {D : Type 0} (disks : Ghosts D) (old new : LogState D BlockRecord) where
  pub reads_given : (reference : List ℕ) (result : Result (List ℕ) BlockWhy) → GivesBlock disks reference old new result → StoreReads disks old new
  reads_given reference result h = record {
    log = ap (λ (s : LogState D BlockRecord). s.log) h.unchanged;
    limits = ap (λ (s : LogState D BlockRecord). s.limits) h.unchanged;
    later = h.cause.later;
    stays = gives_settled disks reference old new result h;
  }

  if_some : {E : Type 0} (P : Fetch → Type 0) (result : Result Fetch E) (given : Fetch) → result_ok result ≡ Some given → P given → IfOk result P
  if_some P (Ok x) given is h = let k : x ≡ given = cc in subst P (sym k) h
  if_some P (Err e) given is h = tt

  none_ok : {E : Type 0} (P : Fetch → Type 0) (result : Result Fetch E) → result_ok result ≡ None → IfOk result P
  none_ok P (Ok x) is = absurd (cc)
  none_ok P (Err e) is = tt

  -- what the store gave for a reference
  pub block_read : {E : Type 0} (reference : List ℕ) → AllByRecursion (IsTold (is_some (disks.content old.disk))) old.log → (result : Result (List ℕ) BlockWhy) → GivesBlock disks reference old new result
      → (given : Result Fetch E) → FetchedAs result (result_ok given) → IfOk given (BlockRead disks old new reference)
  block_read reference told (Ok bytes) gives given h =
      if_some (BlockRead disks old new reference) given (fetch.Got bytes) h (inl (record { size = gives.size; told = told_bytes disks old new told reference bytes gives.found }))
  block_read reference told (Err why.NotExist) gives given h = if_some (BlockRead disks old new reference) given fetch.Missing h (inl (gives.there refl))
  block_read reference told (Err why.Fault) gives given h = if_some (BlockRead disks old new reference) given fetch.Failed h (inr (refl, gives.cause.rose refl))
  block_read reference told (Err (why.Full records)) gives given h = absurd (gives.never_full records refl)
  block_read reference told (Err why.OutOfMemory) gives given h = none_ok (BlockRead disks old new reference) given h

failed_ok : {E : Type 0} (result : Result Fetch E) → result_ok result ≡ Some fetch.Failed → result ≡ Ok fetch.Failed
failed_ok (Ok x) is = let same : x ≡ fetch.Failed = cc in ap Ok same
failed_ok (Err e) is = absurd (cc)

-- the count of the store's disk is as before, unless the block could not be read
pub block_quiet : {E : Type 0} (before after : ℕ) (given : Result (List ℕ) BlockWhy) (result : Result Fetch E) → FetchedAs given (result_ok result) → StaysUnless before after (given ≡ Err why.Fault) → StaysUnless before after (result ≡ Ok fetch.Failed)
block_quiet before after given result h quiet =
    StaysUnless-more before after (given ≡ Err why.Fault) (result ≡ Ok fetch.Failed) quiet (λ is. failed_ok result (subst (λ (r : Result (List ℕ) BlockWhy). FetchedAs r (result_ok result)) is h))

-- ---- the store and the keys

-- what goes to the store is a store request
pub store_asked : (asked : Request) → service_of asked ≡ service.Store → of_store.IsAsked asked
store_asked (request.Get text) h = tt
store_asked (request.StorePut bytes) h = tt
store_asked (request.StoreDelete text) h = tt
store_asked (request.Lookup text) h = absurd (cc)
store_asked (request.Put put) h = absurd (cc)
store_asked (request.Delete text) h = absurd (cc)
store_asked (request.Glob text) h = absurd (cc)
store_asked (request.WhichAccess text) h = absurd (cc)
store_asked (request.Watch text sequence) h = absurd (cc)
store_asked (request.GroupText text) h = absurd (cc)
store_asked (request.KeyLookup text) h = absurd (cc)
store_asked (request.KeyPut card) h = absurd (cc)

-- what goes to the keys is a key request
pub keys_asked : (asked : Request) → service_of asked ≡ service.Keys → of_keys.IsAsked asked
keys_asked (request.KeyLookup text) h = tt
keys_asked (request.KeyPut card) h = tt
keys_asked (request.Get text) h = absurd (cc)
keys_asked (request.StorePut bytes) h = absurd (cc)
keys_asked (request.StoreDelete text) h = absurd (cc)
keys_asked (request.Lookup text) h = absurd (cc)
keys_asked (request.Put put) h = absurd (cc)
keys_asked (request.Delete text) h = absurd (cc)
keys_asked (request.Glob text) h = absurd (cc)
keys_asked (request.WhichAccess text) h = absurd (cc)
keys_asked (request.Watch text sequence) h = absurd (cc)
keys_asked (request.GroupText text) h = absurd (cc)
