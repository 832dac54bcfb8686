-- What a request to the store came to, by what it leads to over the log before it.
use Rattle.std.proofs.Common.{◌≡◌, ◌+◌, ℕ, Bool, true, false, not, List, [], ◌∷◌, length, refl, sym, ap, subst, ◌∙◌, Option, Some, None, Result, Ok, Err, length-append, append-nil, nat_lt, bytes_eq}
use Rattle.std.specs.Prelude.{is_some, IfSome, IsSome, if◌then◌else◌}
use Rattle.std.specs.List.{AllByRecursion}
use Rattle.std.specs.Option.{option_and_then}
use Rattle.up_blocks.specs.Blocks.{AddsBlock, DeletesBlock, GivesBlock, PutsBlock, with_reference}
use Rattle.up_blocks.specs.Records.{IsTold, block_in, holds, largest_block, put_record, size_of, sizes_of}
use Rattle.up_blocks.specs.declared.fault.BlockWhy.{BlockWhy}
use Rattle.up_blocks.specs.declared.fault.BlockWhy.TheVariants as why
use Rattle.up_blocks.specs.declared.record.BlockRecord.{BlockRecord}
use Rattle.up_blocks.specs.declared.record.BlockRecord.TheVariants as block
use Rattle.up_disk.specs.declared.disk.Disk.{Ghosts}
use Rattle.up_entry.specs.declared.what.What.{What}
use Rattle.up_entry.specs.declared.what.What.TheVariants.{Block, Reference}
use Rattle.up_calls.proofs.Told.{untold_none}
use Rattle.up_calls.specs.Done.{IsDone, is_invalid}
use Rattle.up_calls.specs.Services.{Leads, SameRecord, StoreSays, adding, delete_leads, get_leads, put_leads, reference_fault, store_fault, store_leads, told_in}
use Rattle.up_journal.specs.Journal.{is_full}
use Rattle.up_journal.specs.Logs.{LogState}
use Rattle.up_names.specs.Texts.{UserName}
use Rattle.up_refs.specs.References.{reference_in}
use Rattle.up_refs.specs.Sha256.{sha256}
use Rattle.up_rights.specs.declared.Right.TheVariants as right
use Rattle.up_store.specs.Answers.{DeletesBy, DeletesOf, GetsBlock, PutsOf, StoreSteps, deleted_reply, given_reply, put_reply, refused_reply}
use Rattle.up_wire.specs.declared.replies.Done.TheVariants as done
use Rattle.up_wire.specs.declared.replies.Reply.{Reply}
use Rattle.up_wire.specs.declared.replies.Reply.TheVariants as reply
use Rattle.up_wire.specs.declared.requests.Request.{Request}
use Rattle.up_wire.specs.declared.requests.Request.TheVariants as request

module _ {D : Type 0} (disks : Ghosts D) (old new : LogState D BlockRecord) (told : AllByRecursion (IsTold (is_some (disks.content old.disk))) old.log) where
  -- what came of a request by its faults and what it leads to
  abbrev Done : Option What → Leads BlockRecord → Reply → Type 0
  Done fault leads answer = IsDone StoreSays fault leads old.log new.log (disks.faults old.disk) (disks.faults new.disk) answer

  same_log : new ≡ old → new.log ≡ old.log
  same_log h = ap (λ (s : LogState D BlockRecord). s.log) h

  -- ---- Get

  -- what is given is what the log tells
  pub told_bytes : (reference bytes : List ℕ) → (IsSome (disks.content old.disk) → block_in old.log reference ≡ Some (Some bytes)) → IfSome (told_in old.log reference) (λ these. bytes ≡ these)
  told_bytes reference bytes found = by_content (disks.content old.disk) found told
    where
      by_content : (content : Option (List ℕ)) → (IsSome content → block_in old.log reference ≡ Some (Some bytes)) → AllByRecursion (IsTold (is_some content)) old.log → IfSome (told_in old.log reference) (λ these. bytes ≡ these)
      by_content (Some content) found told =
          subst (λ (o : Option (Option (List ℕ))). IfSome (option_and_then (λ (t : Option (List ℕ)). t) o) (λ these. bytes ≡ these)) (sym (found refl)) refl
      by_content None found told = subst (λ (o : Option (List ℕ)). IfSome o (λ these. bytes ≡ these)) (sym (untold_none old.log told reference)) tt

  module _ (reference : List ℕ) (answer : Reply) where
    got : (held : Bool) → holds old.log reference ≡ held → (given : Result (List ℕ) BlockWhy) → answer ≡ given_reply given → GivesBlock disks reference old new given
        → Done None (if held then Leads.Reads reference else Leads.Says reply.NotExist) answer
    got true h (Ok bytes) said gives =
        IsDone.Said refl (ap is_invalid said) []
        (refl, (bytes, said, record { size = gives.size; told = told_bytes reference bytes gives.found }))
        (ap (λ (s : LogState D BlockRecord). s.log) gives.unchanged ∙ sym (append-nil old.log))
    got false h (Ok bytes) said gives = let k : Ok bytes ≡ Err why.NotExist = gives.missing h in absurd (cc)
    got true h (Err why.NotExist) said gives = let k : holds old.log reference ≡ false = gives.there refl in absurd (cc)
    got false h (Err why.NotExist) said gives =
        IsDone.Said refl (ap is_invalid said) [] (said, refl) (ap (λ (s : LogState D BlockRecord). s.log) gives.unchanged ∙ sym (append-nil old.log))
    got held h (Err (why.Full n)) said gives = absurd (gives.never_full n refl)
    got true h (Err why.Fault) said gives = IsDone.Failed refl said (gives.cause.rose refl) tt (ap (λ (s : LogState D BlockRecord). s.log) gives.unchanged)
    got false h (Err why.Fault) said gives = let k : Err why.Fault ≡ Err why.NotExist = gives.missing h in absurd (cc)
    got held h (Err why.OutOfMemory) said gives = IsDone.Wanting said (ap (λ (s : LogState D BlockRecord). s.log) gives.unchanged)

  gets : (found : Option (List ℕ)) (answer : Reply) → GetsBlock disks found old new answer → Done (reference_fault found) (get_leads old.log found) answer
  gets None answer h = IsDone.Refused Reference refl h.1 (same_log h.0)
  gets (Some reference) answer h = got reference answer (holds old.log reference) refl h.0 h.1 h.2

  -- ---- a record that is added

  -- the reply by what came of adding
  abbrev reply_by : (ℕ → Reply) → Result ℕ BlockWhy → Reply
  reply_by good (Ok position) = good position
  reply_by good (Err reason) = refused_reply reason

  module _ (rec meant : BlockRecord) (good : ℕ → Reply) (said : Reply) (answer : Reply) (same : SameRecord meant rec) (size : size_of rec ≡ size_of meant)
      (goes : (position : ℕ) → position ≡ length old.log + 1 → good position ≡ said) (valid : is_invalid said ≡ false) where
    adds : (full : Bool) → is_full old.limits (sizes_of old.log) (size_of rec) ≡ full → (added : Result ℕ BlockWhy) → answer ≡ reply_by good added → AddsBlock disks rec old new added
        → Done None (adding full (length old.log) meant said) answer
    adds true f (Ok position) is h = let k : Ok position ≡ Err (why.Full (length old.log)) = h.full f (λ e. cc) in absurd (cc)
    adds false f (Ok position) is h =
        let at : position ≡ length old.log + 1 = h.added.position ∙ ap length h.added.log ∙ length-append old.log (rec ∷ []) in
        let is_said : answer ≡ said = is ∙ goes position at in
        IsDone.Said refl (ap is_invalid is_said ∙ valid) (rec ∷ []) (is_said, (rec, refl, same)) h.added.log
    adds true f (Err (why.Full n)) is h =
        let both = h.full_only n refl in
        IsDone.Said refl (ap is_invalid is) [] (is ∙ ap (λ m. reply.Full m) both.1, refl) (h.added.log ∙ sym (append-nil old.log))
    adds false f (Err (why.Full n)) is h = let both = h.full_only n refl in absurd (cc)
    adds true f (Err why.Fault) is h = let k : Err why.Fault ≡ Err (why.Full (length old.log)) = h.full f (λ e. cc) in absurd (cc)
    adds false f (Err why.Fault) is h = IsDone.Failed refl is (h.cause.rose refl) tt h.added.log
    adds full f (Err why.OutOfMemory) is h = IsDone.Wanting is h.added.log
    adds full f (Err why.NotExist) is h = absurd (h.held refl)

    add : (added : Result ℕ BlockWhy) → answer ≡ reply_by good added → AddsBlock disks rec old new added → Done None (adding (is_full old.limits (sizes_of old.log) (size_of meant)) (length old.log) meant said) answer
    add added is h =
        subst (λ n. Done None (adding (is_full old.limits (sizes_of old.log) n) (length old.log) meant said) answer) size
        (adds (is_full old.limits (sizes_of old.log) (size_of rec)) refl added is h)

  -- ---- StorePut

  same_put : (told : Bool) (bytes : List ℕ) → SameRecord (put_record true bytes) (put_record told bytes)
  same_put true bytes = (Some bytes, refl, refl)
  same_put false bytes = (None, refl, tt)

  put_by : (bytes : List ℕ) (added : Result ℕ BlockWhy) → put_reply (with_reference (sha256 bytes) added) ≡ reply_by (λ position. reply.Ok (done.Reference (sha256 bytes))) added
  put_by bytes (Ok position) = refl
  put_by bytes (Err reason) = refl

  module _ (bytes : List ℕ) (answer : Reply) (put : Result (List ℕ) BlockWhy) (said : answer ≡ put_reply put) (puts : PutsBlock disks bytes old new put) where
    kept : (held : Bool) → holds old.log (sha256 bytes) ≡ held
        → Done None (if held then Leads.Says (reply.Ok (done.Reference (sha256 bytes)))
        else adding (is_full old.limits (sizes_of old.log) (size_of (put_record true bytes))) (length old.log) (put_record true bytes) (reply.Ok (done.Reference (sha256 bytes)))) answer
    kept true h =
        let both = puts.held h in
        let is : answer ≡ reply.Ok (done.Reference (sha256 bytes)) = said ∙ ap put_reply both.0 in
        IsDone.Said refl (ap is_invalid is) [] (is, refl) (same_log both.1 ∙ sym (append-nil old.log))
    kept false h =
        let fresh = puts.fresh h in
        add (put_record (is_some (disks.content old.disk)) bytes) (put_record true bytes) (λ position. reply.Ok (done.Reference (sha256 bytes))) (reply.Ok (done.Reference (sha256 bytes))) answer
        (same_put (is_some (disks.content old.disk)) bytes) refl (λ position at. refl) refl
        fresh.0 (said ∙ ap put_reply fresh.1 ∙ put_by bytes fresh.0) fresh.2

  puts : (long : Bool) (bytes : List ℕ) (answer : Reply) → PutsOf disks long bytes old new answer → Done (if long then Some Block else None) (put_leads old.limits old.log bytes) answer
  puts true bytes answer h = IsDone.Refused Block refl h.1 (same_log h.0)
  puts false bytes answer h = kept bytes answer h.0 h.1 h.2 (holds old.log (sha256 bytes)) refl

  -- ---- StoreDelete

  deleted_by : (added : Result ℕ BlockWhy) → deleted_reply added ≡ reply_by (λ position. reply.Ok (done.Changed position)) added
  deleted_by (Ok position) = refl
  deleted_by (Err reason) = refl

  module _ (reference : List ℕ) (answer : Reply) (deleted : Result ℕ BlockWhy) (said : answer ≡ deleted_reply deleted) (deletes : DeletesBlock disks reference old new deleted) where
    taken : (held : Bool) → holds old.log reference ≡ held
        → Done None (if not held then Leads.Says reply.NotExist
        else adding (is_full old.limits (sizes_of old.log) (size_of (block.Delete reference))) (length old.log) (block.Delete reference) (reply.Ok (done.Changed (length old.log + 1)))) answer
    taken false h =
        let both = deletes.missing h in
        let is : answer ≡ reply.NotExist = said ∙ ap deleted_reply both.0 in
        IsDone.Said refl (ap is_invalid is) [] (is, refl) (same_log both.1 ∙ sym (append-nil old.log))
    taken true h =
        add (block.Delete reference) (block.Delete reference) (λ position. reply.Ok (done.Changed position)) (reply.Ok (done.Changed (length old.log + 1))) answer
        refl refl (λ position at. ap (λ n. reply.Ok (done.Changed n)) at) refl
        deleted (said ∙ deleted_by deleted) (deletes.held h)

  by_operator : (is_operator : Bool) (reference : List ℕ) (answer : Reply) → DeletesBy disks is_operator reference old new answer
      → Done None (if not is_operator then Leads.Says (reply.Permission right.Delete)
      else if not (holds old.log reference) then Leads.Says reply.NotExist
      else adding (is_full old.limits (sizes_of old.log) (size_of (block.Delete reference))) (length old.log) (block.Delete reference) (reply.Ok (done.Changed (length old.log + 1)))) answer
  by_operator false reference answer h = IsDone.Said refl (ap is_invalid h.1) [] (h.1, refl) (same_log h.0 ∙ sym (append-nil old.log))
  by_operator true reference answer h = taken reference answer h.0 h.1 h.2 (holds old.log reference) refl

  deletes : (operator user : UserName) (found : Option (List ℕ)) (answer : Reply) → DeletesOf disks operator user found old new answer → Done (reference_fault found) (delete_leads operator user old.limits old.log found) answer
  deletes operator user None answer h = IsDone.Refused Reference refl h.1 (same_log h.0)
  deletes operator user (Some reference) answer h = by_operator (bytes_eq user operator) reference answer h

  -- ---- all three

  pub store_done : (operator user : UserName) (asked : Request) (answer : Reply) → StoreSteps disks operator user asked old new answer → Done (store_fault asked) (store_leads operator user asked old.limits old.log) answer
  unfolding store_leads
  store_done operator user (request.Get text) answer h = gets (reference_in text) answer h
  store_done operator user (request.StorePut bytes) answer h = puts (nat_lt largest_block (length bytes)) bytes answer h
  store_done operator user (request.StoreDelete text) answer h = deletes operator user (reference_in text) answer h
  store_done operator user (request.Lookup text) answer h = absurd h
  store_done operator user (request.Put put) answer h = absurd h
  store_done operator user (request.Delete text) answer h = absurd h
  store_done operator user (request.Glob text) answer h = absurd h
  store_done operator user (request.WhichAccess text) answer h = absurd h
  store_done operator user (request.Watch text sequence) answer h = absurd h
  store_done operator user (request.GroupText text) answer h = absurd h
  store_done operator user (request.KeyLookup text) answer h = absurd h
  store_done operator user (request.KeyPut card) answer h = absurd h
