-- What a request to the keys came to, by what it leads to over the log before it.
use Rattle.std.proofs.Common.{◌≡◌, ◌≢◌, ◌+◌, ℕ, Bool, true, false, not, [], ◌∷◌, length, refl, sym, ap, ◌∙◌, Option, Some, None, Result, Ok, Err, length-append, append-nil}
use Rattle.std.specs.Prelude.{if◌then◌else◌}
use Rattle.up_disk.specs.declared.disk.Disk.{Ghosts}
use Rattle.up_entry.specs.declared.what.What.{What}
use Rattle.up_entry.specs.declared.what.What.TheVariants.{Key, Name}
use Rattle.up_calls.specs.Done.{IsDone, is_invalid}
use Rattle.up_calls.specs.Services.{KeysSay, Leads, adding, card_fault, card_leads, key_fault, key_leads, lookup_fault}
use Rattle.up_journal.specs.Journal.{is_full}
use Rattle.up_journal.specs.Logs.{LogState}
use Rattle.up_journal.specs.declared.fault.AppendWhy.{AppendWhy}
use Rattle.up_journal.specs.declared.fault.AppendWhy.TheVariants as append
use Rattle.up_keys.specs.Answers.{KeySteps, PutsAsked, known_reply, looked_up, may_put, put_reply, record_of, reply_of_name, to_put, to_put_named}
use Rattle.up_keys.specs.Keys.{PutsRecord, sizes_of}
use Rattle.up_keys.specs.Records.{keeps_bounds, record_in}
use Rattle.up_names.specs.Texts.{UserName}
use Rattle.up_names.specs.UserNames.{user_of}
use Rattle.up_names.specs.declared.fault.NameFault.{NameFault}
use Rattle.up_rights.specs.declared.Right.TheVariants.{Write}
use Rattle.up_wire.specs.Keys.{logged}
use Rattle.up_wire.specs.declared.keys.KeyCard.{KeyCard}
use Rattle.up_wire.specs.declared.keys.KeyRecord.{KeyRecord}
use Rattle.up_wire.specs.declared.replies.Done.TheVariants as done
use Rattle.up_wire.specs.declared.replies.Reply.{Reply}
use Rattle.up_wire.specs.declared.replies.Reply.TheVariants as reply
use Rattle.up_wire.specs.declared.requests.Request.{Request}
use Rattle.up_wire.specs.declared.requests.Request.TheVariants as request

-- a reply that does not tell of want of memory, or one that does
data Wants (answer : Reply) : Type 0 where
  Does : answer ≡ reply.OutOfMemory → Wants answer
  DoesNot : answer ≢ reply.OutOfMemory → Wants answer

wants : (answer : Reply) → Wants answer
wants reply.OutOfMemory = Wants.Does refl
wants (reply.Ok what) = Wants.DoesNot (λ e. cc)
wants (reply.Invalid what) = Wants.DoesNot (λ e. cc)
wants reply.WrongHost = Wants.DoesNot (λ e. cc)
wants (reply.FollowLink entry) = Wants.DoesNot (λ e. cc)
wants reply.Private = Wants.DoesNot (λ e. cc)
wants (reply.Permission right) = Wants.DoesNot (λ e. cc)
wants reply.NotExist = Wants.DoesNot (λ e. cc)
wants reply.NotDir = Wants.DoesNot (λ e. cc)
wants reply.IsDir = Wants.DoesNot (λ e. cc)
wants reply.Exist = Wants.DoesNot (λ e. cc)
wants (reply.BadSequence sequence) = Wants.DoesNot (λ e. cc)
wants reply.NotEmpty = Wants.DoesNot (λ e. cc)
wants (reply.BadBlock reference) = Wants.DoesNot (λ e. cc)
wants (reply.BadText line) = Wants.DoesNot (λ e. cc)
wants (reply.TooLarge size) = Wants.DoesNot (λ e. cc)
wants (reply.Full records) = Wants.DoesNot (λ e. cc)
wants reply.Io = Wants.DoesNot (λ e. cc)

module _ {D : Type 0} (disks : Ghosts D) (old new : LogState D KeyRecord) where
  abbrev Done : Option What → Leads KeyRecord → Reply → Type 0
  Done fault leads answer = IsDone (λ log. KeysSay) fault leads old.log new.log (disks.faults old.disk) (disks.faults new.disk) answer

  same_log : new ≡ old → new.log ≡ old.log
  same_log h = ap (λ (s : LogState D KeyRecord). s.log) h

  -- a reply that adds nothing
  says : (answer meant : Reply) → is_invalid meant ≡ false → new ≡ old → (answer ≢ reply.OutOfMemory → answer ≡ meant) → Done None (Leads.Says meant) answer
  says answer meant valid same h = elim (wants answer) [
    | Wants.Does e ↦ IsDone.Wanting e (same_log same)
    | Wants.DoesNot n ↦ IsDone.Said refl (ap is_invalid (h n) ∙ valid) [] (h n, refl) (same_log same ∙ sym (append-nil old.log))
  ]

  refuses : (what : What) (answer : Reply) (leads : Leads KeyRecord) → new ≡ old → (answer ≢ reply.OutOfMemory → answer ≡ reply.Invalid what) → Done (Some what) leads answer
  refuses what answer leads same h = elim (wants answer) [
    | Wants.Does e ↦ IsDone.Wanting e (same_log same)
    | Wants.DoesNot n ↦ IsDone.Refused what refl (h n) (same_log same)
  ]

  -- ---- KeyLookup

  valid_known : (found : Option KeyRecord) → is_invalid (known_reply found) ≡ false
  valid_known None = refl
  valid_known (Some known) = refl

  looks : (named : Result UserName NameFault) (answer : Reply) → new ≡ old → (answer ≢ reply.OutOfMemory → answer ≡ reply_of_name old.log named) → Done (lookup_fault named) (Leads.Says (reply_of_name old.log named)) answer
  looks (Ok user) answer same h = says answer (known_reply (record_in old.log user)) (valid_known (record_in old.log user)) same h
  looks (Err fault) answer same h = refuses Name answer _ same h

  -- ---- KeyPut

  adds : (known : KeyRecord) (answer : Reply) (full : Bool) → is_full old.limits (sizes_of old.log) (length (logged known)) ≡ full → (put : Result ℕ AppendWhy) → answer ≡ put_reply put → PutsRecord disks known old new put
      → Done None (adding full (length old.log) known (reply.Ok (done.Changed (length old.log + 1)))) answer
  adds known answer true f (Ok position) is h = let k : Ok position ≡ Err (append.Full (length old.log)) = h.full f (λ e. cc) in absurd (cc)
  adds known answer false f (Ok position) is h =
      let at : position ≡ length old.log + 1 = h.added.position ∙ ap length h.added.log ∙ length-append old.log (known ∷ []) in
      let said : answer ≡ reply.Ok (done.Changed (length old.log + 1)) = is ∙ ap (λ n. reply.Ok (done.Changed n)) at in
      IsDone.Said refl (ap is_invalid said) (known ∷ []) (said, refl) h.added.log
  adds known answer true f (Err (append.Full n)) is h =
      let both = h.full_only n refl in
      IsDone.Said refl (ap is_invalid is) [] (is ∙ ap (λ m. reply.Full m) both.1, refl) (h.added.log ∙ sym (append-nil old.log))
  adds known answer false f (Err (append.Full n)) is h = let both = h.full_only n refl in absurd (cc)
  adds known answer true f (Err append.Fault) is h = let k : Err append.Fault ≡ Err (append.Full (length old.log)) = h.full f (λ e. cc) in absurd (cc)
  adds known answer false f (Err append.Fault) is h = IsDone.Failed refl is (h.cause.rose refl) tt h.added.log
  adds known answer full f (Err append.OutOfMemory) is h = IsDone.Wanting is h.added.log

  puts_named : (user named : UserName) (card : KeyCard) (bounds may : Bool) (answer : Reply)
      → PutsAsked disks (if not bounds then Err (reply.Invalid Key) else if not may then Err (reply.Permission Write) else Ok (record_of named card)) old new answer
      → Done (if bounds then None else Some Key) (card_leads old.limits old.log (if not bounds then Err (reply.Invalid Key) else if not may then Err (reply.Permission Write) else Ok (record_of named card))) answer
  puts_named user named card false may answer h = refuses Key answer _ h.0 h.1
  puts_named user named card true false answer h = says answer (reply.Permission Write) refl h.0 h.1
  puts_named user named card true true answer h = adds (record_of named card) answer (is_full old.limits (sizes_of old.log) (length (logged (record_of named card)))) refl h.0 h.1 h.2

  puts_card : (user : UserName) (card : KeyCard) (named : Result UserName NameFault) (answer : Reply) → PutsAsked disks (to_put_named user card named) old new answer → Done (card_fault card named) (card_leads old.limits old.log (to_put_named user card named)) answer
  puts_card user card (Ok named) answer h = puts_named user named card (keeps_bounds card.dirs card.stores card.key) (may_put user named) answer h
  puts_card user card (Err fault) answer h = refuses Name answer _ h.0 h.1

  pub keys_done : (user : UserName) (asked : Request) (answer : Reply) → KeySteps disks user asked old new answer → Done (key_fault asked) (key_leads user asked old.limits old.log) answer
  unfolding key_leads looked_up to_put
  keys_done user (request.KeyLookup text) answer h = looks (user_of text) answer h.0 h.1
  keys_done user (request.KeyPut card) answer h = puts_card user card (user_of card.user) answer h
  keys_done user (request.Lookup text) answer h = absurd h
  keys_done user (request.Put put) answer h = absurd h
  keys_done user (request.Delete text) answer h = absurd h
  keys_done user (request.Glob text) answer h = absurd h
  keys_done user (request.WhichAccess text) answer h = absurd h
  keys_done user (request.Watch text sequence) answer h = absurd h
  keys_done user (request.GroupText text) answer h = absurd h
  keys_done user (request.Get text) answer h = absurd h
  keys_done user (request.StorePut bytes) answer h = absurd h
  keys_done user (request.StoreDelete text) answer h = absurd h
