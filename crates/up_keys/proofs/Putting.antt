-- A record that is put, or refused.
use Rattle.std.proofs.Common.{◌≡◌, ◌≢◌, ◌≤◌, ℕ, true, List, [], ◌∷◌, ◌++◌, length, Option, Some, None, is_some, Result, Ok, Err, IsErrAnd, refl, sym, ◌∙◌, ap, subst, ◌⊎◌, inl, inr, ⊎_elim, option_map, slice_get}
use Rattle.std.proofs.lemmas.List.Sums.{fold-append}
use Rattle.std.specs.FinMap.Entries.{find, put}
use Rattle.std.specs.Option.{option_and_then}
use Rattle.up_lists.specs.Counts.{HasCause}
use Rattle.up_lists.proofs.Causes.{HasCause-same, HasCause-weaker}
use Rattle.up_disk.specs.declared.disk.Disk.{Ghosts}
use Rattle.up_disk.proofs.Moments.{started}
use Rattle.up_disk.specs.Leaving.{Leaves, LeavesNow}
use Rattle.up_journal.specs.Journal.{IsSettled, MayHave, StandsFor, State, is_full, with_further}
use Rattle.up_journal.specs.Logs.{LogState, MayHaveLog, StandsForLog, log_state}
use Rattle.up_journal.specs.declared.fault.AppendWhy.{AppendWhy}
use Rattle.up_journal.specs.declared.fault.AppendWhy.TheVariants as append
use Rattle.up_journal.specs.declared.limits.Limits.{Limits}
use Rattle.up_journal.proofs.Logs.{adds_err, adds_none, adds_ok, fits_more, keeps_full, keeps_len}
use Rattle.up_keys.specs.Keys.{AreLast, IsKeys, PutsRecord}
use Rattle.up_keys.specs.Answers.{PutsAsked}
use Rattle.up_keys.specs.Records.{decoded, fits, has_bounds, keys_of, largest_room, record_in, records_in, user_cmp, with_record}
use Rattle.up_maps.specs.Numbers.{AreNumbers, given_by}
use Rattle.up_maps.proofs.Numbered.{numbers_found, numbers_put}
use Rattle.up_names.specs.Texts.{UserName}
use Rattle.up_wire.specs.Keys.{logged}
use Rattle.up_wire.specs.declared.keys.KeyRecord.{KeyRecord}
use Rattle.up_wire.specs.declared.replies.Reply.{Reply}
use Rattle.up_wire.specs.declared.replies.Reply.TheVariants as reply

-- ---- the numbers of the last records

keys_more : (log : List KeyRecord) (known : KeyRecord) → keys_of (log ++ known ∷ []) ≡ with_record (keys_of log) known
keys_more log known = fold-append with_record [] log (known ∷ [])

pub last_more : (log : List KeyRecord) (known : KeyRecord) (last : List (UserName × ℕ)) → AreLast log last
    → AreLast (log ++ known ∷ []) (put user_cmp known.user (length log) last)
last_more log known last are =
    subst (λ keys. AreNumbers Some (log ++ known ∷ []) (put user_cmp known.user (length log) last) keys) (sym (keys_more log known))
    (numbers_put Some user_cmp log known known.user known last (keys_of log) are refl)

abbrev fails : AppendWhy → Result ℕ AppendWhy
fails reason = Err reason

abbrev done : ℕ → Result ℕ AppendWhy
done position = Ok position

pub err_is : (result : Result ℕ AppendWhy) (reason : AppendWhy) → IsErrAnd result (λ found. found ≡ reason) → result ≡ Err reason
err_is (Ok position) reason is = absurd is
err_is (Err found) reason is = ap Err is

-- ---- what contracts see of it

module _ {D : Type 0} (disks : Ghosts D) where
  -- where there is no memory for it
  pub no_memory : ((disk : D) (image : List ℕ) → disks.left_since disk (disks.moment disk) image → disks.may_leave disk image) → (journal : State D) (log : List KeyRecord) (last : List (UserName × ℕ)) (known : KeyRecord) (result : Result ℕ AppendWhy)
      → IsKeys disks journal log last → result ≡ Err append.OutOfMemory → PutsRecord disks known (log_state decoded journal log) (log_state decoded journal log) result
  no_memory only_now journal log last known result kept is = subst (λ (r : Result ℕ AppendWhy). PutsRecord disks known (log_state decoded journal log) (log_state decoded journal log) r) (sym is) (record {
    added = adds_none disks decoded fits logged only_now journal log known append.OutOfMemory kept.keeps;
    full = λ _ other. absurd (other refl);
    full_only = λ n is. absurd (cc);
    untouched = λ _. refl;
    cause = HasCause-same (disks.faults journal.disk) (fails append.OutOfMemory ≡ fails append.Fault) (λ is. absurd (cc));
  })

  module _ (old new : State D) (log : List KeyRecord) (last : List (UserName × ℕ)) (known : KeyRecord) (payload : List ℕ) where
    read_again : decoded (logged known) ≡ Some known → payload ≡ logged known → decoded payload ≡ Some known
    read_again again spelled = ap decoded spelled ∙ again

    -- once its record is appended
    pub entered : (position : ℕ) → IsKeys disks old log last → has_bounds known ≡ true → decoded (logged known) ≡ Some known → payload ≡ logged known
        → new.sizes ≡ old.sizes ++ length payload ∷ [] → new.log ≡ with_further old.log (Some payload) → IsSettled new → new.limits ≡ old.limits → position ≡ length new.sizes
        → is_some (disks.content new.disk) ≡ is_some (disks.content old.disk)
        → Leaves disks old.disk new.disk (StandsFor new.limits.largest new.log new.further) (MayHave old.limits.largest old.log old.further payload)
        → (is_full old.limits old.sizes (length payload) ≡ true → ⊥) → HasCause (disks.faults old.disk) (disks.faults new.disk) ⊥
        → IsKeys disks new (log ++ known ∷ []) (put user_cmp known.user (length log) last) × PutsRecord disks known (log_state decoded old log) (log_state decoded new (log ++ known ∷ [])) (Ok position)
    entered position kept bounds again spelled sized longer settled same place told crash room cause =
        let adds = adds_ok disks decoded fits logged old new log known payload position kept.keeps (read_again again spelled) bounds spelled sized longer settled same place told crash in (
          record {
            keeps = adds.0;
            fitting = fits_more fits log known kept.fitting bounds;
            last_are = last_more log known last kept.last_are;
            room = subst (λ (l : Limits). largest_room ≤ l.largest) (sym same) kept.room;
          },
          record {
            added = adds.1;
            full = λ full _. absurd (room (keeps_full disks decoded fits logged old log known payload kept.keeps spelled ∙ full));
            full_only = λ n is. absurd (cc);
            untouched = tt;
            cause = HasCause-weaker (disks.faults old.disk) (disks.faults new.disk) ⊥ (done position ≡ fails append.Fault) cause (λ is. absurd (cc));
          },
        )

    -- once it is refused by the journal
    pub not_entered : (a : AppendWhy) → IsKeys disks old log last → has_bounds known ≡ true → decoded (logged known) ≡ Some known → payload ≡ logged known
        → new.sizes ≡ old.sizes → new.log ≡ old.log → new.limits ≡ old.limits → (new.further ≡ None) ⊎ ((new.further ≡ old.further) ⊎ (new.further ≡ Some payload))
        → is_some (disks.content new.disk) ≡ is_some (disks.content old.disk)
        → Leaves disks old.disk new.disk (StandsFor new.limits.largest new.log new.further) (MayHave old.limits.largest old.log old.further payload)
        → (is_full old.limits old.sizes (length payload) ≡ true → a ≡ append.Full (length old.sizes))
        → ((n : ℕ) → a ≡ append.Full n → (is_full old.limits old.sizes (length payload) ≡ true) × (n ≡ length old.sizes))
        → (a ≢ append.Fault → new ≡ old) → HasCause (disks.faults old.disk) (disks.faults new.disk) (a ≡ append.Fault)
        → IsKeys disks new log last × PutsRecord disks known (log_state decoded old log) (log_state decoded new log) (Err a)
    not_entered a kept bounds again spelled sized same_log same which told crash full full_only untouched cause =
        let adds = adds_err disks decoded fits logged old new log known payload a kept.keeps (read_again again spelled) bounds sized same_log same which told crash in
        let limit = keeps_full disks decoded fits logged old log known payload kept.keeps spelled in
        let count = keeps_len disks decoded fits logged old log kept.keeps in (
          record { keeps = adds.0; fitting = kept.fitting; last_are = kept.last_are; room = subst (λ (l : Limits). largest_room ≤ l.largest) (sym same) kept.room },
          record {
            added = adds.1;
            full = λ is_full _. ap Err (full (limit ∙ is_full) ∙ ap append.Full count);
            full_only = λ n is. let found = full_only n (err_inj a (append.Full n) is) in (sym limit ∙ found.0, found.1 ∙ count);
            untouched = λ other. ap (λ (j : State D). log_state decoded j log) (untouched other);
            cause = HasCause-weaker (disks.faults old.disk) (disks.faults new.disk) (a ≡ append.Fault) (fails a ≡ fails append.Fault) cause (err_inj a append.Fault);
          },
        )
      where
        err_inj : (a b : AppendWhy) → fails a ≡ fails b → a ≡ b
        err_inj a b is = cc

-- ---- where a record is

pub lookup_none : (log : List KeyRecord) (last : List (UserName × ℕ)) (user : UserName) → AreLast log last → find user_cmp user last ≡ None → record_in log user ≡ None
lookup_none log last user are none = by_found (record_in log user) (sym (numbers_found Some user_cmp user log last (keys_of log) are) ∙ ap (option_map (given_by Some log)) none)
  where
    by_found : (found : Option KeyRecord) → option_map Some found ≡ None → found ≡ None
    by_found None is = refl
    by_found (Some known) is = absurd (cc)

pub lookup_some : (log : List KeyRecord) (last : List (UserName × ℕ)) (user : UserName) (number : ℕ) → AreLast log last → find user_cmp user last ≡ Some number → record_in log user ≡ slice_get log number
lookup_some log last user number are some = by_found (record_in log user) (slice_get log number) refl (sym (numbers_found Some user_cmp user log last (keys_of log) are) ∙ ap (option_map (given_by Some log)) some)
  where
    by_found : (found at : Option KeyRecord) → slice_get log number ≡ at → option_map Some found ≡ Some (option_and_then Some (slice_get log number)) → found ≡ at
    by_found None at at_is is = absurd (cc)
    by_found (Some known) None at_is is = absurd (let both : Some (Some known) ≡ Some None = is ∙ ap (λ o. Some (option_and_then Some o)) at_is in cc)
    by_found (Some known) (Some other) at_is is =
        let both : Some (Some known) ≡ Some (Some other) = is ∙ ap (λ o. Some (option_and_then Some o)) at_is in
        let same : known ≡ other = cc in
        ap Some same

-- ---- a put that is refused, or finds no memory

abbrev refuses : Reply → Result KeyRecord Reply
refuses refusal = Err refusal

is_memory : (answer : Reply) → (answer ≡ reply.OutOfMemory) ⊎ (answer ≢ reply.OutOfMemory)
is_memory (reply.Ok done) = inr (λ is. cc)
is_memory (reply.Invalid what) = inr (λ is. cc)
is_memory reply.WrongHost = inr (λ is. cc)
is_memory (reply.FollowLink entry) = inr (λ is. cc)
is_memory reply.Private = inr (λ is. cc)
is_memory (reply.Permission right) = inr (λ is. cc)
is_memory reply.NotExist = inr (λ is. cc)
is_memory reply.NotDir = inr (λ is. cc)
is_memory reply.IsDir = inr (λ is. cc)
is_memory reply.Exist = inr (λ is. cc)
is_memory (reply.BadSequence sequence) = inr (λ is. cc)
is_memory reply.NotEmpty = inr (λ is. cc)
is_memory (reply.BadBlock reference) = inr (λ is. cc)
is_memory (reply.BadText line) = inr (λ is. cc)
is_memory (reply.TooLarge size) = inr (λ is. cc)
is_memory (reply.Full records) = inr (λ is. cc)
is_memory reply.Io = inr (λ is. cc)
is_memory reply.OutOfMemory = inl refl

module _ {D : Type 0} (disks : Ghosts D) (only_now : (disk : D) (image : List ℕ) → disks.left_since disk (disks.moment disk) image → disks.may_leave disk image) (keys : LogState D KeyRecord)
    (safe : LeavesNow disks keys.disk (StandsForLog (records_in keys.limits.largest) keys.log keys.further)) where
  wanting : (known : KeyRecord) → PutsRecord disks known keys keys (Err append.OutOfMemory)
  wanting known = record {
    added = record {
      log = refl;
      position = tt;
      settled = tt;
      limits = refl;
      further = inr (inl refl);
      told = refl;
      acknowledged = tt;
      crash = record {
        safe = safe.each;
        any_moment = started disks.moment disks.left_since keys.disk (MayHaveLog (records_in keys.limits.largest) keys.log keys.further known)
            (λ image left. inl (safe.each image (only_now keys.disk image left)));
      };
    };
    full = λ _ other. absurd (other refl);
    full_only = λ n is. absurd (cc);
    untouched = λ _. refl;
    cause = HasCause-same (disks.faults keys.disk) (fails append.OutOfMemory ≡ fails append.Fault) (λ is. absurd (cc));
  }

  pub refused : (meant : Result KeyRecord Reply) (refusal : Reply) → (refusal ≢ reply.OutOfMemory → meant ≡ Err refusal) → PutsAsked disks meant keys keys refusal
  refused (Err other) refusal means = (refl, λ some. same (means some))
    where
      same : refuses other ≡ refuses refusal → refusal ≡ other
      same is = cc
  refused (Ok known) refusal means = ⊎_elim (λ is. (Err append.OutOfMemory, is, wanting known)) (λ other. absurd (let both = means other in cc)) (is_memory refusal)
