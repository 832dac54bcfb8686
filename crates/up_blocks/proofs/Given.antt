-- What is opened, told and given of a store.
use Rattle.std.proofs.Common.{◌≡◌, ◌≢◌, ◌≤◌, ◌<◌, ◌+◌, ◌-◌, IfSome, ℕ, Bool, true, false, cond, eqb, ◌&&◌, List, [], ◌∷◌, length, map, drop, Option, Some, None, is_some, IsSome, option_map, Result, Ok, Err, refl, sym, ap, ◌∙◌, subst, arith, slice_get}
use Rattle.std.specs.FinMap.Entries.{find}
use Rattle.std.specs.List.{AllByRecursion}
use Rattle.std.specs.Option.{option_and_then}
use Rattle.up_blocks.specs.Kept.{IsIndex, IsStore, Keeps, block_of, further_seen, kept_of, log_seen, record_of, record_or, size_kept, size_put, spelling, store_state, untold}
use Rattle.up_blocks.specs.Records.{IsTold, block_in, blocks_in, blocks_of, decoded, fits, held_sizes, holds, largest_room, put_record, reference_cmp, size_in, size_of}
use Rattle.up_blocks.specs.declared.record.BlockRecord.{BlockRecord}
use Rattle.up_blocks.specs.declared.record.BlockRecord.TheVariants.{Put, Delete}
use Rattle.up_blocks.specs.declared.record.Kept.{Kept}
use Rattle.up_blocks.specs.declared.record.Kept.TheVariants as kept
use Rattle.up_blocks.specs.Blocks.{GivesBlock, why_of_read}
use Rattle.up_blocks.specs.declared.fault.BlockWhy.{BlockWhy}
use Rattle.up_blocks.specs.declared.fault.BlockWhy.TheVariants as why
use Rattle.up_blocks.proofs.Indexed.{index_holds, payload_at, size_untold}
use Rattle.up_blocks.proofs.Stored.{count_is, resolved_at, safe_at, sizes_seen}
use Rattle.up_disk.proofs.Moments.{started}
use Rattle.up_lists.specs.Counts.{HasCause}
use Rattle.up_lists.proofs.Causes.{HasCause-same, HasCause-weaker}
use Rattle.up_journal.specs.declared.fault.ReadWhy.{ReadWhy}
use Rattle.up_journal.specs.declared.fault.ReadWhy.TheVariants as read
use Rattle.std.proofs.lemmas.Option.{slice_get-map, slice_get_within}
use Rattle.up_disk.specs.declared.disk.Disk.{Ghosts}
use Rattle.up_disk.specs.Leaving.{Leaves, LeavesNow}
use Rattle.up_journal.specs.Journal.{HasLog, IsSettled, StandsFor, State}
use Rattle.up_journal.specs.Logs.{EachFits, OpensLog, ResolvesLog, StandsForLog, log_step}
use Rattle.up_journal.specs.Opened.{IsLogOf}
use Rattle.up_journal.specs.Records.{OnlyPayloads, replay}
use Rattle.up_journal.specs.declared.limits.Limits.{Limits}
use Rattle.up_journal.proofs.Logs.{opens_log}
use Rattle.up_maps.specs.Numbers.{given_by}
use Rattle.up_maps.proofs.Numbered.{numbers_found}

-- ---- each record of a told payload is told

told_payload : (payload : List ℕ) → IsTold true (record_of payload)
unfolding decoded
told_payload [] = tt
told_payload (tag ∷ bytes) = by_put (eqb tag 1)
  where
    by_delete : (b : Bool) → IsTold true (record_or (cond b (Some (Delete bytes)) None))
    by_delete true = tt
    by_delete false = tt

    by_put : (b : Bool) → IsTold true (record_or (cond b (Some (put_record true bytes)) (cond (eqb tag 2 && eqb (length bytes) 32) (Some (Delete bytes)) None)))
    by_put true = (refl, refl, refl)
    by_put false = by_delete (eqb tag 2 && eqb (length bytes) 32)

-- the bytes of a block that is put are those behind the first
told_bytes : (payload : List ℕ) (block : Option (List ℕ)) → block_of (record_of payload) ≡ Some block → block ≡ Some (drop 1 payload)
unfolding decoded
told_bytes [] block is = absurd (cc)
told_bytes (tag ∷ bytes) block is = by_put (eqb tag 1) is
  where
    by_delete : (b : Bool) → block_of (record_or (cond b (Some (Delete bytes)) None)) ≡ Some block → block ≡ Some bytes
    by_delete true is = absurd (cc)
    by_delete false is = absurd (cc)

    by_put : (b : Bool) → block_of (record_or (cond b (Some (put_record true bytes)) (cond (eqb tag 2 && eqb (length bytes) 32) (Some (Delete bytes)) None))) ≡ Some block → block ≡ Some bytes
    by_put true is = (let same : Some bytes ≡ block = cc in sym same)
    by_put false is = by_delete (eqb tag 2 && eqb (length bytes) 32) is

untold_kept : (change : Kept) → IsTold false (untold change)
untold_kept (kept.Put reference size) = refl
untold_kept (kept.Delete reference) = tt

pub all_told : (told : Option (List (List ℕ))) (records : List Kept) → AllByRecursion (IsTold (is_some told)) (log_seen told records)
all_told None records = each records
  where
    each : (records : List Kept) → AllByRecursion (IsTold false) (map untold records)
    each [] = tt
    each (change ∷ records) = (untold_kept change, each records)
all_told (Some payloads) records = each payloads
  where
    each : (payloads : List (List ℕ)) → AllByRecursion (IsTold true) (map record_of payloads)
    each [] = tt
    each (payload ∷ payloads) = (told_payload payload, each payloads)

-- ---- opening

spelled_size : (payload : List ℕ) → length (spelling (record_of payload)) ≡ size_kept (kept_of (record_of payload))
spelled_size payload = by_found (decoded payload) refl
  where
    by_found : (found : Option BlockRecord) → decoded payload ≡ found → length (spelling (record_or found)) ≡ size_kept (kept_of (record_or found))
    by_found None is = refl
    by_found (Some rec) is = let p = payload_at payload rec is in ap length (sym p.spelled) ∙ sym p.size ∙ sym (size_untold rec)

spelled_sizes : (payloads : List (List ℕ)) → map (λ rec. length (spelling rec)) (map record_of payloads) ≡ map size_kept (map kept_of (map record_of payloads))
spelled_sizes [] = refl
spelled_sizes (payload ∷ payloads) =
    ap (λ n. n ∷ map (λ rec. length (spelling rec)) (map record_of payloads)) (spelled_size payload) ∙ ap (λ ns. size_kept (kept_of (record_of payload)) ∷ ns) (spelled_sizes payloads)

module _ {D : Type 0} (disks : Ghosts D) where
  no_content : (largest : ℕ) (content : Option (List ℕ)) (P : List ℕ → Type 0) → IsLogOf largest content None → IfSome content P
  no_content largest None P is = tt
  no_content largest (Some bytes) P is = absurd (cc)

  pub opens_at : (disk : D) (limits : Limits) (opened read : State D) (was : Option (List (List ℕ))) (records : List Kept) (numbers : List (List ℕ × ℕ)) → opened.log ≡ was
      → IsLogOf limits.largest (disks.content disk) opened.log → IsSettled opened → opened.limits ≡ limits
      → LeavesNow disks opened.disk (HasLog limits.largest opened.log) → opened.sizes ≡ map size_kept records → IsIndex (log_seen was records) records numbers
      → ((payloads : List (List ℕ)) → opened.log ≡ Some payloads → replay (log_step decoded fits) [] payloads ≡ Ok (map record_of payloads)) → OnlyPayloads disks opened read
      → Keeps disks read was × OpensLog disks blocks_in limits disk (store_state read was records)
  opens_at disk limits opened read None records numbers was_is log_is settled same safe sized index whole reads =
      let none : LeavesNow disks read.disk (λ image. ⊥) = record { each = λ image left. none_has image (subst (λ l. HasLog limits.largest l image) was_is (safe.each image (reads.fewer image left))) } in (
        none,
        record {
          log = no_content limits.largest (disks.content disk) _ (subst (λ l. IsLogOf limits.largest (disks.content disk) l) was_is log_is);
          settled = record { settled = ap (λ (j : State D). j.doubtful) reads.unchanged ∙ settled.settled; nothing = refl };
          limits_are = ap (λ (j : State D). j.limits) reads.unchanged ∙ same;
          safe = record { each = λ image left. absurd (none.each image left) };
        },
      )
    where
      none_has : (image : List ℕ) → HasLog limits.largest None image → ⊥
      none_has image has = none_is has.payloads has.told
        where
          none_is : (payloads : List (List ℕ)) → None ≡ Some payloads → ⊥
          none_is payloads is = cc
  opens_at disk limits opened read (Some payloads) records numbers was_is log_is settled same safe sized index whole reads =
      opens_log disks decoded fits spelling disk limits opened read (map record_of payloads) log_is settled same safe
      (sized ∙ ap (map size_kept) (sym index.same) ∙ sym (spelled_sizes payloads)) (λ ps told. whole ps told ∙ ap (λ l. Ok (map record_of l)) (same_payloads ps (sym told ∙ was_is))) reads
    where
      same_payloads : (ps : List (List ℕ)) → Some ps ≡ Some payloads → ps ≡ payloads
      same_payloads ps is = cc

  -- the whole of it
  pub opens_store : (disk : D) (limits : Limits) (opened read : State D) (records : List Kept) (numbers : List (List ℕ × ℕ)) → largest_room ≤ limits.largest
      → IsLogOf limits.largest (disks.content disk) opened.log → IsSettled opened → opened.limits ≡ limits
      → LeavesNow disks opened.disk (HasLog limits.largest opened.log) → opened.sizes ≡ map size_kept records → IsIndex (log_seen opened.log records) records numbers → EachFits fits (log_seen opened.log records)
      → ((payloads : List (List ℕ)) → opened.log ≡ Some payloads → replay (log_step decoded fits) [] payloads ≡ Ok (map record_of payloads)) → OnlyPayloads disks opened read
      → IsStore disks read records numbers × OpensLog disks blocks_in limits disk (store_state read read.log records)
  opens_store disk limits opened read records numbers room log_is settled same safe sized index fitting whole reads =
      let same_log : read.log ≡ opened.log = ap (λ (j : State D). j.log) reads.unchanged in
      let index_read = subst (λ l. IsIndex (log_seen l records) records numbers) (sym same_log) index in
      let both = opens_at disk limits opened read read.log records numbers (sym same_log) log_is settled same safe sized index_read whole reads in (
        record {
          sizes = ap (λ (j : State D). j.sizes) reads.unchanged ∙ sized;
          keeps = both.0;
          fitting = subst (λ l. EachFits fits (log_seen l records)) (sym same_log) fitting;
          index = index_read;
          room = subst (λ (l : Limits). largest_room ≤ l.largest) (sym (ap (λ (j : State D). j.limits) reads.unchanged ∙ same)) room;
        },
        both.1,
      )

-- ---- where a block is

-- the record of a block that is held: its number, and what it is
pub record IsHeld (log : List BlockRecord) (number : ℕ) (found : Option (Option (List ℕ))) : Type 0 where
  pub rec : BlockRecord
  pub at : slice_get log number ≡ Some rec
  pub block : Option (List ℕ)
  pub is : block_of rec ≡ Some block
  pub found_is : found ≡ Some block

pub held_at : (log : List BlockRecord) (records : List Kept) (numbers : List (List ℕ × ℕ)) (reference : List ℕ) (number : ℕ) → IsIndex log records numbers → find reference_cmp reference numbers ≡ Some number
    → IsHeld log number (block_in log reference)
held_at log records numbers reference number index at =
    by_found (block_in log reference) (ap (option_map (given_by block_of log)) (sym at) ∙ numbers_found block_of reference_cmp reference log numbers (blocks_of log) index.held)
  where
    by_record : (found : Option BlockRecord) (block : Option (List ℕ)) → slice_get log number ≡ found → option_and_then block_of found ≡ Some block → IsHeld log number (Some block)
    by_record None block at given = absurd (cc)
    by_record (Some rec) block at given = record { rec = rec; at = at; block = block; is = given; found_is = refl }

    by_found : (found : Option (Option (List ℕ))) → Some (given_by block_of log number) ≡ option_map Some found → IsHeld log number found
    by_found None given = absurd (cc)
    by_found (Some block) given = let is : given_by block_of log number ≡ Some block = cc in by_record (slice_get log number) block refl is

-- what is read of a block that is held is what is told of it
pub read_is : (told : Option (List (List ℕ))) (records : List Kept) (number : ℕ) (found : Option (Option (List ℕ))) (bytes : List ℕ) → IsHeld (log_seen told records) number found → IsSome told
    → IfSome told (λ log. option_map (drop 1) (slice_get log (number + 1 - 1)) ≡ Some bytes) → found ≡ Some (Some bytes)
read_is None records number found bytes held some read = absurd (cc)
read_is (Some payloads) records number found bytes held some read =
    by_payload (slice_get payloads number) (sym (slice_get-map record_of payloads number) ∙ held.at)
    (subst (λ (n : ℕ). option_map (drop 1) (slice_get payloads n) ≡ Some bytes) (omega arith) read)
  where
    by_payload : (at : Option (List ℕ)) → option_map record_of at ≡ Some held.rec → option_map (drop 1) at ≡ Some bytes → found ≡ Some (Some bytes)
    by_payload None rec_is read = absurd (cc)
    by_payload (Some payload) rec_is read =
        let same : record_of payload ≡ held.rec = cc in
        let bytes_are : drop 1 payload ≡ bytes = cc in
        held.found_is ∙ ap Some (told_bytes payload held.block (ap block_of same ∙ held.is) ∙ ap Some bytes_are)

-- what is read of a block that is held has its size
pub size_read : (log : List BlockRecord) (records : List Kept) (numbers : List (List ℕ × ℕ)) (reference bytes : List ℕ) (number : ℕ) (sizes : List ℕ) → IsIndex log records numbers → find reference_cmp reference numbers ≡ Some number
    → sizes ≡ map size_kept records → option_map (λ size. size - 1) (slice_get sizes (number + 1 - 1)) ≡ Some (length bytes) → size_in log reference ≡ Some (length bytes)
size_read log records numbers reference bytes number sizes index at kept read =
    by_record (slice_get log number) (size_in log reference)
    (ap (option_map (given_by size_put log)) (sym at) ∙ numbers_found size_put reference_cmp reference log numbers (held_sizes log) index.sized)
    (sym (ap (option_map (λ size. size - 1)) seen) ∙ subst (λ (n : ℕ). option_map (λ size. size - 1) (slice_get sizes n) ≡ Some (length bytes)) (omega arith) read)
  where
    seen : slice_get sizes number ≡ option_map size_of (slice_get log number)
    seen = ap (λ s. slice_get s number) (kept ∙ sym (sizes_seen log records numbers index)) ∙ slice_get-map size_of log number

    by_put : (size : ℕ) (found : Option ℕ) → Some (Some size) ≡ option_map Some found → Some (size + 1 - 1) ≡ Some (length bytes) → found ≡ Some (length bytes)
    by_put size None given read = absurd (cc)
    by_put size (Some s) given read =
        let same : size ≡ s = cc in
        let long : size + 1 - 1 ≡ length bytes = cc in
        let is : s ≡ length bytes = omega (arith, same, long) in
        ap Some is

    by_delete : (found : Option ℕ) → Some None ≡ option_map Some found → found ≡ Some (length bytes)
    by_delete None given = absurd (cc)
    by_delete (Some s) given = absurd (cc)

    by_record : (rec : Option BlockRecord) (found : Option ℕ) → Some (option_and_then size_put rec) ≡ option_map Some found → option_map (λ size. size - 1) (option_map size_of rec) ≡ Some (length bytes) → found ≡ Some (length bytes)
    by_record None found given read = absurd (cc)
    by_record (Some (Put r size block)) found given read = by_put size found given read
    by_record (Some (Delete r)) found given read = by_delete found given

module _ {D : Type 0} (disks : Ghosts D) where
  abbrev failed : BlockWhy → Result (List ℕ) BlockWhy
  failed reason = Err reason

  -- a block that is not held
  pub gives_missing : ((disk : D) (image : List ℕ) → disks.left_since disk (disks.moment disk) image → disks.may_leave disk image) → (journal : State D) (records : List Kept) (numbers : List (List ℕ × ℕ)) (reference : List ℕ)
      → IsStore disks journal records numbers → find reference_cmp reference numbers ≡ None
      → GivesBlock disks reference (store_state journal journal.log records) (store_state journal journal.log records) (failed why.NotExist)
  gives_missing only_now journal records numbers reference kept none =
      let safe = safe_at disks journal records journal.log kept.keeps in
      record {
        missing = λ _. refl;
        there = λ _. sym (index_holds (log_seen journal.log records) records numbers reference kept.index) ∙ ap is_some none;
        found = tt;
        size = tt;
        never_full = λ n is. cc;
        unchanged = refl;
        content = refl;
        untouched = λ _. refl;
        cause = HasCause-same (disks.faults journal.disk) (failed why.NotExist ≡ failed why.Fault) (λ is. absurd (cc));
        crash = record {
          safe = safe.each;
          any_moment = started disks.moment disks.left_since journal.disk (StandsForLog (blocks_in journal.limits.largest) (log_seen journal.log records) (further_seen journal.log journal.further))
              (λ image left. safe.each image (only_now journal.disk image left));
        };
      }

  pub number_within : (journal : State D) (records : List Kept) (numbers : List (List ℕ × ℕ)) (reference : List ℕ) (number : ℕ) → IsStore disks journal records numbers → find reference_cmp reference numbers ≡ Some number
      → number < length journal.sizes
  number_within journal records numbers reference number kept at =
      let held = held_at (log_seen journal.log records) records numbers reference number kept.index at in
      let within = slice_get_within (log_seen journal.log records) number held.rec held.at in
      let count = count_is disks journal records numbers kept in
      omega (arith, within, count)

  module _ (old new : State D) (records : List Kept) (numbers : List (List ℕ × ℕ)) (reference : List ℕ) (number : ℕ) (kept : IsStore disks old records numbers) (at : find reference_cmp reference numbers ≡ Some number)
      (unchanged : new ≡ record old { disk = new.disk }) (content : disks.content new.disk ≡ disks.content old.disk)
      (crash : Leaves disks old.disk new.disk (StandsFor new.limits.largest new.log new.further) (StandsFor old.limits.largest old.log old.further)) where
    is_held : IsHeld (log_seen old.log records) number (block_in (log_seen old.log records) reference)
    is_held = held_at (log_seen old.log records) records numbers reference number kept.index at

    holds_it : holds (log_seen old.log records) reference ≡ true
    holds_it = sym (index_holds (log_seen old.log records) records numbers reference kept.index) ∙ ap is_some at

    same_log : new.log ≡ old.log
    same_log = ap (λ (j : State D). j.log) unchanged

    read_on : Keeps disks new new.log × ResolvesLog {E = BlockWhy} disks blocks_in (store_state old old.log records) (store_state new new.log records) (Err why.Fault)
    read_on =
        resolved_at disks {E = BlockWhy} (Err why.Fault) old new records old.log new.log refl refl kept.keeps (ap (λ (j : State D). j.sizes) unchanged) same_log (ap (λ (j : State D). j.limits) unchanged)
        tt (ap (λ (j : State D). j.doubtful) unchanged, ap (λ (j : State D). j.further) unchanged) (ap is_some content) crash

    pub kept_read : IsStore disks new records numbers
    kept_read = record {
      sizes = ap (λ (j : State D). j.sizes) unchanged ∙ kept.sizes;
      keeps = read_on.0;
      fitting = subst (λ l. EachFits fits (log_seen l records)) (sym same_log) kept.fitting;
      index = subst (λ l. IsIndex (log_seen l records) records numbers) (sym same_log) kept.index;
      room = subst (λ (l : Limits). largest_room ≤ l.largest) (sym (ap (λ (j : State D). j.limits) unchanged)) kept.room;
    }

    state_read : store_state new new.log records ≡ record (store_state old old.log records) { disk = new.disk }
    state_read = ap (λ (j : State D). store_state j j.log records) unchanged

    -- its bytes were read
    pub gives_bytes : (bytes : List ℕ) → is_some old.log ≡ is_some (disks.content old.disk) → IfSome old.log (λ log. option_map (drop 1) (slice_get log (number + 1 - 1)) ≡ Some bytes)
        → option_map (λ size. size - 1) (slice_get old.sizes (number + 1 - 1)) ≡ Some (length bytes) → HasCause (disks.faults old.disk) (disks.faults new.disk) ⊥
        → GivesBlock disks reference (store_state old old.log records) (store_state new new.log records) (Ok bytes)
    gives_bytes bytes told read sized cause = record {
      missing = λ none. absurd (let both = sym holds_it ∙ none in cc);
      there = λ is. absurd (cc);
      found = λ some. read_is old.log records number (block_in (log_seen old.log records) reference) bytes is_held (told ∙ some) read;
      size = size_read (log_seen old.log records) records numbers reference bytes number old.sizes kept.index at kept.sizes sized;
      never_full = λ n is. cc;
      unchanged = state_read;
      content = content;
      untouched = tt;
      cause = HasCause-weaker (disks.faults old.disk) (disks.faults new.disk) ⊥ (given bytes ≡ failed why.Fault) cause (λ is. absurd (cc));
      crash = read_on.1.crash;
    }
      where
        given : List ℕ → Result (List ℕ) BlockWhy
        given bytes = Ok bytes

    -- they were not
    pub gives_none : (a : ReadWhy) → HasCause (disks.faults old.disk) (disks.faults new.disk) (a ≡ read.Fault) → (a ≡ read.OutOfMemory → new ≡ old)
        → GivesBlock disks reference (store_state old old.log records) (store_state new new.log records) (Err (why_of_read a))
    gives_none a cause memory = record {
      missing = λ none. absurd (let both = sym holds_it ∙ none in cc);
      there = λ is. absurd (not_missing a is);
      found = tt;
      size = tt;
      never_full = λ n is. not_full a n is;
      unchanged = state_read;
      content = content;
      untouched = λ other. untouched_by a (λ is. memory is) other;
      cause = HasCause-weaker (disks.faults old.disk) (disks.faults new.disk) (a ≡ read.Fault) (failed (why_of_read a) ≡ failed why.Fault) cause (fault_of a);
      crash = read_on.1.crash;
    }
      where
        not_missing : (a : ReadWhy) → failed (why_of_read a) ≡ failed why.NotExist → ⊥
        not_missing read.Fault is = cc
        not_missing read.OutOfMemory is = cc

        not_full : (a : ReadWhy) (n : ℕ) → failed (why_of_read a) ≡ failed (why.Full n) → ⊥
        not_full read.Fault n is = cc
        not_full read.OutOfMemory n is = cc

        fault_of : (a : ReadWhy) → failed (why_of_read a) ≡ failed why.Fault → a ≡ read.Fault
        fault_of read.Fault is = refl
        fault_of read.OutOfMemory is = absurd (cc)

        untouched_by : (a : ReadWhy) → (a ≡ read.OutOfMemory → new ≡ old) → why_of_read a ≢ why.Fault → store_state new new.log records ≡ store_state old old.log records
        untouched_by read.Fault memory other = absurd (other refl)
        untouched_by read.OutOfMemory memory other = ap (λ (j : State D). store_state j j.log records) (memory refl)
