-- What a store keeps over its journal, and what its calls come to, as contracts see it.
use Rattle.std.proofs.Common.{◌≡◌, ◌≢◌, ◌≤◌, ℕ, Bool, true, false, List, [], ◌∷◌, ◌++◌, length, map, Option, Some, None, is_some, IsSome, option_map, Result, Ok, Err, IsErrAnd, OnErr, OnOk, refl, sym, ap, ◌∙◌, subst, ◌⊎◌, inl, inr, ⊎_elim}
use Rattle.std.proofs.lemmas.Bool.{false≢true}
use Rattle.std.proofs.lemmas.List.{length-map, map-append}
use Rattle.up_blocks.specs.Kept.{IsIndex, IsStore, Keeps, further_seen, kept_of, log_seen, numbered, record_of, size_kept, spelling, store_state, untold}
use Rattle.up_blocks.specs.Records.{blocks_in, decoded, fits, largest_room, put_record, size_of, sizes_of}
use Rattle.up_blocks.specs.Blocks.{AddsBlock, recorded, why_of}
use Rattle.up_blocks.specs.declared.fault.BlockWhy.{BlockWhy}
use Rattle.up_blocks.specs.declared.fault.BlockWhy.TheVariants as why
use Rattle.up_blocks.specs.declared.record.BlockRecord.{BlockRecord}
use Rattle.up_blocks.specs.declared.record.BlockRecord.TheVariants.{Put, Delete}
use Rattle.up_blocks.specs.declared.record.Kept.{Kept}
use Rattle.up_blocks.proofs.Indexed.{delete_is, index_length, index_more, kept_untold, fits_untold, put_is, reads, size_untold, sizes_more}
use Rattle.up_disk.specs.declared.disk.Disk.{Ghosts}
use Rattle.up_disk.proofs.Moments.{started, weaker}
use Rattle.up_lists.specs.Counts.{HasCause}
use Rattle.up_lists.proofs.Causes.{HasCause-same, HasCause-weaker}
use Rattle.up_disk.specs.Leaving.{Leaves, LeavesNow}
use Rattle.up_journal.specs.Journal.{IsSettled, MayHave, StandsFor, State, is_full, with_further}
use Rattle.up_journal.specs.Logs.{AddsRecord, EachFits, IsSettledLog, KeepsLog, MayHaveLog, ResolvesLog, StandsForLog, log_state}
use Rattle.up_journal.specs.declared.fault.AppendWhy.{AppendWhy}
use Rattle.up_journal.specs.declared.fault.AppendWhy.TheVariants as append
use Rattle.up_journal.specs.declared.limits.Limits.{Limits}
use Rattle.up_journal.proofs.Logs.{adds_err, adds_none, adds_ok, fits_more, keeps_doubtful, keeps_safe, resolves_log}

-- ---- the bytes of records

pub sizes_seen : (log : List BlockRecord) (records : List Kept) (numbers : List (List ℕ × ℕ)) → IsIndex log records numbers → sizes_of log ≡ map size_kept records
sizes_seen log records numbers index = each log ∙ ap (map size_kept) index.same
  where
    each : (log : List BlockRecord) → map size_of log ≡ map size_kept (map kept_of log)
    each [] = refl
    each (rec ∷ log) = ap (λ n. n ∷ map size_of log) (sym (size_untold rec)) ∙ ap (λ ns. size_kept (kept_of rec) ∷ ns) (each log)

pub recorded_size : (told : Bool) (payload : List ℕ) → size_of (recorded told payload) ≡ size_of (record_of payload)
recorded_size true payload = refl
recorded_size false payload = by_kind (record_of payload)
  where
    by_kind : (rec : BlockRecord) → size_of (untold (kept_of rec)) ≡ size_of rec
    by_kind (Put reference size bytes) = refl
    by_kind (Delete reference) = refl

-- ---- a disk that tells nothing leaves no image that is looked at

no_log : (largest : ℕ) (further : Option (List ℕ)) (image : List ℕ) → StandsFor largest None further image → ⊥
no_log largest further image stands = ⊎_elim (λ has. none_is has.payloads has.told) (λ has. none_is has.payloads has.told) stands
  where
    none_is : (payloads : List (List ℕ)) → None ≡ Some payloads → ⊥
    none_is payloads is = cc

none_more : (further : Option (List ℕ)) → with_further None further ≡ None
none_more None = refl
none_more (Some payload) = refl

module _ {D : Type 0} (disks : Ghosts D) where
  silent : (disk : D) (largest : ℕ) (further : Option (List ℕ)) → LeavesNow disks disk (StandsFor largest None further) → LeavesNow disks disk (λ image. ⊥)
  silent disk largest further safe = record { each = λ image left. no_log largest further image (safe.each image left) }

  silent_leaves : {now meanwhile : List ℕ → Type 0} (old new : D) (largest before : ℕ) (further was : Option (List ℕ)) (payload : List ℕ)
      → Leaves disks old new (StandsFor largest None further) (MayHave before None was payload) → Leaves disks old new now meanwhile
  silent_leaves {now} {meanwhile} old new largest before further was payload crash = record {
    safe = λ image left. absurd (no_log largest further image (crash.safe image left));
    any_moment = weaker disks.moment disks.left_since old new (MayHave before None was payload) meanwhile crash.any_moment (λ image may. absurd (none_may image may));
  }
    where
      none_may : (image : List ℕ) → MayHave before None was payload image → ⊥
      none_may image may = ⊎_elim (λ stands. no_log before was image stands) (λ has. no_log before (Some payload) image (inr has)) may

  silent_resolves : {now meanwhile : List ℕ → Type 0} (old new : D) (largest before : ℕ) (further was : Option (List ℕ))
      → Leaves disks old new (StandsFor largest None further) (StandsFor before None was) → Leaves disks old new now meanwhile
  silent_resolves {now} {meanwhile} old new largest before further was crash = record {
    safe = λ image left. absurd (no_log largest further image (crash.safe image left));
    any_moment = weaker disks.moment disks.left_since old new (StandsFor before None was) meanwhile crash.any_moment (λ image stands. absurd (no_log before was image stands));
  }

  -- ---- what a crash leaves now

  pub safe_at : (journal : State D) (records : List Kept) (told : Option (List (List ℕ))) → Keeps disks journal told
      → LeavesNow disks journal.disk (StandsForLog (blocks_in journal.limits.largest) (log_seen told records) (further_seen told journal.further))
  safe_at journal records None keeps = record { each = λ image left. absurd (keeps.each image left) }
  safe_at journal records (Some payloads) keeps = keeps_safe disks decoded fits spelling journal (map record_of payloads) keeps

  -- where the disk tells, a record may stand further exactly where one is doubtful
  pub doubtful_at : (journal : State D) (told : Option (List (List ℕ))) → Keeps disks journal told → (IsSome journal.log → is_some journal.further ≡ journal.doubtful) → is_some journal.log ≡ is_some (disks.content journal.disk) → journal.log ≡ told
      → IsSome (disks.content journal.disk) → is_some (further_seen told journal.further) ≡ journal.doubtful
  doubtful_at journal None keeps doubtful tells is some = absurd (let none = sym (ap is_some is) ∙ tells ∙ some in false≢true none)
  doubtful_at journal (Some payloads) keeps doubtful tells is some = keeps_doubtful disks decoded fits spelling journal (map record_of payloads) keeps doubtful tells some

  -- ---- a record is added

  module _ (old new : State D) (records : List Kept) (change : Kept) (payload : List ℕ) (is : option_map kept_of (decoded payload) ≡ Some change) where
    abbrev more : List Kept
    more = records ++ change ∷ []

    untold_more : map untold more ≡ map untold records ++ recorded false payload ∷ []
    untold_more = map-append untold records (change ∷ []) ∙ ap (λ k. map untold records ++ untold k ∷ []) (sym (reads payload change is).keeps)

    told_more : (payloads after : List (List ℕ)) → after ≡ payloads ++ payload ∷ [] → map record_of after ≡ map record_of payloads ++ record_of payload ∷ []
    told_more payloads after same = ap (map record_of) same ∙ map-append record_of payloads (payload ∷ [])

    longer_is : (payloads after : List (List ℕ)) → Some after ≡ Some (payloads ++ payload ∷ []) → after ≡ payloads ++ payload ∷ []
    longer_is payloads after h = cc

    pub added_at : (was now : Option (List (List ℕ))) (position : ℕ) → old.log ≡ was → new.log ≡ now → Keeps disks old was → fits (log_seen was records) (untold change) ≡ true
        → new.sizes ≡ map size_kept more → new.sizes ≡ old.sizes ++ length payload ∷ [] → new.log ≡ with_further old.log (Some payload) → IsSettled new → new.limits ≡ old.limits → position ≡ length new.sizes
        → is_some (disks.content new.disk) ≡ is_some (disks.content old.disk)
        → Leaves disks old.disk new.disk (StandsFor new.limits.largest new.log new.further) (MayHave old.limits.largest old.log old.further payload)
        → Keeps disks new now × AddsRecord {E = BlockWhy} disks blocks_in (recorded (is_some was) payload) (store_state old was records) (store_state new now more) (Ok position)
    added_at None None position was_is now_is keeps fitted sizes sized longer settled same place tells crash =
        let crash_none : Leaves disks old.disk new.disk (StandsFor new.limits.largest None new.further) (MayHave old.limits.largest None old.further payload) =
        subst (λ l. Leaves disks old.disk new.disk (StandsFor new.limits.largest l new.further) (MayHave old.limits.largest None old.further payload)) now_is
        (subst (λ l. Leaves disks old.disk new.disk (StandsFor new.limits.largest new.log new.further) (MayHave old.limits.largest l old.further payload)) was_is crash) in (
          silent new.disk new.limits.largest new.further (record { each = crash_none.safe }),
          record {
            log = untold_more;
            position = place ∙ ap length sizes ∙ length-map more size_kept ∙ sym (length-map more untold);
            settled = record { settled = settled.settled; nothing = refl };
            limits = same;
            further = tt;
            told = tells;
            acknowledged = record { each = λ image left. absurd (no_log new.limits.largest new.further image (crash_none.safe image left)) };
            crash = silent_leaves old.disk new.disk new.limits.largest old.limits.largest new.further old.further payload crash_none;
          },
        )
    added_at None (Some after) position was_is now_is keeps fitted sizes sized longer settled same place tells crash =
        absurd (let none : new.log ≡ None = longer ∙ ap (λ l. with_further l (Some payload)) was_is in let both = sym now_is ∙ none in cc)
    added_at (Some payloads) None position was_is now_is keeps fitted sizes sized longer settled same place tells crash =
        absurd (let some : new.log ≡ Some (payloads ++ payload ∷ []) = longer ∙ ap (λ l. with_further l (Some payload)) was_is in let both = sym now_is ∙ some in cc)
    added_at (Some payloads) (Some after) position was_is now_is keeps fitted sizes sized longer settled same place tells crash =
        let r = reads payload change is in
        let log = map record_of payloads in
        let is_longer = longer_is payloads after (sym now_is ∙ longer ∙ ap (λ l. with_further l (Some payload)) was_is) in
        let rec_fits : fits log (record_of payload) ≡ true = sym (fits_untold log (record_of payload)) ∙ ap (λ k. fits log (untold k)) r.keeps ∙ fitted in
        let adds = adds_ok disks decoded fits spelling {E = BlockWhy} old new log (record_of payload) payload position keeps r.decodes rec_fits r.spelled sized longer settled same place tells crash in
        subst (λ l. KeepsLog disks decoded fits spelling new l × AddsRecord {E = BlockWhy} disks blocks_in (record_of payload) (log_state decoded old log) (log_state decoded new l) (Ok position)) (sym (told_more payloads after is_longer)) adds

    pub kept_at : (was now : Option (List (List ℕ))) (reason : BlockWhy) → old.log ≡ was → new.log ≡ now → Keeps disks old was → fits (log_seen was records) (untold change) ≡ true
        → new.sizes ≡ old.sizes → new.log ≡ old.log → new.limits ≡ old.limits → (new.further ≡ None) ⊎ ((new.further ≡ old.further) ⊎ (new.further ≡ Some payload))
        → is_some (disks.content new.disk) ≡ is_some (disks.content old.disk)
        → Leaves disks old.disk new.disk (StandsFor new.limits.largest new.log new.further) (MayHave old.limits.largest old.log old.further payload)
        → Keeps disks new now × AddsRecord disks blocks_in (recorded (is_some was) payload) (store_state old was records) (store_state new now records) (Err reason)
    kept_at None None reason was_is now_is keeps fitted sized same_log same which tells crash =
        let crash_none : Leaves disks old.disk new.disk (StandsFor new.limits.largest None new.further) (MayHave old.limits.largest None old.further payload) =
        subst (λ l. Leaves disks old.disk new.disk (StandsFor new.limits.largest l new.further) (MayHave old.limits.largest None old.further payload)) now_is
        (subst (λ l. Leaves disks old.disk new.disk (StandsFor new.limits.largest new.log new.further) (MayHave old.limits.largest l old.further payload)) was_is crash) in (
          silent new.disk new.limits.largest new.further (record { each = crash_none.safe }),
          record {
            log = refl;
            position = tt;
            settled = tt;
            limits = same;
            further = inl refl;
            told = tells;
            acknowledged = tt;
            crash = silent_leaves old.disk new.disk new.limits.largest old.limits.largest new.further old.further payload crash_none;
          },
        )
    kept_at None (Some after) reason was_is now_is keeps fitted sized same_log same which tells crash = absurd (let both = sym now_is ∙ same_log ∙ was_is in cc)
    kept_at (Some payloads) None reason was_is now_is keeps fitted sized same_log same which tells crash = absurd (let both = sym now_is ∙ same_log ∙ was_is in cc)
    kept_at (Some payloads) (Some after) reason was_is now_is keeps fitted sized same_log same which tells crash =
        let r = reads payload change is in
        let log = map record_of payloads in
        let same_is : after ≡ payloads = (let both = sym now_is ∙ same_log ∙ was_is in cc) in
        let rec_fits : fits log (record_of payload) ≡ true = sym (fits_untold log (record_of payload)) ∙ ap (λ k. fits log (untold k)) r.keeps ∙ fitted in
        let adds = adds_err disks decoded fits spelling old new log (record_of payload) payload reason keeps r.decodes rec_fits sized same_log same which tells crash in
        subst (λ l. KeepsLog disks decoded fits spelling new (map record_of l) × AddsRecord disks blocks_in (record_of payload) (log_state decoded old log) (log_state decoded new (map record_of l)) (Err reason)) (sym same_is) adds

  -- where the journal is not called
  pub still_at : ((disk : D) (image : List ℕ) → disks.left_since disk (disks.moment disk) image → disks.may_leave disk image) → (journal : State D) (records : List Kept) (told : Option (List (List ℕ))) (rec : BlockRecord) (reason : BlockWhy)
      → Keeps disks journal told → AddsRecord disks blocks_in rec (store_state journal told records) (store_state journal told records) (Err reason)
  still_at only_now journal records None rec reason keeps = record {
    log = refl;
    position = tt;
    settled = tt;
    limits = refl;
    further = inr (inl refl);
    told = refl;
    acknowledged = tt;
    crash = record {
      safe = λ image left. absurd (keeps.each image left);
      any_moment = started disks.moment disks.left_since journal.disk (MayHaveLog (blocks_in journal.limits.largest) (map untold records) None rec) (λ image left. absurd (keeps.each image (only_now journal.disk image left)));
    };
  }
  still_at only_now journal records (Some payloads) rec reason keeps = adds_none disks decoded fits spelling only_now journal (map record_of payloads) rec reason keeps

  -- once a doubtful record is settled, or not
  pub resolved_at : {E : Type 0} (result : Result (Unit {0}) E) (old new : State D) (records : List Kept) (was now : Option (List (List ℕ))) → old.log ≡ was → new.log ≡ now → Keeps disks old was
      → new.sizes ≡ old.sizes → new.log ≡ old.log → new.limits ≡ old.limits → OnOk result (IsSettled new) → OnErr result ((new.doubtful ≡ old.doubtful) × (new.further ≡ old.further))
      → is_some (disks.content new.disk) ≡ is_some (disks.content old.disk)
      → Leaves disks old.disk new.disk (StandsFor new.limits.largest new.log new.further) (StandsFor old.limits.largest old.log old.further)
      → Keeps disks new now × ResolvesLog disks blocks_in (store_state old was records) (store_state new now records) result
  resolved_at {E} result old new records None None was_is now_is keeps sized same_log same settled refused tells crash =
      let crash_none : Leaves disks old.disk new.disk (StandsFor new.limits.largest None new.further) (StandsFor old.limits.largest None old.further) =
      subst (λ l. Leaves disks old.disk new.disk (StandsFor new.limits.largest l new.further) (StandsFor old.limits.largest None old.further)) now_is
      (subst (λ l. Leaves disks old.disk new.disk (StandsFor new.limits.largest new.log new.further) (StandsFor old.limits.largest l old.further)) was_is crash) in (
        silent new.disk new.limits.largest new.further (record { each = crash_none.safe }),
        record {
          log = refl;
          settled = settled_at result settled;
          limits = same;
          refused = refused_at result refused;
          told = tells;
          acknowledged = none_left result (λ image left. no_log new.limits.largest new.further image (crash_none.safe image left));
          crash = silent_resolves old.disk new.disk new.limits.largest old.limits.largest new.further old.further crash_none;
        },
      )
    where
      settled_at : (result : Result (Unit {0}) E) → OnOk result (IsSettled new) → OnOk result (IsSettledLog (store_state new None records))
      settled_at (Ok x) settled = record { settled = settled.settled; nothing = refl }
      settled_at (Err e) settled = tt

      refused_at : (result : Result (Unit {0}) E) → OnErr result ((new.doubtful ≡ old.doubtful) × (new.further ≡ old.further)) → OnErr result ((new.doubtful ≡ old.doubtful) × (further_seen None new.further ≡ further_seen None old.further))
      refused_at (Ok x) refused = tt
      refused_at (Err e) refused = (refused.0, refl)

      none_left : (result : Result (Unit {0}) E) → ((image : List ℕ) → disks.may_leave new.disk image → ⊥) → OnOk result (LeavesNow disks new.disk (λ image. blocks_in new.limits.largest image ≡ Ok (map untold records)))
      none_left (Ok x) none = record { each = λ image left. absurd (none image left) }
      none_left (Err e) none = tt
  resolved_at result old new records None (Some after) was_is now_is keeps sized same_log same settled refused tells crash = absurd (let both = sym now_is ∙ same_log ∙ was_is in cc)
  resolved_at result old new records (Some payloads) None was_is now_is keeps sized same_log same settled refused tells crash = absurd (let both = sym now_is ∙ same_log ∙ was_is in cc)
  resolved_at {E} result old new records (Some payloads) (Some after) was_is now_is keeps sized same_log same settled refused tells crash =
      let same_is : after ≡ payloads = (let both = sym now_is ∙ same_log ∙ was_is in cc) in
      let done = resolves_log disks decoded fits spelling {E = E} result old new (map record_of payloads) keeps sized same_log same settled refused tells crash in
      subst (λ l. KeepsLog disks decoded fits spelling new (map record_of l) × ResolvesLog disks blocks_in (log_state decoded old (map record_of payloads)) (log_state decoded new (map record_of l)) result) (sym same_is) done

  -- ---- the whole of it

  pub err_is : (result : Result ℕ BlockWhy) (reason : BlockWhy) → IsErrAnd result (λ found. found ≡ reason) → result ≡ Err reason
  err_is (Ok position) reason is = absurd is
  err_is (Err found) reason is = ap Err is

  abbrev fails : BlockWhy → Result ℕ BlockWhy
  fails reason = Err reason

  abbrev done : ℕ → Result ℕ BlockWhy
  done position = Ok position

  pub count_is : (journal : State D) (records : List Kept) (numbers : List (List ℕ × ℕ)) → IsStore disks journal records numbers → length (log_seen journal.log records) ≡ length journal.sizes
  count_is journal records numbers kept = index_length (log_seen journal.log records) records numbers kept.index ∙ sym (length-map records size_kept) ∙ ap length (sym kept.sizes)

  -- where there is no memory for it
  pub no_memory : ((disk : D) (image : List ℕ) → disks.left_since disk (disks.moment disk) image → disks.may_leave disk image) → (journal : State D) (records : List Kept) (numbers : List (List ℕ × ℕ)) (rec : BlockRecord) (result : Result ℕ BlockWhy)
      → IsStore disks journal records numbers → result ≡ Err why.OutOfMemory → AddsBlock disks rec (store_state journal journal.log records) (store_state journal journal.log records) result
  no_memory only_now journal records numbers rec result kept is = subst (λ r. AddsBlock disks rec (store_state journal journal.log records) (store_state journal journal.log records) r) (sym is) (record {
    added = still_at only_now journal records journal.log rec why.OutOfMemory kept.keeps;
    full = λ _ other. absurd (other refl);
    full_only = λ n is. absurd (cc);
    held = λ is. cc;
    untouched = λ _. refl;
    cause = HasCause-same (disks.faults journal.disk) (fails why.OutOfMemory ≡ fails why.Fault) (λ is. absurd (cc));
  })

  module _ (old new : State D) (records : List Kept) (numbers : List (List ℕ × ℕ)) (change : Kept) (payload : List ℕ) (told : Bool) (kept : IsStore disks old records numbers) (told_is : told ≡ is_some old.log)
      (is : option_map kept_of (decoded payload) ≡ Some change) (fitted : fits (log_seen old.log records) (untold change) ≡ true) where
    rec_is : recorded (is_some old.log) payload ≡ recorded told payload
    rec_is = ap (λ t. recorded t payload) (sym told_is)

    limit : is_full old.limits (sizes_of (log_seen old.log records)) (size_of (recorded told payload)) ≡ is_full old.limits old.sizes (length payload)
    limit =
        ap (λ s. is_full old.limits s (size_of (recorded told payload))) (sizes_seen (log_seen old.log records) records numbers kept.index ∙ sym kept.sizes)
        ∙ ap (is_full old.limits old.sizes) (recorded_size told payload ∙ (reads payload change is).size)

    pub entered : (position : ℕ) → new.sizes ≡ old.sizes ++ length payload ∷ [] → new.log ≡ with_further old.log (Some payload) → IsSettled new → new.limits ≡ old.limits → position ≡ length new.sizes
        → is_some (disks.content new.disk) ≡ is_some (disks.content old.disk)
        → Leaves disks old.disk new.disk (StandsFor new.limits.largest new.log new.further) (MayHave old.limits.largest old.log old.further payload)
        → (is_full old.limits old.sizes (length payload) ≡ true → ⊥) → HasCause (disks.faults old.disk) (disks.faults new.disk) ⊥
        → IsStore disks new (records ++ change ∷ []) (numbered (length records) change numbers)
        × AddsBlock disks (recorded told payload) (store_state old old.log records) (store_state new new.log (records ++ change ∷ [])) (Ok position)
    entered position sized longer settled same place tells crash room cause =
        let sizes : new.sizes ≡ map size_kept (records ++ change ∷ []) = sized ∙ ap (λ s. s ++ length payload ∷ []) kept.sizes ∙ sym (sizes_more records payload change is) in
        let adds = added_at old new records change payload is old.log new.log position refl refl kept.keeps fitted sizes sized longer settled same place tells crash in
        let rec = recorded (is_some old.log) payload in
        let keeps_rec : kept_of rec ≡ change = kept_recorded (is_some old.log) ∙ (reads payload change is).keeps in
        let rec_fits : fits (log_seen old.log records) rec ≡ true =
        sym (fits_untold (log_seen old.log records) rec) ∙ ap (λ k. fits (log_seen old.log records) (untold k)) keeps_rec ∙ fitted in
        let index = index_more (log_seen old.log records) rec records numbers kept.index in (
          record {
            sizes = sizes;
            keeps = adds.0;
            fitting = subst (λ l. EachFits fits l) (sym adds.1.log) (fits_more fits (log_seen old.log records) rec kept.fitting rec_fits);
            index = subst (λ l. IsIndex l (records ++ change ∷ []) (numbered (length records) change numbers)) (sym adds.1.log)
                (subst (λ k. IsIndex (log_seen old.log records ++ rec ∷ []) (records ++ k ∷ []) (numbered (length records) k numbers)) keeps_rec index);
            room = subst (λ (l : Limits). largest_room ≤ l.largest) (sym same) kept.room;
          },
          record {
            added = subst (λ r. AddsRecord disks blocks_in r (store_state old old.log records) (store_state new new.log (records ++ change ∷ [])) (done position)) rec_is adds.1;
            full = λ full _. absurd (room (sym limit ∙ full));
            full_only = λ n is. absurd (cc);
            held = λ is. cc;
            untouched = tt;
            cause = HasCause-weaker (disks.faults old.disk) (disks.faults new.disk) ⊥ (done position ≡ fails why.Fault) cause (λ is. absurd (cc));
          },
        )
      where
        kept_recorded : (t : Bool) → kept_of (recorded t payload) ≡ kept_of (record_of payload)
        kept_recorded true = refl
        kept_recorded false = kept_untold (kept_of (record_of payload))

    pub not_entered : (a : AppendWhy) → new.sizes ≡ old.sizes → new.log ≡ old.log → new.limits ≡ old.limits → (new.further ≡ None) ⊎ ((new.further ≡ old.further) ⊎ (new.further ≡ Some payload))
        → is_some (disks.content new.disk) ≡ is_some (disks.content old.disk)
        → Leaves disks old.disk new.disk (StandsFor new.limits.largest new.log new.further) (MayHave old.limits.largest old.log old.further payload)
        → (is_full old.limits old.sizes (length payload) ≡ true → a ≡ append.Full (length old.sizes))
        → ((n : ℕ) → a ≡ append.Full n → (is_full old.limits old.sizes (length payload) ≡ true) × (n ≡ length old.sizes))
        → (a ≢ append.Fault → new ≡ old) → HasCause (disks.faults old.disk) (disks.faults new.disk) (a ≡ append.Fault)
        → IsStore disks new records numbers × AddsBlock disks (recorded told payload) (store_state old old.log records) (store_state new new.log records) (Err (why_of a))
    not_entered a sized same_log same which tells crash full full_only untouched cause =
        let adds = kept_at old new records change payload is old.log new.log (why_of a) refl refl kept.keeps fitted sized same_log same which tells crash in
        let count = count_is old records numbers kept in (
          record {
            sizes = sized ∙ kept.sizes;
            keeps = adds.0;
            fitting = subst (λ l. EachFits fits (log_seen l records)) (sym same_log) kept.fitting;
            index = subst (λ l. IsIndex (log_seen l records) records numbers) (sym same_log) kept.index;
            room = subst (λ (l : Limits). largest_room ≤ l.largest) (sym same) kept.room;
          },
          record {
            added = subst (λ r. AddsRecord disks blocks_in r (store_state old old.log records) (store_state new new.log records) (fails (why_of a))) rec_is adds.1;
            full = λ is_full _. ap Err (ap why_of (full (sym limit ∙ is_full)) ∙ ap why.Full (sym count));
            full_only = λ n is. let found = full_only n (full_of a n is) in (limit ∙ found.0, found.1 ∙ sym count);
            held = λ is. not_missing a is;
            untouched = λ other. ap (λ (j : State D). store_state j j.log records) (untouched (λ is. other (ap why_of is)));
            cause = HasCause-weaker (disks.faults old.disk) (disks.faults new.disk) (a ≡ append.Fault) (fails (why_of a) ≡ fails why.Fault) cause (fault_of a);
          },
        )
      where
        not_missing : (a : AppendWhy) → fails (why_of a) ≡ fails why.NotExist → ⊥
        not_missing (append.Full n) is = cc
        not_missing append.Fault is = cc
        not_missing append.OutOfMemory is = cc

        full_of : (a : AppendWhy) (n : ℕ) → fails (why_of a) ≡ fails (why.Full n) → a ≡ append.Full n
        full_of (append.Full m) n is = (let same : m ≡ n = cc in ap append.Full same)
        full_of append.Fault n is = absurd (cc)
        full_of append.OutOfMemory n is = absurd (cc)

        fault_of : (a : AppendWhy) → fails (why_of a) ≡ fails why.Fault → a ≡ append.Fault
        fault_of (append.Full m) is = absurd (cc)
        fault_of append.Fault is = refl
        fault_of append.OutOfMemory is = absurd (cc)

-- ---- the records that are written

pub recorded_put : (told : Bool) (bytes : List ℕ) → recorded told (1 ∷ bytes) ≡ put_record told bytes
recorded_put true bytes = put_is bytes
recorded_put false bytes = ap (λ rec. untold (kept_of rec)) (put_is bytes)

pub recorded_delete : (told : Bool) (reference : List ℕ) → length reference ≡ 32 → recorded told (2 ∷ reference) ≡ Delete reference
recorded_delete true reference long = delete_is reference long
recorded_delete false reference long = ap (λ rec. untold (kept_of rec)) (delete_is reference long)
