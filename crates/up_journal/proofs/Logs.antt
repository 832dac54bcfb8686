-- Logs of records over a journal, whatever the records are.
use Rattle.std.proofs.Common.{◌≡◌, ◌≢◌, IfSome, ℕ, zero, suc, Bool, true, false, cond, List, [], ◌∷◌, ◌++◌, length, map, take, slice_get, Option, Some, None, is_some, IsSome, Result, Ok, Err, OnOk, OnErr, refl, sym, ap, ◌∙◌, subst, ◌⊎◌, inl, inr, ⊎_elim}
use Rattle.std.proofs.lemmas.Bool.{false≢true}
use Rattle.std.proofs.lemmas.List.{length-map, map-append}
use Rattle.std.specs.Option.{option_and_then}
use Rattle.up_disk.specs.declared.disk.Disk.{Ghosts}
use Rattle.up_disk.proofs.Moments.{started, weaker}
use Rattle.up_disk.specs.Leaving.{Leaves, LeavesNow}
use Rattle.up_journal.specs.Damages.{Damage}
use Rattle.up_journal.specs.Format2.{log_of}
use Rattle.up_journal.specs.Journal.{HasLog, IsReadAs, IsSettled, MayHave, StandsFor, State, is_full, with_further}
use Rattle.up_journal.specs.Logs.{AddsRecord, EachFits, IsFurther, IsSettledLog, KeepsLog, MayHaveLog, OpensLog, RefusesLog, ResolvesLog, StandsForLog, further_record, grown, log_in, log_state, log_step}
use Rattle.up_journal.specs.Opened.{IsDamageOf, IsLogOf}
use Rattle.up_journal.specs.declared.fault.OpenFault.{OpenFault}
use Rattle.up_journal.specs.declared.fault.OpenWhy.{OpenWhy}
use Rattle.up_journal.specs.declared.fault.OpenWhy.TheVariants as open_why
use Rattle.up_journal.specs.Records.{MayHaveState, OnlyPayloads, StandsForState, replay}
use Rattle.up_journal.specs.declared.limits.Limits.{Limits}
use Rattle.up_journal.proofs.Records.{content_damaged, content_state, may_have_state, read_safe, refused_synced, replays_kept, replays_more, replays_opened, replays_settled, settled_state, stands_for_state}

module _ {R : Type 0} (decode : List ℕ → Option R) (fits : List R → R → Bool) where
  -- the record that a payload adds
  pub record Adds (log : List R) (payload : List ℕ) (next : List R) : Type 0 where
    pub rec : R
    pub decoded : decode payload ≡ Some rec
    pub fitted : fits log rec ≡ true
    pub is : next ≡ log ++ rec ∷ []

  pub adds : (log : List R) (payload : List ℕ) (next : List R) → log_step decode fits log payload ≡ Some next → Adds log payload next
  adds log payload next h = by_record (decode payload) refl h
    where
      by_fit : (rec : R) → decode payload ≡ Some rec → (b : Bool) → fits log rec ≡ b → cond b (Some (log ++ rec ∷ [])) None ≡ Some next → Adds log payload next
      by_fit rec decoded true fitted h = let same : log ++ rec ∷ [] ≡ next = cc in record { rec = rec; decoded = decoded; fitted = fitted; is = sym same }
      by_fit rec decoded false fitted h = absurd (cc)

      by_record : (found : Option R) → decode payload ≡ found → option_and_then (grown fits log) found ≡ Some next → Adds log payload next
      by_record None decoded h = absurd (cc)
      by_record (Some rec) decoded h = by_fit rec decoded (fits log rec) refl h

  -- and the other way
  pub added : (log : List R) (payload : List ℕ) (rec : R) → decode payload ≡ Some rec → fits log rec ≡ true → log_step decode fits log payload ≡ Some (log ++ rec ∷ [])
  added log payload rec decoded fitted = ap (option_and_then (grown fits log)) decoded ∙ ap (λ b. cond b (Some (log ++ rec ∷ [])) None) fitted

  pub not_decoded : (log : List R) (payload : List ℕ) → decode payload ≡ None → log_step decode fits log payload ≡ None
  not_decoded log payload none = ap (option_and_then (grown fits log)) none

  pub not_fitted : (log : List R) (payload : List ℕ) (rec : R) → decode payload ≡ Some rec → fits log rec ≡ false → log_step decode fits log payload ≡ None
  not_fitted log payload rec decoded unfit = ap (option_and_then (grown fits log)) decoded ∙ ap (λ b. cond b (Some (log ++ rec ∷ [])) None) unfit

  is_added : (log : List R) (payload : List ℕ) (rec : R) → decode payload ≡ Some rec → fits log rec ≡ true → IsSome (log_step decode fits log payload)
  is_added log payload rec decoded fitted = ap is_some (added log payload rec decoded fitted)

  module _ (largest : ℕ) where
    -- a state's next one is one record more
    pub stands_for_log : (log : List R) (further : Option (List ℕ)) (image : List ℕ) → StandsForState (log_step decode fits) [] largest log further image
        → StandsForLog (log_in decode fits largest) log (further_record decode further) image
    stands_for_log log further image stands = ⊎_elim (λ same. inl same)
        (λ next. let a = adds log next.payload next.next next.fits in
        inr (record { rec = a.rec; held = ap (option_and_then decode) next.held ∙ a.decoded; has = next.read ∙ ap Ok a.is })) stands

    one_record : (x y : R) (found : Option R) → found ≡ Some x → found ≡ Some y → x ≡ y
    one_record x y found a b = cc

    same_payload : (p q : List ℕ) → Some p ≡ Some q → p ≡ q
    same_payload p q h = cc

    pub may_have_log : (log : List R) (further : Option (List ℕ)) (payload : List ℕ) (rec : R) (image : List ℕ) → decode payload ≡ Some rec → MayHaveState (log_step decode fits) [] largest log further payload image
        → MayHaveLog (log_in decode fits largest) log (further_record decode further) rec image
    may_have_log log further payload rec image decoded may = ⊎_elim (λ stands. inl (stands_for_log log further image stands))
        (λ next. let a = adds log next.payload next.next next.fits in
        let same : a.rec ≡ rec = one_record a.rec rec (decode next.payload) a.decoded (ap decode (sym (same_payload payload next.payload next.held)) ∙ decoded) in
        inr (next.read ∙ ap Ok (a.is ∙ ap (λ r. log ++ r ∷ []) same))) may

-- ---- each record fits those before it

-- an item of a list with one more is of the list, or that one
place_of : {X : Type 0} (xs : List X) (x found : X) (n : ℕ) → slice_get (xs ++ x ∷ []) n ≡ Some found
    → ((slice_get xs n ≡ Some found) × (take n (xs ++ x ∷ []) ≡ take n xs)) ⊎ ((found ≡ x) × (take n (xs ++ x ∷ []) ≡ xs))
place_of [] x found zero is = let same : found ≡ x = cc in inr (same, refl)
place_of [] x found (suc n) is = absurd (cc)
place_of (y ∷ xs) x found zero is = inl (is, refl)
place_of (y ∷ xs) x found (suc n) is =
    ⊎_elim (λ front. inl (front.0, ap (λ ys. y ∷ ys) front.1)) (λ end. inr (end.0, ap (λ ys. y ∷ ys) end.1)) (place_of xs x found n is)

module _ {R : Type 0} (fits : List R → R → Bool) where
  pub fits_more : (log : List R) (rec : R) → EachFits fits log → fits log rec ≡ true → EachFits fits (log ++ rec ∷ [])
  fits_more log rec all last = record {
    each = λ n found is. ⊎_elim
        (λ front. subst (λ before. fits before found ≡ true) (sym front.1) (all.each n found front.0))
        (λ end. subst (λ before. fits before found ≡ true) (sym end.1) (ap (fits log) end.0 ∙ last))
        (place_of log rec found n is);
  }

  -- a payload more is read
  pub fits_step : (decode : List ℕ → Option R) (log : List R) (payload : List ℕ) (next : List R) → EachFits fits log → log_step decode fits log payload ≡ Some next → EachFits fits next
  fits_step decode log payload next all step =
      let a = adds decode fits log payload next step in
      subst (λ l. EachFits fits l) (sym a.is) (fits_more log a.rec all a.fitted)

-- what may be doubtful now, as records
pub which_record : {R : Type 0} (decode : List ℕ → Option R) (old new : Option (List ℕ)) (payload : List ℕ) (rec : R) → decode payload ≡ Some rec → (new ≡ None) ⊎ ((new ≡ old) ⊎ (new ≡ Some payload))
    → IsFurther (further_record decode old) rec (further_record decode new)
which_record decode old new payload rec decoded which = ⊎_elim (λ none. inl (ap (option_and_then decode) none))
    (λ some. inr (⊎_elim (λ same. inl (ap (option_and_then decode) same)) (λ one. inr (ap (option_and_then decode) one ∙ decoded)) some)) which

-- ---- what a reader keeps over its journal

module _ {D R : Type 0} (disks : Ghosts D) (decode : List ℕ → Option R) (fits : List R → R → Bool) (spelling : R → List ℕ) where
  -- the bytes of the spellings
  abbrev sizes : List R → List ℕ
  sizes log = map (λ rec. length (spelling rec)) log

  -- what a crash leaves now
  pub keeps_safe : (journal : State D) (log : List R) → KeepsLog disks decode fits spelling journal log
      → LeavesNow disks journal.disk (StandsForLog (log_in decode fits journal.limits.largest) log (further_record decode journal.further))
  keeps_safe journal log keeps = record {
    each = λ image left. stands_for_log decode fits journal.limits.largest log journal.further image
        (stands_for_state (log_step decode fits) [] journal.limits.largest journal.log journal.further log image keeps.replays (keeps.safe.each image left));
  }

  -- the same, where no record is doubtful
  pub keeps_settled : (journal : State D) (log : List R) → KeepsLog disks decode fits spelling journal log → journal.further ≡ None
      → LeavesNow disks journal.disk (λ image. log_in decode fits journal.limits.largest image ≡ Ok log)
  keeps_settled journal log keeps none = record {
    each = λ image left. settled_state (log_step decode fits) [] journal.limits.largest journal.further log image none
        (stands_for_state (log_step decode fits) [] journal.limits.largest journal.log journal.further log image keeps.replays (keeps.safe.each image left));
  }

  -- once the device is opened, and its records are read
  pub keeps_opened : (opened read : State D) (log : List R) → opened.sizes ≡ sizes log → ((payloads : List (List ℕ)) → opened.log ≡ Some payloads → replay (log_step decode fits) [] payloads ≡ Ok log)
      → opened.further ≡ None → LeavesNow disks opened.disk (StandsFor opened.limits.largest opened.log opened.further) → OnlyPayloads disks opened read → KeepsLog disks decode fits spelling read log
  keeps_opened opened read log sized whole none safe reads = record {
    sizes = ap (λ (j : State D). j.sizes) reads.unchanged ∙ sized;
    replays = replays_opened (log_step decode fits) [] read.log read.further log (λ payloads told. whole payloads (sym (ap (λ (j : State D). j.log) reads.unchanged) ∙ told))
        (ap (λ (j : State D). j.further) reads.unchanged ∙ none);
    safe = read_safe disks opened read reads safe;
  }

  -- once a record is appended
  pub keeps_more : (old new : State D) (log : List R) (rec : R) (payload : List ℕ) → KeepsLog disks decode fits spelling old log → decode payload ≡ Some rec → fits log rec ≡ true → payload ≡ spelling rec
      → new.sizes ≡ old.sizes ++ length payload ∷ [] → new.log ≡ with_further old.log (Some payload) → new.further ≡ None
      → LeavesNow disks new.disk (StandsFor new.limits.largest new.log new.further) → KeepsLog disks decode fits spelling new (log ++ rec ∷ [])
  keeps_more old new log rec payload keeps decoded fitted spelled sized longer none safe = record {
    sizes = sized ∙ ap (λ s. s ++ length payload ∷ []) keeps.sizes ∙ ap (λ p. sizes log ++ length p ∷ []) spelled ∙ sym (map-append (λ (r : R). length (spelling r)) log (rec ∷ []));
    replays = replays_more (log_step decode fits) [] old.log new.log old.further new.further log (log ++ rec ∷ []) payload keeps.replays (added decode fits log payload rec decoded fitted) longer none;
    safe = safe;
  }

  -- once one is not appended
  pub keeps_same : (old new : State D) (log : List R) (rec : R) (payload : List ℕ) → KeepsLog disks decode fits spelling old log → decode payload ≡ Some rec → fits log rec ≡ true
      → new.sizes ≡ old.sizes → new.log ≡ old.log → (new.further ≡ None) ⊎ ((new.further ≡ old.further) ⊎ (new.further ≡ Some payload))
      → LeavesNow disks new.disk (StandsFor new.limits.largest new.log new.further) → KeepsLog disks decode fits spelling new log
  keeps_same old new log rec payload keeps decoded fitted sized same which safe = record {
    sizes = sized ∙ keeps.sizes;
    replays = replays_kept (log_step decode fits) [] old.log new.log old.further new.further log payload keeps.replays (is_added decode fits log payload rec decoded fitted) same which;
    safe = safe;
  }

  -- once a doubtful record is settled, or not
  pub keeps_resolved : {T E : Type 0} (result : Result T E) (old new : State D) (log : List R) → KeepsLog disks decode fits spelling old log → new.sizes ≡ old.sizes → new.log ≡ old.log
      → OnOk result (IsSettled new) → OnErr result ((new.doubtful ≡ old.doubtful) × (new.further ≡ old.further))
      → LeavesNow disks new.disk (StandsFor new.limits.largest new.log new.further) → KeepsLog disks decode fits spelling new log
  keeps_resolved {T} {E} result old new log keeps sized same settled refused safe = record {
    sizes = sized ∙ keeps.sizes;
    replays = replays_settled (log_step decode fits) [] old.log new.log old.further new.further log keeps.replays same (which result settled refused);
    safe = safe;
  }
    where
      which : (result : Result T E) → OnOk result (IsSettled new) → OnErr result ((new.doubtful ≡ old.doubtful) × (new.further ≡ old.further)) → (new.further ≡ None) ⊎ (new.further ≡ old.further)
      which (Ok x) settled refused = inl settled.nothing
      which (Err e) settled refused = inr refused.1

  -- a success settles it
  pub settled_on_ok : {T E : Type 0} (result : Result T E) (new : State D) (log : List R) → KeepsLog disks decode fits spelling new log → OnOk result (IsSettled new)
      → OnOk result (LeavesNow disks new.disk (λ image. log_in decode fits new.limits.largest image ≡ Ok log))
  settled_on_ok (Ok x) new log keeps settled = keeps_settled new log keeps settled.nothing
  settled_on_ok (Err e) new log keeps settled = tt

  -- what a crash left where the disk was not called
  pub leaves_still : ((disk : D) (image : List ℕ) → disks.left_since disk (disks.moment disk) image → disks.may_leave disk image) → (journal : State D) (log : List R) (rec : R)
      → KeepsLog disks decode fits spelling journal log
      → Leaves disks journal.disk journal.disk (StandsForLog (log_in decode fits journal.limits.largest) log (further_record decode journal.further))
      (MayHaveLog (log_in decode fits journal.limits.largest) log (further_record decode journal.further) rec)
  leaves_still only_now journal log rec keeps =
      let now = keeps_safe journal log keeps in
      record {
        safe = now.each;
        any_moment = started disks.moment disks.left_since journal.disk (MayHaveLog (log_in decode fits journal.limits.largest) log (further_record decode journal.further) rec)
            (λ image left. inl (now.each image (only_now journal.disk image left)));
      }

  -- what a crash left during an append, and leaves after it
  pub leaves_append : (old new : State D) (log next : List R) (rec : R) (payload : List ℕ) → KeepsLog disks decode fits spelling old log → KeepsLog disks decode fits spelling new next
      → decode payload ≡ Some rec → fits log rec ≡ true
      → Leaves disks old.disk new.disk (StandsFor new.limits.largest new.log new.further) (MayHave old.limits.largest old.log old.further payload)
      → Leaves disks old.disk new.disk (StandsForLog (log_in decode fits new.limits.largest) next (further_record decode new.further))
      (MayHaveLog (log_in decode fits old.limits.largest) log (further_record decode old.further) rec)
  leaves_append old new log next rec payload keeps after decoded fitted crash = record {
    safe = (keeps_safe new next after).each;
    any_moment = weaker disks.moment disks.left_since old.disk new.disk (MayHave old.limits.largest old.log old.further payload)
        (MayHaveLog (log_in decode fits old.limits.largest) log (further_record decode old.further) rec) crash.any_moment
        (λ image may. may_have_log decode fits old.limits.largest log old.further payload rec image decoded
        (may_have_state (log_step decode fits) [] old.limits.largest old.log old.further payload log image keeps.replays (is_added decode fits log payload rec decoded fitted) may));
  }

  -- what a crash left while a doubtful record was settled, and leaves afterwards
  pub leaves_resolve : (old new : State D) (log : List R) → KeepsLog disks decode fits spelling old log → KeepsLog disks decode fits spelling new log
      → Leaves disks old.disk new.disk (StandsFor new.limits.largest new.log new.further) (StandsFor old.limits.largest old.log old.further)
      → Leaves disks old.disk new.disk (StandsForLog (log_in decode fits new.limits.largest) log (further_record decode new.further))
      (StandsForLog (log_in decode fits old.limits.largest) log (further_record decode old.further))
  leaves_resolve old new log keeps after crash = record {
    safe = (keeps_safe new log after).each;
    any_moment = weaker disks.moment disks.left_since old.disk new.disk (StandsFor old.limits.largest old.log old.further)
        (StandsForLog (log_in decode fits old.limits.largest) log (further_record decode old.further)) crash.any_moment
        (λ image stands. stands_for_log decode fits old.limits.largest log old.further image
        (stands_for_state (log_step decode fits) [] old.limits.largest old.log old.further log image keeps.replays stands));
  }

  -- where the disk tells, a record may stand further exactly where one is doubtful
  pub keeps_doubtful : (journal : State D) (log : List R) → KeepsLog disks decode fits spelling journal log → (IsSome journal.log → is_some journal.further ≡ journal.doubtful) → is_some journal.log ≡ is_some (disks.content journal.disk)
      → IsSome (disks.content journal.disk) → is_some (further_record decode journal.further) ≡ journal.doubtful
  keeps_doubtful journal log keeps doubtful told tells = decoded journal.further keeps.replays.fits ∙ doubtful (told ∙ tells)
    where
      decoded : (further : Option (List ℕ)) → ((payload : List ℕ) → further ≡ Some payload → IsSome (log_step decode fits log payload)) → is_some (further_record decode further) ≡ is_some further
      decoded None step = refl
      decoded (Some payload) step = by_record (decode payload) refl
        where
          by_record : (found : Option R) → decode payload ≡ found → is_some (decode payload) ≡ true
          by_record None none = absurd (let e = sym (ap is_some (not_decoded decode fits log payload none)) ∙ step payload refl in false≢true e)
          by_record (Some rec) some = ap is_some some

  -- ---- the limits, by the log

  pub keeps_len : (journal : State D) (log : List R) → KeepsLog disks decode fits spelling journal log → length journal.sizes ≡ length log
  keeps_len journal log keeps = ap length keeps.sizes ∙ length-map log (λ (rec : R). length (spelling rec))

  pub keeps_full : (journal : State D) (log : List R) (rec : R) (payload : List ℕ) → KeepsLog disks decode fits spelling journal log → payload ≡ spelling rec
      → is_full journal.limits journal.sizes (length payload) ≡ is_full journal.limits (sizes log) (length (spelling rec))
  keeps_full journal log rec payload keeps spelled =
      ap (λ (s : List ℕ). is_full journal.limits s (length payload)) keeps.sizes ∙ ap (λ (p : List ℕ). is_full journal.limits (sizes log) (length p)) spelled

  -- ---- calls, as contracts see them

  settled_log : (journal : State D) (log : List R) → IsSettled journal → IsSettledLog (log_state decode journal log)
  settled_log journal log settled = record { settled = settled.settled; nothing = ap (option_and_then decode) settled.nothing }

  -- once its record is appended
  pub adds_ok : {E : Type 0} (old new : State D) (log : List R) (rec : R) (payload : List ℕ) (position : ℕ) → KeepsLog disks decode fits spelling old log → decode payload ≡ Some rec → fits log rec ≡ true → payload ≡ spelling rec
      → new.sizes ≡ old.sizes ++ length payload ∷ [] → new.log ≡ with_further old.log (Some payload) → IsSettled new → new.limits ≡ old.limits → position ≡ length new.sizes
      → is_some (disks.content new.disk) ≡ is_some (disks.content old.disk)
      → Leaves disks old.disk new.disk (StandsFor new.limits.largest new.log new.further) (MayHave old.limits.largest old.log old.further payload)
      → KeepsLog disks decode fits spelling new (log ++ rec ∷ [])
      × AddsRecord {E = E} disks (log_in decode fits) rec (log_state decode old log) (log_state decode new (log ++ rec ∷ [])) (Ok position)
  adds_ok old new log rec payload position keeps decoded fitted spelled sized longer settled same place told crash =
      let after = keeps_more old new log rec payload keeps decoded fitted spelled sized longer settled.nothing (record { each = crash.safe }) in (
        after,
        record {
          log = refl;
          position = place ∙ keeps_len new (log ++ rec ∷ []) after;
          settled = settled_log new (log ++ rec ∷ []) settled;
          limits = same;
          further = tt;
          told = told;
          acknowledged = keeps_settled new (log ++ rec ∷ []) after settled.nothing;
          crash = leaves_append old new log (log ++ rec ∷ []) rec payload keeps after decoded fitted crash;
        },
      )

  -- once it is refused by the journal
  pub adds_err : {E : Type 0} (old new : State D) (log : List R) (rec : R) (payload : List ℕ) (why : E) → KeepsLog disks decode fits spelling old log → decode payload ≡ Some rec → fits log rec ≡ true
      → new.sizes ≡ old.sizes → new.log ≡ old.log → new.limits ≡ old.limits → (new.further ≡ None) ⊎ ((new.further ≡ old.further) ⊎ (new.further ≡ Some payload))
      → is_some (disks.content new.disk) ≡ is_some (disks.content old.disk)
      → Leaves disks old.disk new.disk (StandsFor new.limits.largest new.log new.further) (MayHave old.limits.largest old.log old.further payload)
      → KeepsLog disks decode fits spelling new log
      × AddsRecord disks (log_in decode fits) rec (log_state decode old log) (log_state decode new log) (Err why)
  adds_err old new log rec payload why keeps decoded fitted sized same_log same which told crash =
      let after = keeps_same old new log rec payload keeps decoded fitted sized same_log which (record { each = crash.safe }) in (
        after,
        record {
          log = refl;
          position = tt;
          settled = tt;
          limits = same;
          further = which_record decode old.further new.further payload rec decoded which;
          told = told;
          acknowledged = tt;
          crash = leaves_append old new log log rec payload keeps after decoded fitted crash;
        },
      )

  -- where the journal is not called
  pub adds_none : {E : Type 0} → ((disk : D) (image : List ℕ) → disks.left_since disk (disks.moment disk) image → disks.may_leave disk image) → (journal : State D) (log : List R) (rec : R) (why : E)
      → KeepsLog disks decode fits spelling journal log → AddsRecord disks (log_in decode fits) rec (log_state decode journal log) (log_state decode journal log) (Err why)
  adds_none only_now journal log rec why keeps = record {
    log = refl;
    position = tt;
    settled = tt;
    limits = refl;
    further = inr (inl refl);
    told = refl;
    acknowledged = tt;
    crash = leaves_still only_now journal log rec keeps;
  }

  -- once a doubtful record is settled, or not
  pub resolves_log : {E : Type 0} (result : Result (Unit {0}) E) (old new : State D) (log : List R) → KeepsLog disks decode fits spelling old log → new.sizes ≡ old.sizes → new.log ≡ old.log → new.limits ≡ old.limits
      → OnOk result (IsSettled new) → OnErr result ((new.doubtful ≡ old.doubtful) × (new.further ≡ old.further))
      → is_some (disks.content new.disk) ≡ is_some (disks.content old.disk)
      → Leaves disks old.disk new.disk (StandsFor new.limits.largest new.log new.further) (StandsFor old.limits.largest old.log old.further)
      → KeepsLog disks decode fits spelling new log × ResolvesLog disks (log_in decode fits) (log_state decode old log) (log_state decode new log) result
  resolves_log {E} result old new log keeps sized same_log same settled refused told crash =
      let after = keeps_resolved result old new log keeps sized same_log settled refused (record { each = crash.safe }) in (
        after,
        record {
          log = refl;
          settled = settled_at result settled;
          limits = same;
          refused = refused_at result refused;
          told = told;
          acknowledged = settled_on_ok result new log after settled;
          crash = leaves_resolve old new log keeps after crash;
        },
      )
    where
      settled_at : (result : Result (Unit {0}) E) → OnOk result (IsSettled new) → OnOk result (IsSettledLog (log_state decode new log))
      settled_at (Ok x) settled = settled_log new log settled
      settled_at (Err e) settled = tt

      refused_at : (result : Result (Unit {0}) E) → OnErr result ((new.doubtful ≡ old.doubtful) × (new.further ≡ old.further)) → OnErr result ((new.doubtful ≡ old.doubtful) × (further_record decode new.further ≡ further_record decode old.further))
      refused_at (Ok x) refused = tt
      refused_at (Err e) refused = (refused.0, ap (option_and_then decode) refused.1)

  -- once the records of a journal that was opened are read
  pub opens_log : (disk : D) (limits : Limits) (opened read : State D) (log : List R) → IsLogOf limits.largest (disks.content disk) opened.log → IsSettled opened → opened.limits ≡ limits
      → LeavesNow disks opened.disk (HasLog limits.largest opened.log) → opened.sizes ≡ sizes log
      → ((payloads : List (List ℕ)) → opened.log ≡ Some payloads → replay (log_step decode fits) [] payloads ≡ Ok log) → OnlyPayloads disks opened read
      → KeepsLog disks decode fits spelling read log × OpensLog disks (log_in decode fits) limits disk (log_state decode read log)
  opens_log disk limits opened read log log_is settled same safe sized whole reads =
      let stands : LeavesNow disks opened.disk (StandsFor opened.limits.largest opened.log opened.further) = record {
        each = λ image left. inl (subst (λ (l : Limits). HasLog l.largest opened.log image) (sym same) (safe.each image left));
      } in
      let keeps = keeps_opened opened read log sized whole settled.nothing stands reads in
      let none : read.further ≡ None = ap (λ (j : State D). j.further) reads.unchanged ∙ settled.nothing in
      let limits_are : read.limits ≡ limits = ap (λ (j : State D). j.limits) reads.unchanged ∙ same in (
        keeps,
        record {
          log = content_state (log_step decode fits) [] limits.largest (disks.content disk) opened.log (Ok log) log_is whole;
          settled = settled_log read log (record { settled = ap (λ (j : State D). j.doubtful) reads.unchanged ∙ settled.settled; nothing = none });
          limits_are = limits_are;
          safe = record {
            each = λ image left. subst (λ (l : Limits). log_in decode fits l.largest image ≡ Ok log) limits_are ((keeps_settled read log keeps none).each image left);
          };
        },
      )

-- a device that the journal refuses is refused by the reader of its records
pub refuses_opened : {D R : Type 0} (disks : Ghosts D) (decode : List ℕ → Option R) (fits : List R → R → Bool) (disk : D) (limits : Limits) (fault : OpenFault D) → IsDamageOf (log_of limits.largest) (disks.content disk) fault.why
    → (fault.why ≢ open_why.Fault → LeavesNow disks fault.disk (IsReadAs limits.largest (disks.content disk)))
    → RefusesLog disks (log_in decode fits) limits disk fault
refuses_opened disks decode fits disk limits fault damaged synced = record {
  damaged = content_damaged (log_step decode fits) [] limits.largest (disks.content disk) fault.why damaged;
  synced = synced;
}

-- and so is one whose records are refused
pub refuses_read : {D R : Type 0} (disks : Ghosts D) (decode : List ℕ → Option R) (fits : List R → R → Bool) (disk : D) (limits : Limits) (opened read : State D) (why : OpenWhy) → IsLogOf limits.largest (disks.content disk) opened.log
    → LeavesNow disks opened.disk (HasLog limits.largest opened.log) → IsDamageOf (replay (log_step decode fits) []) opened.log why → OnlyPayloads disks opened read
    → RefusesLog disks (log_in decode fits) limits disk (record { disk = read.disk; why = why })
refuses_read {D} {R} disks decode fits disk limits opened read why log_is safe damaged reads = record {
  damaged = λ damage is. content_state (log_step decode fits) [] limits.largest (disks.content disk) opened.log (Err damage) log_is (λ payloads told. at_log opened.log damage (damaged damage is) payloads told);
  synced = λ other. refused_synced disks disk opened read limits log_is safe reads;
}
  where
    at_log : (log : Option (List (List ℕ))) (damage : Damage) → IfSome log (λ payloads. replay (log_step decode fits) [] payloads ≡ Err damage) → (payloads : List (List ℕ)) → log ≡ Some payloads → replay (log_step decode fits) [] payloads ≡ Err damage
    at_log None damage holds payloads told = absurd (cc)
    at_log (Some found) damage holds payloads told = (let same : found ≡ payloads = cc in subst (λ (l : List (List ℕ)). replay (log_step decode fits) [] l ≡ Err damage) same holds)
