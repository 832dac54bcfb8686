-- A record that is added, or refused.
use Rattle.std.proofs.Common.{◌≡◌, ◌≢◌, ℕ, Bool, true, false, not, List, [], ◌∷◌, ◌++◌, length, is_ok, if◌then◌else◌, IfSome, Option, Some, None, Result, Ok, Err, IsErrAnd, refl, sym, ◌∙◌, ap, subst, ◌⊎◌, is_some}
use Rattle.std.specs.Result.{result_ok}
use Rattle.std.proofs.lemmas.Bool.{false≢true}
use Rattle.up_disk.specs.declared.disk.Disk.{Ghosts}
use Rattle.up_entry.specs.ControlFiles.{is_control_file, is_ordinary}
use Rattle.up_entry.specs.Reading.{rec_of}
use Rattle.up_entry.specs.Spelling as spelling
use Rattle.up_entry.specs.Spelling.{IsSpelledRec}
use Rattle.up_entry.specs.declared.entries.Kind.{Kind}
use Rattle.up_entry.specs.declared.entries.Kind.TheVariants.{File, Directory, Link}
use Rattle.up_entry.specs.declared.records.Rec.{Rec}
use Rattle.up_entry.specs.declared.records.Rec.TheVariants.{Put, Delete, Snap}
use Rattle.up_entry.proofs.FixedFormLemmas.{form_spelled}
use Rattle.up_ends.specs.Growing.{OnlyGrows}
use Rattle.up_lists.specs.Counts.{HasCause}
use Rattle.up_lists.proofs.Causes.{HasCause-same, HasCause-weaker}
use Rattle.up_disk.specs.Leaving.{Leaves}
use Rattle.up_journal.specs.Journal as journal
use Rattle.up_journal.specs.Journal.{IsSettled, MayHave, StandsFor, is_full, with_further}
use Rattle.up_journal.specs.Logs.{KeepsLog}
use Rattle.up_journal.specs.declared.fault.AppendWhy.{AppendWhy}
use Rattle.up_journal.specs.declared.fault.AppendWhy.TheVariants as append
use Rattle.up_journal.proofs.Logs.{adds_err, adds_none, adds_ok, keeps_full, keeps_len}
use Rattle.up_lists.specs.Begins.{Begins}
use Rattle.up_lists.proofs.BeginsLemmas.{Begins-append, Begins-self}
use Rattle.up_names.specs.PathNames.{PathName, control_of}
use Rattle.up_names.specs.declared.paths.Control.{Control}
use Rattle.up_names.specs.declared.paths.Control.TheVariants.{Ordinary, Access, Group}
use Rattle.up_mem_tree.proofs.Tested.{fits_test}
use Rattle.up_log_tree.specs.Fits.{Fits, TextFits, control_for, fits}
use Rattle.up_tree.specs.States.{Applies, State, entries_of, fixed_of, record_in, state_of}

-- ---- a record that fits has a spelling

bare : (owner : List ℕ) (text : List ℕ) (control : Control) → (is_ordinary control) ≡ true → TextFits owner control text → text ≡ []
bare owner text Ordinary is fits = fits
bare owner text Access is fits = absurd (false≢true is)
bare owner text Group is fits = absurd (false≢true is)

not_control : (owner : List ℕ) (kind : Kind) (path : PathName) (text : List ℕ) → TextFits owner (control_for kind path) text → is_control_file kind path ≡ false → text ≡ []
not_control owner File path text fits is = bare owner text (control_of path) (not-not (is_ordinary (control_of path)) is) fits
  where
    not-not : (b : Bool) → not b ≡ false → b ≡ true
    not-not true h = refl
    not-not false h = absurd (false≢true (sym h))
not_control owner Directory path text fits is = fits
not_control owner Link path text fits is = fits

pub spelled_rec : (owner : List ℕ) (before : List Rec) (rec : Rec) → Fits owner before rec → IsSpelledRec rec
spelled_rec owner before (Put entry text) is = (form_spelled entry is.form, is.form.whole, not_control owner entry.attr.kind entry.name text is.parses)
spelled_rec owner before (Delete path) is = tt
spelled_rec owner before (Snap time) is = tt

pub read_again : (rec : Rec) (payload : List ℕ) → rec_of payload ≡ Ok rec → record_in payload ≡ Some rec
read_again rec payload is = ap result_ok is

abbrev fails : AppendWhy → Result ℕ AppendWhy
fails why = Err why

abbrev done : ℕ → Result ℕ AppendWhy
done position = Ok position

-- ---- what contracts see of it

module _ {D : Type 0} (disks : Ghosts D) (owner : List ℕ) where
  module _ (only_now : (disk : D) (image : List ℕ) → disks.left_since disk (disks.moment disk) image → disks.may_leave disk image) (kept : journal.State D) (log : List Rec) (rec : Rec) where
    -- where there is no memory for it
    pub no_memory : (result : Result ℕ AppendWhy) → KeepsLog disks record_in (fits owner) spelling.rec kept log → result ≡ Err append.OutOfMemory
        → Applies disks rec (state_of owner kept log) (state_of owner kept log) result
    no_memory result keeps is = subst (λ (r : Result ℕ AppendWhy). Applies disks rec (state_of owner kept log) (state_of owner kept log) r) (sym is) (record {
      added = adds_none disks record_in (fits owner) spelling.rec only_now kept log rec append.OutOfMemory keeps;
      owner = refl;
      full = λ _ other. absurd (other refl);
      full_only = λ n full. absurd (cc);
      untouched = λ _. refl;
      cause = HasCause-same (disks.faults kept.disk) (fails append.OutOfMemory ≡ fails append.Fault) (λ fault. absurd (cc));
    })

  module _ (old new : journal.State D) (log : List Rec) (rec : Rec) (payload : List ℕ) where
    -- once it is appended
    pub applied : (position : ℕ) → KeepsLog disks record_in (fits owner) spelling.rec old log → Fits owner log rec → record_in payload ≡ Some rec → payload ≡ spelling.rec rec
        → new.sizes ≡ old.sizes ++ length payload ∷ [] → new.log ≡ with_further old.log (Some payload) → IsSettled new → new.limits ≡ old.limits → position ≡ length new.sizes
        → is_some (disks.content new.disk) ≡ is_some (disks.content old.disk)
        → Leaves disks old.disk new.disk (StandsFor new.limits.largest new.log new.further) (MayHave old.limits.largest old.log old.further payload)
        → (is_full old.limits old.sizes (length payload) ≡ true → ⊥) → HasCause (disks.faults old.disk) (disks.faults new.disk) ⊥
        → KeepsLog disks record_in (fits owner) spelling.rec new (log ++ rec ∷ []) × Applies disks rec (state_of owner old log) (state_of owner new (log ++ rec ∷ [])) (Ok position)
    applied position keeps fitting decoded spelled sized longer settled same place told crash room cause =
        let adds = adds_ok disks record_in (fits owner) spelling.rec old new log rec payload position keeps decoded (fits_test owner log rec fitting) spelled sized longer settled same place told crash in (
          adds.0,
          record {
            added = adds.1;
            owner = refl;
            full = λ full _. absurd (room (keeps_full disks record_in (fits owner) spelling.rec old log rec payload keeps spelled ∙ full));
            full_only = λ n is. absurd (cc);
            untouched = tt;
            cause = HasCause-weaker (disks.faults old.disk) (disks.faults new.disk) ⊥ (done position ≡ fails append.Fault) cause (λ is. absurd (cc));
          },
        )

    -- once it is refused by the journal
    pub not_applied : (a : AppendWhy) → KeepsLog disks record_in (fits owner) spelling.rec old log → Fits owner log rec → record_in payload ≡ Some rec → payload ≡ spelling.rec rec
        → new.sizes ≡ old.sizes → new.log ≡ old.log → new.limits ≡ old.limits → (new.further ≡ None) ⊎ ((new.further ≡ old.further) ⊎ (new.further ≡ Some payload))
        → is_some (disks.content new.disk) ≡ is_some (disks.content old.disk)
        → Leaves disks old.disk new.disk (StandsFor new.limits.largest new.log new.further) (MayHave old.limits.largest old.log old.further payload)
        → (is_full old.limits old.sizes (length payload) ≡ true → a ≡ append.Full (length old.sizes))
        → ((n : ℕ) → a ≡ append.Full n → (is_full old.limits old.sizes (length payload) ≡ true) × (n ≡ length old.sizes))
        → (a ≢ append.Fault → new ≡ old) → HasCause (disks.faults old.disk) (disks.faults new.disk) (a ≡ append.Fault)
        → KeepsLog disks record_in (fits owner) spelling.rec new log × Applies disks rec (state_of owner old log) (state_of owner new log) (Err a)
    not_applied a keeps fitting decoded spelled sized same_log same which told crash full full_only untouched cause =
        let adds = adds_err disks record_in (fits owner) spelling.rec old new log rec payload a keeps decoded (fits_test owner log rec fitting) sized same_log same which told crash in
        let limit = keeps_full disks record_in (fits owner) spelling.rec old log rec payload keeps spelled in
        let count = keeps_len disks record_in (fits owner) spelling.rec old log keeps in (
          adds.0,
          record {
            added = adds.1;
            owner = refl;
            full = λ is_full _. ap Err (full (limit ∙ is_full) ∙ ap append.Full count);
            full_only = λ n is. let found = full_only n (inner a (append.Full n) is) in (sym limit ∙ found.0, found.1 ∙ count);
            untouched = λ other. ap (λ (j : journal.State D). state_of owner j log) (untouched other);
            cause = HasCause-weaker (disks.faults old.disk) (disks.faults new.disk) (a ≡ append.Fault) (fails a ≡ fails append.Fault) cause (inner a append.Fault);
          },
        )
      where
        inner : (a b : AppendWhy) → fails a ≡ fails b → a ≡ b
        inner a b is = cc

pub err_is : (result : Result ℕ AppendWhy) (why : AppendWhy) → IsErrAnd result (λ found. found ≡ why) → result ≡ Err why
err_is (Ok position) why is = absurd is
err_is (Err found) why is = ap Err is

-- the log after the record that was made ready is entered
pub log_entered : (ready : Option Rec) (rec : Rec) (log new : List Rec) → ready ≡ Some rec → IfSome ready (λ made. new ≡ log ++ made ∷ []) → new ≡ log ++ rec ∷ []
log_entered ready rec log new is entered = subst (λ (found : Option Rec). IfSome found (λ made. new ≡ log ++ made ∷ [])) is entered

-- ---- an addition only grows the log

begins_after : (result : Result ℕ AppendWhy) (old new : List Rec) (rec : Rec) → new ≡ (if is_ok result then old ++ rec ∷ [] else old) → Begins old new
begins_after (Ok position) old new rec is = subst (λ (l : List Rec). Begins old l) (sym is) (Begins-append old (rec ∷ []))
begins_after (Err why) old new rec is = subst (λ (l : List Rec). Begins old l) (sym is) (Begins-self old)

pub applied_grows : {D : Type 0} (disks : Ghosts D) (rec : Rec) (old new : State D) (result : Result ℕ AppendWhy) → Applies disks rec old new result
    → OnlyGrows entries_of (λ (state : State D). disks.faults state.disk) fixed_of old new
applied_grows disks rec old new result is = record {
  begins = begins_after result old.log new.log rec is.added.log;
  later = is.cause.later;
  stays = (let owner : new.owner ≡ old.owner = is.owner in let limits : new.limits ≡ old.limits = is.added.limits in cc);
}
