-- A record of a tree's log, by its parts, and as the whole of some bytes.
use Rattle.std.proofs.Common.{◌≡◌, ℕ, Bool, true, false, cond, eqb, List, [], ◌++◌, length, Some, None, refl, sym, ap, subst, ◌∙◌, arith}
use Rattle.std.specs.Prelude.{◌||◌}
use Rattle.std.proofs.lemmas.Bool.{eqb-true, eq-eqb, cond-true}
use Rattle.std.proofs.lemmas.List.{nil_from_length}
use Rattle.up_bytes.specs.Num.{num}
use Rattle.up_bytes.specs.Spelling.{text, IsU64, IsText}
use Rattle.up_bytes.specs.Sequences.{AreMessages}
use Rattle.up_names.specs.PathNames.{PathName, canonical, IsCanonical}
use Rattle.up_entry.specs.declared.entries.Entry.{Entry}
use Rattle.up_entry.specs.declared.records.Rec.{Rec}
use Rattle.up_entry.specs.declared.records.Rec.TheVariants.{Put, Delete, Snap}
use Rattle.up_entry.specs.ControlFiles.{is_control_file}
use Rattle.up_entry.specs.Reading.{control_text_at, put_at, rec_table, rec_at, rec_of}
use Rattle.up_entry.specs.Spelling.{entry, rec, rec_fields, rec_tag, FitsWhole, FitsRec}
use Rattle.up_bytes.proofs.Parts.{IsPart, then, last, whole, known_part}
use Rattle.up_bytes.proofs.FieldParts.{num_part, text_part}
use Rattle.up_bytes.proofs.Messages.{messages}
use Rattle.up_bytes.proofs.Tables.{has_tag, made_row, tagged_part, IsRow, Tagged}
use Rattle.up_entry.proofs.EntryFields.{path_part, passed}
use Rattle.up_entry.proofs.EntryParts.{whole_part}

-- ---- the text beside an entry

abbrev pub ControlFits : Entry → List ℕ → Type 0
ControlFits e control = IsText control × (is_control_file e.attr.kind e.name ≡ false → control ≡ [])

is_kept : (is_control : Bool) (t : List ℕ) → (is_control ≡ false → t ≡ []) → (is_control || eqb (length t) 0) ≡ true
is_kept true t none = refl
is_kept false t none = eq-eqb (length t) 0 (ap length (none refl))

is_empty : (is_control : Bool) (t : List ℕ) → (is_control || eqb (length t) 0) ≡ true → is_control ≡ false → t ≡ []
is_empty is_control t kept other = nil_from_length t (eqb-true (length t) 0 (ap (λ (b : Bool). b || eqb (length t) 0) (sym other) ∙ kept))

control_part : (e : Entry) → IsPart (ControlFits e) text (control_text_at e)
unfolding control_text_at
control_part e =
    let is_control = is_control_file e.attr.kind e.name in
    known_part text_part (ControlFits e) (λ t. cond (is_control || eqb (length t) 0) (Some t) None) (λ t. t)
    (λ t fits. (fits.0, cond-true (is_control || eqb (length t) 0) (Some t) None (is_kept is_control t fits.1)))
    (λ t control lt is.
    let same = passed (is_control || eqb (length t) 0) t control is in
    let kept : IsText t × (is_control ≡ false → t ≡ []) = (lt, is_empty is_control t same.0) in
    (subst (ControlFits e) same.1 kept, sym same.1))

-- ---- the fields behind each tag

put_split : (r : Rec) → Tagged FitsRec rec_tag rec_fields 1 r → (p : Entry × List ℕ) × (FitsWhole p.0 × ControlFits p.0 p.1) × (Put p.0 p.1 ≡ r) × (rec_fields r ≡ entry p.0 ++ text p.1)
put_split (Put e control) fits =
    let is = fits.0.0 in
    let spelled = fits.0.1 in
    ((e, control), (((is.0, spelled.0), spelled.1), (is.1, spelled.2)), refl, refl)
put_split _ fits = absurd (omega (arith, fits.1))

put_row : IsRow FitsRec rec_tag rec_fields (1, put_at)
unfolding put_at
put_row =
    whole (Tagged FitsRec rec_tag rec_fields 1) rec_fields (then whole_part λ _ e _. last {B = Rec} (λ control. Put e control) (control_part e)) put_split
    (λ p fits. ((((fits.0.0.0, fits.1.0), (fits.0.0.1, fits.0.1, fits.1.1)), refl), refl))

delete_split : (r : Rec) → Tagged FitsRec rec_tag rec_fields 2 r → (path : PathName) × IsCanonical path × (Delete path ≡ r) × (rec_fields r ≡ text (canonical path))
delete_split (Delete path) fits = (path, fits.0.0, refl, refl)
delete_split _ fits = absurd (omega (arith, fits.1))

snap_split : (r : Rec) → Tagged FitsRec rec_tag rec_fields 3 r → (time : ℕ) × IsU64 time × (Snap time ≡ r) × (rec_fields r ≡ num time)
snap_split (Snap time) fits = (time, fits.0.0, refl, refl)
snap_split _ fits = absurd (omega (arith, fits.1))

-- ---- a record

has_its_tag : (r : Rec) → FitsRec r → has_tag (rec_tag r) rec_table ≡ true
has_its_tag (Put e control) fits = refl
has_its_tag (Delete path) fits = refl
has_its_tag (Snap time) fits = refl

pub rec_part : IsPart FitsRec rec rec_at
rec_part =
    tagged_part FitsRec rec_tag rec_fields rec_table (
      put_row,
      (
        made_row FitsRec rec_tag rec_fields 2 (λ path. Delete path) path_part delete_split (λ path fits. (((fits, tt), refl), refl)),
        (made_row FitsRec rec_tag rec_fields 3 (λ time. Snap time) num_part snap_split (λ time fits. (((fits, tt), refl), refl)), tt),
      ),
    ) refl has_its_tag

pub rec_messages : AreMessages FitsRec rec rec_of
rec_messages = messages rec_part
