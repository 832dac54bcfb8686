-- What one byte tells, rows and events, by their parts.
use Rattle.std.proofs.Common.{◌≡◌, ℕ, Bool, true, false, List, [], Option, Some, None, refl, append_assoc, arith}
use Rattle.std.specs.Prelude.{⊤}
use Rattle.up_bytes.specs.Num.{num}
use Rattle.up_bytes.specs.Spelling.{byte, IsU64}
use Rattle.up_bytes.proofs.FieldParts.{num_part}
use Rattle.up_bytes.proofs.Parts.{IsPart, then, last, whole}
use Rattle.up_bytes.proofs.Tables.{Tagged, made_row, plain_row, tagged_part, has_tag}
use Rattle.up_entry.specs.declared.entries.Entry.{Entry}
use Rattle.up_entry.specs.declared.what.What.{What}
use Rattle.up_entry.specs.declared.what.What.TheVariants as what
use Rattle.up_entry.specs.Spelling.{entry, FitsEntry, IsSpelled}
use Rattle.up_entry.proofs.EntryParts.{any_part}
use Rattle.up_rights.specs.declared.Right.{Right}
use Rattle.up_rights.specs.declared.Right.TheVariants as right
use Rattle.up_wire.specs.declared.replies.Row.{Row}
use Rattle.up_wire.specs.declared.replies.WatchEvent.{WatchEvent}
use Rattle.up_wire.specs.Reading.{event_at, event_kind_at, event_table, option_at, option_table, right_at, right_table, row_of, what_at, what_table}
use Rattle.up_wire.specs.Spelling.{event, event_byte, option_fields, option_tag, right_byte, row, spelled_option, spelled_what, what_fields, what_tag, IsEvent, IsOption, IsRow, IsSpelledOption, IsWhat}

-- every value fits
abbrev pub Any : {A : Type 0} → A → Type 0
Any x = ⊤

-- ---- what is malformed

abbrev Named : ℕ → What → Type 0
Named = Tagged IsWhat what_tag what_fields

name_only : (w : What) → Named 0 w → what.Name ≡ w
name_only what.Name named = refl
name_only _ named = absurd (omega (arith, named.1))

signed_name_only : (w : What) → Named 1 w → what.SignedName ≡ w
signed_name_only what.SignedName named = refl
signed_name_only _ named = absurd (omega (arith, named.1))

writer_only : (w : What) → Named 2 w → what.Writer ≡ w
writer_only what.Writer named = refl
writer_only _ named = absurd (omega (arith, named.1))

packing_only : (w : What) → Named 3 w → what.Packing ≡ w
packing_only what.Packing named = refl
packing_only _ named = absurd (omega (arith, named.1))

attr_only : (w : What) → Named 4 w → what.Attr ≡ w
attr_only what.Attr named = refl
attr_only _ named = absurd (omega (arith, named.1))

link_only : (w : What) → Named 5 w → what.Link ≡ w
link_only what.Link named = refl
link_only _ named = absurd (omega (arith, named.1))

blocks_only : (w : What) → Named 6 w → what.Blocks ≡ w
blocks_only what.Blocks named = refl
blocks_only _ named = absurd (omega (arith, named.1))

packdata_only : (w : What) → Named 7 w → what.Packdata ≡ w
packdata_only what.Packdata named = refl
packdata_only _ named = absurd (omega (arith, named.1))

root_only : (w : What) → Named 8 w → what.Root ≡ w
root_only what.Root named = refl
root_only _ named = absurd (omega (arith, named.1))

control_only : (w : What) → Named 9 w → what.Control ≡ w
control_only what.Control named = refl
control_only _ named = absurd (omega (arith, named.1))

control_size_only : (w : What) → Named 10 w → what.ControlSize ≡ w
control_size_only what.ControlSize named = refl
control_size_only _ named = absurd (omega (arith, named.1))

sequence_only : (w : What) → Named 11 w → what.Sequence ≡ w
sequence_only what.Sequence named = refl
sequence_only _ named = absurd (omega (arith, named.1))

reference_only : (w : What) → Named 13 w → what.Reference ≡ w
reference_only what.Reference named = refl
reference_only _ named = absurd (omega (arith, named.1))

block_only : (w : What) → Named 14 w → what.Block ≡ w
block_only what.Block named = refl
block_only _ named = absurd (omega (arith, named.1))

key_only : (w : What) → Named 15 w → what.Key ≡ w
key_only what.Key named = refl
key_only _ named = absurd (omega (arith, named.1))

snapshot_watch_only : (w : What) → Named 16 w → what.SnapshotWatch ≡ w
snapshot_watch_only what.SnapshotWatch named = refl
snapshot_watch_only _ named = absurd (omega (arith, named.1))

group_name_only : (w : What) → Named 17 w → what.GroupName ≡ w
group_name_only what.GroupName named = refl
group_name_only _ named = absurd (omega (arith, named.1))

pattern_split : (w : What) → Named 12 w → (p : ℕ) × IsU64 p × (what.Pattern p ≡ w) × (what_fields w ≡ num p)
pattern_split (what.Pattern element) named = (element, named.0, refl, refl)
pattern_split _ named = absurd (omega (arith, named.1))

what_tagged : (w : What) → IsWhat w → has_tag (what_tag w) what_table ≡ true
what_tagged what.Name fits = refl
what_tagged what.SignedName fits = refl
what_tagged what.Writer fits = refl
what_tagged what.Packing fits = refl
what_tagged what.Attr fits = refl
what_tagged what.Link fits = refl
what_tagged what.Blocks fits = refl
what_tagged what.Packdata fits = refl
what_tagged what.Root fits = refl
what_tagged what.Control fits = refl
what_tagged what.ControlSize fits = refl
what_tagged what.Sequence fits = refl
what_tagged (what.Pattern element) fits = refl
what_tagged what.Reference fits = refl
what_tagged what.Block fits = refl
what_tagged what.Key fits = refl
what_tagged what.SnapshotWatch fits = refl
what_tagged what.GroupName fits = refl

pub what_part : IsPart IsWhat spelled_what what_at
unfolding what_at
what_part =
    tagged_part IsWhat what_tag what_fields what_table (
      plain_row IsWhat what_tag what_fields 0 what.Name (tt, refl) refl name_only,
      (
        plain_row IsWhat what_tag what_fields 1 what.SignedName (tt, refl) refl signed_name_only,
        (
          plain_row IsWhat what_tag what_fields 2 what.Writer (tt, refl) refl writer_only,
          (
            plain_row IsWhat what_tag what_fields 3 what.Packing (tt, refl) refl packing_only,
            (
              plain_row IsWhat what_tag what_fields 4 what.Attr (tt, refl) refl attr_only,
              (
                plain_row IsWhat what_tag what_fields 5 what.Link (tt, refl) refl link_only,
                (
                  plain_row IsWhat what_tag what_fields 6 what.Blocks (tt, refl) refl blocks_only,
                  (
                    plain_row IsWhat what_tag what_fields 7 what.Packdata (tt, refl) refl packdata_only,
                    (
                      plain_row IsWhat what_tag what_fields 8 what.Root (tt, refl) refl root_only,
                      (
                        plain_row IsWhat what_tag what_fields 9 what.Control (tt, refl) refl control_only,
                        (
                          plain_row IsWhat what_tag what_fields 10 what.ControlSize (tt, refl) refl control_size_only,
                          (
                            plain_row IsWhat what_tag what_fields 11 what.Sequence (tt, refl) refl sequence_only,
                            (
                              made_row IsWhat what_tag what_fields 12 (λ element. what.Pattern element) num_part pattern_split (λ element fits. ((fits, refl), refl)),
                              (
                                plain_row IsWhat what_tag what_fields 13 what.Reference (tt, refl) refl reference_only,
                                (
                                  plain_row IsWhat what_tag what_fields 14 what.Block (tt, refl) refl block_only,
                                  (
                                    plain_row IsWhat what_tag what_fields 15 what.Key (tt, refl) refl key_only,
                                    (
                                      plain_row IsWhat what_tag what_fields 16 what.SnapshotWatch (tt, refl) refl snapshot_watch_only,
                                      (
                                        plain_row IsWhat what_tag what_fields 17 what.GroupName (tt, refl) refl group_name_only,
                                        tt,
                                      ),
                                    ),
                                  ),
                                ),
                              ),
                            ),
                          ),
                        ),
                      ),
                    ),
                  ),
                ),
              ),
            ),
          ),
        ),
      ),
    ) refl what_tagged

-- ---- rights

abbrev no_fields : {A : Type 0} → A → List ℕ
no_fields x = []

read_only : (r : Right) → Tagged (Any {A = Right}) right_byte (no_fields {A = Right}) 0 r → right.Read ≡ r
read_only right.Read named = refl
read_only _ named = absurd (omega (arith, named.1))

write_only : (r : Right) → Tagged (Any {A = Right}) right_byte (no_fields {A = Right}) 1 r → right.Write ≡ r
write_only right.Write named = refl
write_only _ named = absurd (omega (arith, named.1))

list_only : (r : Right) → Tagged (Any {A = Right}) right_byte (no_fields {A = Right}) 2 r → right.List ≡ r
list_only right.List named = refl
list_only _ named = absurd (omega (arith, named.1))

create_only : (r : Right) → Tagged (Any {A = Right}) right_byte (no_fields {A = Right}) 3 r → right.Create ≡ r
create_only right.Create named = refl
create_only _ named = absurd (omega (arith, named.1))

delete_only : (r : Right) → Tagged (Any {A = Right}) right_byte (no_fields {A = Right}) 4 r → right.Delete ≡ r
delete_only right.Delete named = refl
delete_only _ named = absurd (omega (arith, named.1))

right_tagged : (r : Right) → ⊤ → has_tag (right_byte r) right_table ≡ true
right_tagged right.Read fits = refl
right_tagged right.Write fits = refl
right_tagged right.List fits = refl
right_tagged right.Create fits = refl
right_tagged right.Delete fits = refl

pub right_part : IsPart (Any {A = Right}) (λ r. byte (right_byte r)) right_at
unfolding right_at
right_part =
    tagged_part (Any {A = Right}) right_byte (no_fields {A = Right}) right_table (
      plain_row (Any {A = Right}) right_byte (no_fields {A = Right}) 0 right.Read (tt, refl) refl read_only,
      (
        plain_row (Any {A = Right}) right_byte (no_fields {A = Right}) 1 right.Write (tt, refl) refl write_only,
        (
          plain_row (Any {A = Right}) right_byte (no_fields {A = Right}) 2 right.List (tt, refl) refl list_only,
          (
            plain_row (Any {A = Right}) right_byte (no_fields {A = Right}) 3 right.Create (tt, refl) refl create_only,
            (
              plain_row (Any {A = Right}) right_byte (no_fields {A = Right}) 4 right.Delete (tt, refl) refl delete_only,
              tt,
            ),
          ),
        ),
      ),
    ) refl right_tagged

-- ---- an entry that may be missing

abbrev pub FitsOption : Option Entry → Type 0
FitsOption found = IsOption found × IsSpelledOption found

none_only : (o : Option Entry) → Tagged FitsOption option_tag option_fields 0 o → None ≡ o
none_only None named = refl
none_only (Some e) named = absurd (omega (arith, named.1))

some_split : (o : Option Entry) → Tagged FitsOption option_tag option_fields 1 o → (e : Entry) × FitsEntry e × (Some e ≡ o) × (option_fields o ≡ entry e)
some_split (Some e) named = (e, named.0, refl, refl)
some_split None named = absurd (omega (arith, named.1))

option_tagged : (o : Option Entry) → FitsOption o → has_tag (option_tag o) option_table ≡ true
option_tagged None fits = refl
option_tagged (Some e) fits = refl

pub option_part : IsPart FitsOption spelled_option option_at
unfolding option_at
option_part =
    tagged_part FitsOption option_tag option_fields option_table (
      plain_row FitsOption option_tag option_fields 0 None ((tt, tt), refl) refl none_only,
      (
        made_row FitsOption option_tag option_fields 1 (λ e. Some e) any_part some_split (λ e fits. ((fits, refl), refl)),
        tt,
      ),
    ) refl option_tagged

-- ---- rows

abbrev pub FitsRow : Row → Type 0
FitsRow r = IsRow r × IsSpelled r.entry

pub row_part : IsPart FitsRow row row_of
unfolding row_of row
row_part =
    whole FitsRow row (then num_part λ _ rest _. last {B = Row} (λ e. record { entry = e; rest = rest }) any_part)
    (λ r fits. ((r.rest, r.entry), (fits.0.0, (fits.0.1, fits.1)), refl, refl))
    (λ p fits. (((fits.0, fits.1.0), fits.1.1), refl))

-- ---- events

put_only : (b : Bool) → Tagged (Any {A = Bool}) event_byte (no_fields {A = Bool}) 0 b → false ≡ b
put_only false named = refl
put_only true named = absurd (omega (arith, named.1))

deleted_only : (b : Bool) → Tagged (Any {A = Bool}) event_byte (no_fields {A = Bool}) 1 b → true ≡ b
deleted_only true named = refl
deleted_only false named = absurd (omega (arith, named.1))

kind_tagged : (b : Bool) → ⊤ → has_tag (event_byte b) event_table ≡ true
kind_tagged false fits = refl
kind_tagged true fits = refl

event_kind_part : IsPart (Any {A = Bool}) (λ b. byte (event_byte b)) event_kind_at
unfolding event_kind_at
event_kind_part =
    tagged_part (Any {A = Bool}) event_byte (no_fields {A = Bool}) event_table (
      plain_row (Any {A = Bool}) event_byte (no_fields {A = Bool}) 0 false (tt, refl) refl put_only,
      (
        plain_row (Any {A = Bool}) event_byte (no_fields {A = Bool}) 1 true (tt, refl) refl deleted_only,
        tt,
      ),
    ) refl kind_tagged

abbrev pub FitsEvent : WatchEvent → Type 0
FitsEvent e = IsEvent e × IsSpelled e.entry

pub event_part : IsPart FitsEvent event event_at
unfolding event_at event
event_part =
    whole FitsEvent event
    (then num_part λ _ position _. then event_kind_part λ _ delete _. last {B = WatchEvent} (λ e. record { position = position; delete = delete; entry = e }) any_part)
    (λ e fits. ((e.position, (e.delete, e.entry)), (fits.0.0, (tt, (fits.0.1, fits.1))), refl, append_assoc (num e.position) (byte (event_byte e.delete)) (entry e.entry)))
    (λ p fits. (((fits.0, fits.1.1.0), fits.1.1.1), append_assoc (num p.0) (byte (event_byte p.1.0)) (entry p.1.1)))
