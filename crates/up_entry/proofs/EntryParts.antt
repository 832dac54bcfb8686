-- A block, the blocks and an entry, by their parts.
use Rattle.std.proofs.Common.{◌≡◌, ℕ, Bool, true, false, List, ◌++◌, Ok, refl, ◌∙◌, append_assoc}
use Rattle.up_bytes.specs.Num.{num}
use Rattle.up_bytes.specs.Spelling.{byte, int, text, list, IsByte, IsU64, IsI64, IsText}
use Rattle.up_names.specs.PathNames.{canonical, IsCanonical}
use Rattle.up_names.specs.UserNames.{user_of}
use Rattle.up_entry.specs.declared.entries.Block.{Block}
use Rattle.up_entry.specs.declared.entries.Entry.{Entry}
use Rattle.up_entry.specs.declared.reading.Heading.{Heading}
use Rattle.up_entry.specs.Attrs.{attr_byte}
use Rattle.up_entry.specs.Reading.{block_at, blocks_at, heading_at, entry_at}
use Rattle.up_entry.specs.Spelling.{block, entry, heading, endpoint_text, link_text, IsBlock, HasAddress, FitsBlock, FitsBlocks, FitsEntry, FitsWhole}
use Rattle.up_bytes.proofs.Parts.{IsPart, then, last, whole, refit}
use Rattle.up_bytes.proofs.Lists.{list_part, all_both, all_first, all_second}
use Rattle.up_bytes.proofs.FieldParts.{byte_part, num_part, int_part, text_part, raw_part}
use Rattle.up_entry.proofs.EntryFields.{path_part, user_part, attr_part, link_part, endpoint_part, MarkFits, LinkFits, true_is_false}

-- ---- parts, each before those behind it

pub five : (a b c d e : List ℕ) → a ++ b ++ c ++ d ++ e ≡ a ++ (b ++ (c ++ (d ++ e)))
five a b c d e = append_assoc (a ++ b ++ c) d e ∙ append_assoc (a ++ b) c (d ++ e) ∙ append_assoc a b (c ++ (d ++ e))

pub six : (a b c d e f : List ℕ) → a ++ b ++ c ++ d ++ e ++ f ≡ a ++ (b ++ (c ++ (d ++ (e ++ f))))
six a b c d e f = append_assoc (a ++ b ++ c ++ d) e f ∙ five a b c d (e ++ f)

-- ---- blocks

pub block_part : IsPart FitsBlock block block_at
unfolding block_at block
block_part =
    whole FitsBlock block
    (then endpoint_part λ _ endpoint _. then (raw_part 32) λ _ reference _. then num_part λ _ offset _. then num_part λ _ size _.
    last {B = Block} (λ packdata. record { location = record { endpoint = endpoint; reference = reference }; offset = offset; size = size; packdata = packdata }) text_part)
    (λ b fits. (
      (b.location.endpoint, (b.location.reference, (b.offset, (b.size, b.packdata)))),
      ((fits.0.endpoint, fits.1), (fits.0.reference, (fits.0.offset, (fits.0.size, fits.0.packdata)))),
      refl,
      five (text (endpoint_text b.location.endpoint)) b.location.reference (num b.offset) (num b.size) (text b.packdata),
    ))
    (λ p fits. ((record { endpoint = fits.0.0; reference = fits.1.0; offset = fits.1.1.0; size = fits.1.1.1.0; packdata = fits.1.1.1.1 }, fits.0.1), five (text (endpoint_text p.0)) p.1.0 (num p.1.1.0) (num p.1.1.1.0) (text p.1.1.1.1)))

pub blocks_part : IsPart FitsBlocks (list block) blocks_at
blocks_part = list_part block_part

-- ---- what stands in front of an entry's link

pub record HeadingFits (marks : Bool) (h : Heading) : Type 0 where
  pub name : IsCanonical h.name
  pub signed_name : IsCanonical h.signed_name
  pub packing : IsByte h.packing
  pub time : IsI64 h.time
  pub writer : user_of h.writer ≡ Ok h.writer
  pub mark : MarkFits marks h.attr

abbrev pub spelled_heading : Heading → List ℕ
spelled_heading h = heading (canonical h.name) (canonical h.signed_name) h.packing h.time h.writer (attr_byte h.attr)

pub heading_part : (marks : Bool) → IsPart (HeadingFits marks) spelled_heading (heading_at marks)
unfolding heading_at
heading_part marks =
    whole (HeadingFits marks) spelled_heading
    (then path_part λ _ name _. then path_part λ _ signed_name _. then byte_part λ _ packing _. then int_part λ _ time _. then user_part λ _ writer _.
    last {B = Heading} (λ attr. record { name = name; signed_name = signed_name; packing = packing; time = time; writer = writer; attr = attr }) (attr_part marks))
    (λ h fits. (
      (h.name, (h.signed_name, (h.packing, (h.time, (h.writer, h.attr))))),
      (fits.name, (fits.signed_name, (fits.packing, (fits.time, (fits.writer, fits.mark))))),
      refl,
      six (text (canonical h.name)) (text (canonical h.signed_name)) (byte h.packing) (int h.time) (text h.writer) (byte (attr_byte h.attr)),
    ))
    (λ p fits. (
      record { name = fits.0; signed_name = fits.1.0; packing = fits.1.1.0; time = fits.1.1.1.0; writer = fits.1.1.1.1.0; mark = fits.1.1.1.1.1 },
      six (text (canonical p.0)) (text (canonical p.1.0)) (byte p.1.1.0) (int p.1.1.1.0) (text p.1.1.1.1.0) (byte (attr_byte p.1.1.1.1.1)),
    ))

-- ---- an entry

-- with the mark only where marks may stand
abbrev pub FitsMarked : Bool → Entry → Type 0
FitsMarked marks e = FitsEntry e × MarkFits marks e.attr

abbrev heading_of : Entry → Heading
heading_of e = record { name = e.name; signed_name = e.signed_name; packing = e.packing; time = e.time; writer = e.writer; attr = e.attr }

entry-parts : (e : Entry) → entry e ≡ spelled_heading (heading_of e) ++ (text (link_text e.link) ++ (text e.packdata ++ (list block e.blocks ++ num e.sequence)))
unfolding entry
entry-parts e = five (spelled_heading (heading_of e)) (text (link_text e.link)) (text e.packdata) (list block e.blocks) (num e.sequence)

entry_fits : (marks : Bool) (e : Entry) → HeadingFits marks (heading_of e) → LinkFits e.attr.kind e.link → IsText e.packdata → FitsBlocks e.blocks → IsU64 e.sequence → FitsMarked marks e
entry_fits marks e heading link packdata blocks sequence = (
  (
    record {
      name = heading.name;
      signed_name = heading.signed_name;
      packing = heading.packing;
      time = heading.time;
      writer = heading.writer;
      link = link.0;
      packdata = packdata;
      blocks = (blocks.0, all_first IsBlock (λ b. HasAddress b.location.endpoint) e.blocks blocks.1);
      sequence = sequence;
    },
    record { link = link.1; addresses = all_second IsBlock (λ b. HasAddress b.location.endpoint) e.blocks blocks.1 },
  ),
  heading.mark,
)

heading_fits : (marks : Bool) (e : Entry) → FitsMarked marks e → HeadingFits marks (heading_of e)
heading_fits marks e fits =
    let is = fits.0.0 in
    record { name = is.name; signed_name = is.signed_name; packing = is.packing; time = is.time; writer = is.writer; mark = fits.1 }

pub marked_part : (marks : Bool) → IsPart (FitsMarked marks) entry (entry_at marks)
unfolding entry_at
marked_part marks =
    whole (FitsMarked marks) entry
    (then (heading_part marks) λ _ heading _. then (link_part heading.attr.kind) λ _ link _. then text_part λ _ packdata _. then blocks_part λ _ blocks _.
    last {B = Entry} (λ sequence. record {
      name = heading.name;
      signed_name = heading.signed_name;
      packing = heading.packing;
      time = heading.time;
      writer = heading.writer;
      attr = heading.attr;
      link = link;
      packdata = packdata;
      blocks = blocks;
      sequence = sequence;
    }) num_part)
    (λ e fits.
    let is = fits.0.0 in
    let spelled = fits.0.1 in (
      (heading_of e, (e.link, (e.packdata, (e.blocks, e.sequence)))),
      (heading_fits marks e fits, ((is.link, spelled.link), (is.packdata, ((is.blocks.0, all_both IsBlock (λ b. HasAddress b.location.endpoint) e.blocks is.blocks.1 spelled.addresses), is.sequence)))),
      refl,
      entry-parts e,
    ))
    (λ p fits. (entry_fits marks _ fits.0 fits.1.0 fits.1.1.0 fits.1.1.1.0 fits.1.1.1.1, entry-parts _))

pub any_part : IsPart FitsEntry entry (entry_at true)
any_part = refit FitsEntry (marked_part true) (λ e fits. (fits, λ e. true_is_false e)) (λ e fits. fits.0)

pub whole_part : IsPart FitsWhole entry (entry_at false)
whole_part = refit FitsWhole (marked_part false) (λ e fits. (fits.0, λ _. fits.1)) (λ e fits. (fits.0, fits.1 refl))
