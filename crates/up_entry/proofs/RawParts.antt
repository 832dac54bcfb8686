-- A raw entry, by its parts.
use Rattle.std.proofs.Common.{◌≡◌, ℕ, List, ◌++◌, refl, ◌∙◌, append_assoc}
use Rattle.up_bytes.specs.Spelling.{byte, int, list, text}
use Rattle.up_bytes.proofs.Parts.{IsPart, then, last, whole}
use Rattle.up_bytes.proofs.Lists.{all_both, all_first, all_second}
use Rattle.up_bytes.proofs.FieldParts.{byte_part, int_part, text_part}
use Rattle.up_entry.specs.declared.puts.PutEntry.{PutEntry}
use Rattle.up_entry.specs.RawEntries.{raw_entry, raw_entry_at, FitsRawEntry}
use Rattle.up_entry.specs.Spelling.{block, HasAddress, IsBlock}
use Rattle.up_entry.proofs.EntryParts.{blocks_part, five}

-- parts, each before those behind it
ten : (a b c d e f g h i j : List ℕ) → a ++ b ++ c ++ d ++ e ++ f ++ g ++ h ++ i ++ j ≡ a ++ (b ++ (c ++ (d ++ (e ++ (f ++ (g ++ (h ++ (i ++ j))))))))
ten a b c d e f g h i j =
    five (a ++ b ++ c ++ d ++ e ++ f) g h i j
    ∙ append_assoc (a ++ b ++ c ++ d ++ e) f (g ++ (h ++ (i ++ j)))
    ∙ append_assoc (a ++ b ++ c ++ d) e (f ++ (g ++ (h ++ (i ++ j))))
    ∙ five a b c d (e ++ (f ++ (g ++ (h ++ (i ++ j)))))

pub raw_part : IsPart FitsRawEntry raw_entry raw_entry_at
unfolding raw_entry_at raw_entry
raw_part =
    whole FitsRawEntry raw_entry
    (then text_part λ _ name _. then text_part λ _ signed_name _. then byte_part λ _ packing _. then int_part λ _ time _. then text_part λ _ writer _.
    then byte_part λ _ attr _. then text_part λ _ link _. then text_part λ _ packdata _. then blocks_part λ _ blocks _.
    last {B = PutEntry} (λ sequence. record {
      name = name;
      signed_name = signed_name;
      packing = packing;
      time = time;
      writer = writer;
      attr = attr;
      link = link;
      packdata = packdata;
      blocks = blocks;
      sequence = sequence;
    }) int_part)
    (λ put fits.
    let is = fits.0 in (
      (put.name, (put.signed_name, (put.packing, (put.time, (put.writer, (put.attr, (put.link, (put.packdata, (put.blocks, put.sequence))))))))),
      (is.name, (is.signed_name, (is.packing, (is.time, (is.writer, (is.attr, (is.link, (is.packdata, ((is.blocks.0, all_both IsBlock (λ b. HasAddress b.location.endpoint) put.blocks is.blocks.1 fits.1), is.sequence))))))))),
      refl,
      ten (text put.name) (text put.signed_name) (byte put.packing) (int put.time) (text put.writer) (byte put.attr) (text put.link) (text put.packdata) (list block put.blocks) (int put.sequence),
    ))
    (λ p fits.
    let content = fits.1.1.1.1.1.1 in
    let blocks = content.1.1.0 in (
      (
        record {
          name = fits.0;
          signed_name = fits.1.0;
          packing = fits.1.1.0;
          time = fits.1.1.1.0;
          writer = fits.1.1.1.1.0;
          attr = fits.1.1.1.1.1.0;
          link = content.0;
          packdata = content.1.0;
          blocks = (blocks.0, all_first IsBlock (λ b. HasAddress b.location.endpoint) _ blocks.1);
          sequence = content.1.1.1;
        },
        all_second IsBlock (λ b. HasAddress b.location.endpoint) _ blocks.1,
      ),
      ten (text p.0) (text p.1.0) (byte p.1.1.0) (int p.1.1.1.0) (text p.1.1.1.1.0) (byte p.1.1.1.1.1.0) (text p.1.1.1.1.1.1.0) (text p.1.1.1.1.1.1.1.0) (list block p.1.1.1.1.1.1.1.1.0) (int p.1.1.1.1.1.1.1.1.1),
    ))
