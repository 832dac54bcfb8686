use Rattle.std.proofs.Common.{rules}
use Rattle.up_bytes.specs.Spelling.{int, list, text}
use Rattle.up_entry.specs.RawEntries.{raw_entry}
use Rattle.up_entry.specs.Spelling.{block, heading}
use Rattle.up_bytes.proofs.Sizes.{five_sizes}
use Rattle.up_entry.proofs.raw.PutEntryFields.size.Goals as goal

pub returns : goal.returns
unfolding raw_entry
returns c =
    let put = c.args.self.now in
    five_sizes (heading put.name put.signed_name put.packing put.time put.writer put.attr) (text put.link) (text put.packdata) (list block put.blocks) (int put.sequence) _ _ _ _ _ _ _ _ _
    (search rules) (search rules) (search rules) (search rules) (search rules) c.saturating_add.ensures c.saturating_add-2.ensures c.saturating_add-3.ensures c.saturating_add-4.ensures
