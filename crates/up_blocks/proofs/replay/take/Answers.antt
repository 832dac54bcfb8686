use Rattle.std.proofs.Common.{sym, ◌∙◌}
use Rattle.up_blocks.proofs.Indexed.{index_fits, not_taken, sizes_more, taken}
use Rattle.up_blocks.proofs.replay.take.Goals as goal

pub returns-then-not-fits-clause-not_taken : goal.returns-then-not-fits-clause-not_taken
returns-then-not-fits-clause-not_taken c = λ _ log index.
    not_taken log c.args.payload.now c.in-Some.change (sym c.read_payload.ensures ∙ c.in-Some.is)
    (sym (index_fits log c.args.index.now.records.items c.args.index.now.numbers.entries c.in-Some.change index) ∙ sym c.fits.ensures ∙ c.if-not-fits.true)

pub returns-clause-taken : goal.returns-clause-taken
returns-clause-taken c = λ _ log index.
    rw (c.enter.ensures.records, c.enter.ensures.entries, c.make_room.ensures.records, c.make_room.ensures.entries)
    (taken log c.args.payload.now c.in-Some.change c.args.index.now.records.items c.args.index.now.numbers.entries (sym c.read_payload.ensures ∙ c.in-Some.is)
    (sym (index_fits log c.args.index.now.records.items c.args.index.now.numbers.entries c.in-Some.change index) ∙ sym c.fits.ensures ∙ c.if-not-fits.false) index)

pub returns-clause-sizes : goal.returns-clause-sizes
returns-clause-sizes c = λ _.
    rw (c.enter.ensures.records, c.make_room.ensures.records)
    (sizes_more c.args.index.now.records.items c.args.payload.now c.in-Some.change (sym c.read_payload.ensures ∙ c.in-Some.is))
