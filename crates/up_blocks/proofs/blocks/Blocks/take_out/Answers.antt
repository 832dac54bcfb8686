use Rattle.std.proofs.Common.{ap, ◌∙◌, subst, option_map, is_some}
use Rattle.up_blocks.specs.Blocks.{AddsBlock, recorded}
use Rattle.up_blocks.specs.Kept.{kept_of}
use Rattle.up_blocks.specs.Records.{decoded}
use Rattle.up_blocks.proofs.Indexed.{delete_read}
use Rattle.up_blocks.proofs.Stored.{err_is, no_memory, recorded_delete}
use Rattle.up_blocks.proofs.blocks.Blocks.take_out.Goals as goal

pub returns-in_err-payload-clause-adds : goal.returns-in_err-payload-clause-adds
returns-in_err-payload-clause-adds g c =
    let i = c.self.inside in
    rw (← c.self.view_is) (no_memory g.D.Disk g.met.D.Disk.only_now i.journal i.index.records.items i.index.numbers.entries _ c.from_residual.result c.self.invariant
    (err_is g.D.Disk c.from_residual.result _ c.from_residual.ensures.1))

pub append-requires-clause-decoded : goal.append-requires-clause-decoded
append-requires-clause-decoded g c =
    ap (λ p. option_map kept_of (decoded p)) (c.as_slice.ensures.value ∙ c.in_ok-payload.ensures.payload) ∙ delete_read c.args.reference.now c.delete_payload.ensures.len

pub returns-clause-adds : goal.returns-clause-adds
returns-clause-adds g c =
    let told = is_some (g.D.Disk.content c.args.self.now.disk) in
    subst (λ rec. AddsBlock g.D.Disk rec c.args.self.now c.append.new.self c.append.result)
    (ap (recorded told) (c.as_slice.ensures.value ∙ c.in_ok-payload.ensures.payload) ∙ recorded_delete told c.args.reference.now c.delete_payload.ensures.len) c.append.ensures.adds
