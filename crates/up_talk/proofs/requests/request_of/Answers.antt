use Rattle.std.proofs.Common.{rules, ◌≢◌, arith}
use Rattle.up_bytes.specs.declared.fault.FieldFault.TheVariants as field
use Rattle.up_talk.proofs.RequestLemmas.{no_request_at}
use Rattle.up_talk.proofs.requests.request_of.Goals as goal

pub returns : goal.returns
returns c =
    let other : c.in-Err.field-0 ≢ field.OutOfMemory = search rules in
    no_request_at c.args.payload.now c.in-Err.field-0 (λ i. omega (arith, c.type_inv.payload i)) (c.in-Err.ensures.exact other)
