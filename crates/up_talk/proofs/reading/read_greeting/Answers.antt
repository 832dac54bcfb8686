use Rattle.std.proofs.Common.{rules, ◌≢◌, arith}
use Rattle.up_bytes.specs.declared.fault.FieldFault.TheVariants as field
use Rattle.up_talk.proofs.ReadingLemmas.{no_message}
use Rattle.up_talk.proofs.reading.read_greeting.Goals as goal

pub returns : goal.returns
returns g c =
    let other : c.in-Err.field-0 ≢ field.OutOfMemory = search rules in
    no_message c.args.payload.now c.in-Err.field-0 (λ i. omega (arith, c.type_inv.payload i)) (c.in-Err.ensures.exact other)
