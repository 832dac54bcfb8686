use Rattle.std.proofs.Common.{◌≡◌, Ok, Err, IsErrAnd, IsErrOf, Result, List, ℕ, ap, sym, ◌∙◌, arith}
use Rattle.std.specs.Option.{option_copied}
use Rattle.up_blocks.specs.Blocks.{why_of_read}
use Rattle.up_blocks.specs.declared.fault.BlockWhy.{BlockWhy}
use Rattle.up_blocks.proofs.Given.{gives_bytes, gives_missing, gives_none, number_within}
use Rattle.up_lists.proofs.Causes.{HasCause-weaker}
use Rattle.up_journal.specs.declared.fault.ReadWhy.TheVariants as read_why
use Rattle.up_blocks.proofs.blocks.Blocks.get.Goals as goal

err_is : (result : Result (List ℕ) BlockWhy) (reason : BlockWhy) → IsErrAnd result (λ found. found ≡ reason) → result ≡ Err reason
err_is (Ok bytes) reason is = absurd is
err_is (Err found) reason is = ap Err is

pub returns-in_default-clause-gives : goal.returns-in_default-clause-gives
returns-in_default-clause-gives g c =
    let i = c.self.inside in
    rw (← c.self.view_is) (gives_missing g.D.Disk g.met.D.Disk.only_now i.journal i.index.records.items i.index.numbers.entries c.args.reference.now c.self.invariant (sym c.get.ensures ∙ ap option_copied c.in_default.is))

pub overflow_add-number : goal.overflow_add-number
overflow_add-number g c =
    let i = c.self.inside in
    let within = number_within g.D.Disk i.journal i.index.records.items i.index.numbers.entries c.args.reference.now c.in-Some.number.now c.self.invariant (sym c.get.ensures ∙ ap option_copied c.in-Some.is) in
    omega (arith, within, c.len-position.ensures.count, c.len-position.type_inv)

pub payload_tail-requires-clause-last : goal.payload_tail-requires-clause-last
payload_tail-requires-clause-last g c =
    let i = c.self.inside in
    let within = number_within g.D.Disk i.journal i.index.records.items i.index.numbers.entries c.args.reference.now c.in-Some.number.now c.self.invariant (sym c.get.ensures ∙ ap option_copied c.in-Some.is) in
    omega (arith, within)

pub returns-in_err-bytes-clause-gives : goal.returns-in_err-bytes-clause-gives
returns-in_err-bytes-clause-gives g c =
    let i = c.self.inside in
    let a = c.in_err-bytes.field-0.0 in
    let e = c.payload_tail.ensures in
    let was : c.payload_tail.result ≡ Err a = c.in_err-bytes.was in
    rw (err_is c.from_residual.result (why_of_read a) c.from_residual.ensures.1, ← c.self.view_is)
    (gives_none g.D.Disk i.journal c.payload_tail.new.self i.index.records.items i.index.numbers.entries c.args.reference.now c.in-Some.number.now c.self.invariant (sym c.get.ensures ∙ ap option_copied c.in-Some.is)
    e.unchanged e.content e.crash a
    (HasCause-weaker (g.D.Disk.faults i.journal.disk) (g.D.Disk.faults c.payload_tail.new.self.disk) (IsErrOf c.payload_tail.result read_why.Fault) (a ≡ read_why.Fault) e.counts (λ is. was ∙ ap Err is))
    (λ is. e.memory (was ∙ ap Err is)))

pub returns-clause-gives : goal.returns-clause-gives
returns-clause-gives g c =
    let i = c.self.inside in
    let e = c.payload_tail.ensures in
    let was : c.payload_tail.result ≡ Ok c.in_ok-bytes.bytes = c.in_ok-bytes.was in
    rw (← c.self.view_is)
    (gives_bytes g.D.Disk i.journal c.payload_tail.new.self i.index.records.items i.index.numbers.entries c.args.reference.now c.in-Some.number.now c.self.invariant (sym c.get.ensures ∙ ap option_copied c.in-Some.is)
    e.unchanged e.content e.crash c.in_ok-bytes.bytes c.len-position.ensures.told c.in_ok-bytes.ensures.payload c.in_ok-bytes.ensures.size
    (HasCause-weaker (g.D.Disk.faults i.journal.disk) (g.D.Disk.faults c.payload_tail.new.self.disk) (IsErrOf c.payload_tail.result read_why.Fault) ⊥ e.counts (λ none. absurd none)))
