use Rattle.std.proofs.Common.{◌≡◌, ◌+◌, ◌-◌, ℕ, length, get_or, inl, inr, ap, ◌∙◌, arith}
use Rattle.up_bytes.specs.Input.{Input, place}
use Rattle.up_bytes.specs.declared.fault.FieldFault.TheVariants.{Spelling}
use Rattle.up_bytes.proofs.Forms.{fails}
use Rattle.up_bytes.proofs.Digits.{Sofar-more, wrong_tenth, wrong_zero, right, ends, fits}
use Rattle.up_bytes.proofs.leb128.num_in.Goals as goal

pub returns-then-is_misplaced-clause-exact : goal.returns-then-is_misplaced-clause-exact
returns-then-is_misplaced-clause-exact c =
    let input : Input = record { size = c.args.place + length c.args.bytes.now; left = c.args.bytes.now } in
    let at : place input ≡ c.args.place = omega arith in
    let sofar = c.loop-i.invariant in
    let named = ap (λ (q : ℕ). fails (ℕ × Input) (Spelling q)) at in
    elim c.if-is_misplaced.ensures.yes [
      | inl w ↦ wrong_tenth input c.loop-i.i c.loop-i-test.true sofar.high w.0 w.1 ∙ named
      | inr w ↦ wrong_zero input c.loop-i.i c.loop-i-test.true sofar.high w.0 w.1 ∙ named
    ]

pub overflow_add-result : goal.overflow_add-result
overflow_add-result c =
    let digit = get_or c.args.bytes.now c.loop-i.i 0 in
    omega (arith, c.shifted.ensures, fits c.loop-i.i c.loop-i.value digit c.loop-i.invariant.few c.loop-i.invariant.small c.if-digit-lt128.true c.if-is_misplaced.ensures.no.0)

pub returns-then-digit-lt128-clause-exact : goal.returns-then-digit-lt128-clause-exact
returns-then-digit-lt128-clause-exact c =
    let input : Input = record { size = c.args.place + length c.args.bytes.now; left = c.args.bytes.now } in
    let sofar = c.loop-i.invariant in
    rw c.shifted.ensures (right input c.loop-i.i c.loop-i.value c.loop-i-test.true sofar.high sofar.few c.if-digit-lt128.true c.if-is_misplaced.ensures.no.0 c.if-is_misplaced.ensures.no.1 sofar.stands)

pub overflow_add-value : goal.overflow_add-value
overflow_add-value c =
    let digit = get_or c.args.bytes.now c.loop-i.i 0 in
    omega (arith, c.shifted-value.ensures, fits c.loop-i.i c.loop-i.value (digit - 128) c.loop-i.invariant.few c.loop-i.invariant.small (omega (arith, c.type_inv.bytes c.loop-i.i)) (λ nine. omega (arith, c.if-is_misplaced.ensures.no.0 nine)))

pub loop-i-preserved : goal.loop-i-preserved
loop-i-preserved c =
    Sofar-more c.args.bytes.now c.loop-i.i c.loop-i.value c.shifted-value.result c.loop-i.invariant c.loop-i-test.true (omega (arith, c.type_inv.bytes c.loop-i.i)) c.if-digit-lt128.false c.if-is_misplaced.ensures.no.0 c.shifted-value.ensures

pub returns-clause-exact : goal.returns-clause-exact
returns-clause-exact c =
    let input : Input = record { size = c.args.place + length c.args.bytes.now; left = c.args.bytes.now } in
    ends input c.loop-i.i c.loop-i.invariant.high c.loop-i.invariant.few c.loop-i-test.false
