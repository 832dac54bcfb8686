-- Behind a `-` the digits of a number other than 0, and without one the digits of any.
use Rattle.std.proofs.Common.{◌∙◌, arith}
use Rattle.up_text.proofs.IntLemmas.{int-only_found, int-every_found, int-no_digits, int-minus_zero, int-minus, int-no_number, int-plus, minus-after, minus-none}
use Rattle.up_text.proofs.numbers.read_int.Goals as goal

pub returns-in_err-size-in-Some : goal.returns-in_err-size-in-Some
returns-in_err-size-in-Some c =
    let word = c.args.word.now in
    let digits = c.in-Some.digits.now in
    let minus = minus-after word digits c.in-Some.ensures.cases.0 c.in-Some.ensures.cases.1 in
    let is = c.from_residual.ensures ∙ int-no_digits word digits minus c.in_err-size-in-Some.ensures.value in
    record { value = is; only = int-only_found word _ is; every = int-every_found word _ is }

pub returns-in_err-read_num-in-None : goal.returns-in_err-read_num-in-None
returns-in_err-read_num-in-None c =
    let word = c.args.word.now in
    let other = minus-none word c.in-None.ensures.cases in
    let is = c.from_residual-in_err-read_num-in-None.ensures ∙ int-no_number word other c.in_err-read_num-in-None.ensures.value in
    record { value = is; only = int-only_found word _ is; every = int-every_found word _ is }

pub returns-in-0 : goal.returns-in-0
returns-in-0 c =
    let word = c.args.word.now in
    let digits = c.in-Some.digits.now in
    let minus = minus-after word digits c.in-Some.ensures.cases.0 c.in-Some.ensures.cases.1 in
    let is = int-minus_zero word digits c.in_ok-size-in-Some.size minus c.in_ok-size-in-Some.ensures.value c.in-0.is in
    record { value = is; only = tt; every = int-every_found word _ is }

pub returns-in_default : goal.returns-in_default
returns-in_default c =
    let word = c.args.word.now in
    let digits = c.in-Some.digits.now in
    let minus = minus-after word digits c.in-Some.ensures.cases.0 c.in-Some.ensures.cases.1 in
    let is = int-minus word digits c.in_ok-size-in-Some.size c.checked_sub_unsigned.result minus c.in_ok-size-in-Some.ensures.value (omega arith) c.checked_sub_unsigned.ensures in
    record { value = is; only = int-only_found word _ is; every = int-every_found word _ is }

pub returns-in_ok-read_num-in-None : goal.returns-in_ok-read_num-in-None
returns-in_ok-read_num-in-None c =
    let word = c.args.word.now in
    let other = minus-none word c.in-None.ensures.cases in
    let is = int-plus word _ c.checked_add_unsigned.result other c.in_ok-read_num-in-None.ensures.value c.checked_add_unsigned.ensures in
    record { value = is; only = int-only_found word _ is; every = int-every_found word _ is }
