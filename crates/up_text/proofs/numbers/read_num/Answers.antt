-- A word that does not begin as a number, one that is no text, and what `parse` gives of any other.
use Rattle.std.proofs.Common.{◌∙◌, sym, subst}
use Rattle.std.specs.Str.Parse.{ParsesUnsigned}
use Rattle.up_text.proofs.NumberLemmas.{num-only_found, num-every_found, num-not_begun, num-no_text, num-parsed}
use Rattle.up_text.proofs.numbers.read_num.Goals as goal

pub returns-then-not-begins_number : goal.returns-then-not-begins_number
returns-then-not-begins_number c =
    let word = c.args.word.now in
    let is = num-not_begun word (sym c.begins_number.ensures ∙ c.if-not-begins_number.true) in
    record { value = is; only = tt; every = num-every_found word _ is }

pub returns-in_default : goal.returns-in_default
returns-in_default c =
    let word = c.args.word.now in
    let is = num-no_text word c.in_default.ensures.cases.0 in
    record { value = is; only = tt; every = num-every_found word _ is }

pub returns : goal.returns
returns c =
    let word = c.args.word.now in
    let begins = sym c.begins_number.ensures ∙ c.if-not-begins_number.false in
    let parses = subst (λ text. ParsesUnsigned 64 10 text c.parse.result) c.in-Ok.ensures.cases.0 c.parse.ensures.value.0 in
    let is = c.ok.ensures.value ∙ num-parsed word c.parse.result begins parses in
    record { value = is; only = num-only_found word c.ok.result is; every = num-every_found word c.ok.result is }
