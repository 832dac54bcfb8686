use Rattle.std.proofs.Common.{◌≡◌, ◌∙◌, true, false, sym, rules}
use Rattle.std.proofs.lemmas.List.{nil_from_length}
use Rattle.up_pattern.specs.Matching.{stands_for, is_many}
use Rattle.up_pattern.proofs.Stars.{matches-one_at, matches-one_empty_at, no_terms-utf8, stuck-other}
use Rattle.up_pattern.proofs.matching.matches_terms.Goals as goal

pub returns-in_default-first_char : goal.returns-in_default-first_char
returns-in_default-first_char c =
    let one : is_many c.in-Some.term.now ≡ false = search rules in
    sym (c.loop-term.invariant.1 ∙ matches-one_empty_at _ _ _ _ c.in-Some.ensures.cases.0 c.in_default-first_char.ensures one)

pub returns-then-not-stands_for : goal.returns-then-not-stands_for
returns-then-not-stands_for c =
    let one : is_many c.in-Some.term.now ≡ false = search rules in
    let other : stands_for c.in-Some.term.now c.in-Some-first_char.c ≡ false = search rules in
    sym (c.loop-term.invariant.1 ∙ stuck-other _ _ _ _ _ _ c.in-Some.ensures.cases.0 c.in-Some-first_char.ensures one other)

pub loop-term-preserved : goal.loop-term-preserved
loop-term-preserved c =
    let one : is_many c.in-Some.term.now ≡ false = search rules in
    let taken : stands_for c.in-Some.term.now c.in-Some-first_char.c ≡ true = search rules in
    (search rules, c.loop-term.invariant.1 ∙ matches-one_at _ _ _ _ _ _ c.in-Some.ensures.cases.0 c.in-Some-first_char.ensures one taken)

pub returns : goal.returns
returns c =
    let none = nil_from_length c.loop-term.left.now c.in_default.ensures.cases in
    let end = no_terms-utf8 c.loop-term.rest.now c.loop-term.invariant.0 in
    c.is_empty.ensures ∙ end ∙ sym (rw none at c.loop-term.invariant.1)
