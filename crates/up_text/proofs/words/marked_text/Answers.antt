-- A word with a space or LF is none, and any other is decoded.
use Rattle.std.proofs.Common.{◌∙◌, sym, ap, option_map}
use Rattle.up_text.proofs.WordLemmas.{decoded-ended, decoded-marked, some-percent}
use Rattle.std.proofs.lemmas.Bool.{true≢false}
use Rattle.up_text.proofs.words.marked_text.Goals as goal

pub returns-then-has_end-clause-text : goal.returns-then-has_end-clause-text
returns-then-has_end-clause-text c =
    sym (decoded-ended c.args.word.now (sym c.has_end.ensures ∙ c.if-has_end.true))

pub returns-in_err-text-clause-no_memory : goal.returns-in_err-text-clause-no_memory
returns-in_err-text-clause-no_memory c = λ plain.
    absurd (true≢false (sym (some-percent c.args.word.now c.requires (sym c.has_end.ensures ∙ c.if-has_end.false)) ∙ plain))

pub returns-in-Some-clause-text : goal.returns-in-Some-clause-text
returns-in-Some-clause-text c =
    let whole = sym c.has_end.ensures ∙ c.if-has_end.false in
    sym (ap (option_map (λ text. text.items)) c.in-Some.is) ∙ c.in_ok-text.ensures ∙ sym (decoded-marked c.args.word.now c.requires whole)

pub returns-in-None-clause-text : goal.returns-in-None-clause-text
returns-in-None-clause-text c =
    let whole = sym c.has_end.ensures ∙ c.if-has_end.false in
    sym (ap (option_map (λ text. text.items)) c.in-None.is) ∙ c.in_ok-text.ensures ∙ sym (decoded-marked c.args.word.now c.requires whole)
