use Rattle.std.proofs.Common.{◌≡◌, ◌∙◌, true, false, rules}
use Rattle.std.specs.Option.{option_map}
use Rattle.std.specs.String.{string_bytes}
use Rattle.std.proofs.lemmas.Result.{err_from_is_err_and}
use Rattle.up_pattern.specs.Elements.{literal_of}
use Rattle.up_pattern.specs.Patterns.{hides_step}
use Rattle.up_pattern.proofs.ElementTexts.{element_of-good, element_of-hidden, element_of-malformed, hides_step-literal}
use Rattle.up_pattern.proofs.elements.Element.parse.Goals as goal

pub returns-in_err-terms : goal.returns-in_err-terms
returns-in_err-terms c =
    let p = err_from_is_err_and c.from_residual.result c.from_residual.ensures.1 in
    rw (p.1, p.2) (λ other. element_of-malformed c.args.text.now c.requires (c.in_err-terms.ensures other))

pub returns-then-hides_step : goal.returns-then-hides_step
returns-then-hides_step c =
    let literal : option_map string_bytes c.in_ok-literal.literal ≡ literal_of c.in_ok-terms.terms = search rules in
    let hidden : hides_step c.args.text.now c.in_ok-terms.terms ≡ true =
    hides_step-literal c.args.text.now c.in_ok-terms.terms _ c.hides_step.result literal c.hides_step.ensures ∙ c.if-hides_step.true in
    λ _. element_of-hidden c.args.text.now c.in_ok-terms.terms c.requires c.in_ok-terms.ensures hidden

pub returns : goal.returns
returns c =
    let literal : option_map string_bytes c.in_ok-literal.literal ≡ literal_of c.in_ok-terms.terms = search rules in
    let plain : hides_step c.args.text.now c.in_ok-terms.terms ≡ false =
    hides_step-literal c.args.text.now c.in_ok-terms.terms _ c.hides_step.result literal c.hides_step.ensures ∙ c.if-hides_step.false in
    element_of-good c.args.text.now c.in_ok-terms.terms c.requires c.in_ok-terms.ensures plain
