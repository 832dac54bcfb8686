use Rattle.std.proofs.Common.{◌≡◌, ◌∙◌, ◌∷◌, None, Some, ap, refl, rules}
use Rattle.up_pattern.specs.Elements.{range_of, ranges_of}
use Rattle.up_pattern.proofs.Ranges.{ranges_of-first}
use Rattle.up_pattern.proofs.classes.first_range.Goals as goal

pub returns-in_err-range_of-clause-value : goal.returns-in_err-range_of-clause-value
returns-in_err-range_of-clause-value c =
    let first = ranges_of-first c.in_ok-low.low.now c.in_ok-low.others.now c.upper_end.result _ c.unwrap_or.result c.upper_end.ensures.value refl refl c.unwrap_or.ensures in
    let tokens : ranges_of c.args.tokens.now ≡ ranges_of (c.in_ok-low.low.now ∷ c.in_ok-low.others.now) = ap ranges_of c.in_ok-low.ensures.cases.0 in
    let none : range_of c.in_ok-low.low.now c.unwrap_or.result.0.now ≡ None = search rules in
    let whole : ranges_of c.args.tokens.now ≡ None = tokens ∙ first ∙ rw none refl in
    search rules

pub returns-clause-value : goal.returns-clause-value
returns-clause-value c =
    let first = ranges_of-first c.in_ok-low.low.now c.in_ok-low.others.now c.upper_end.result _ c.unwrap_or.result c.upper_end.ensures.value refl refl c.unwrap_or.ensures in
    let tokens : ranges_of c.args.tokens.now ≡ ranges_of (c.in_ok-low.low.now ∷ c.in_ok-low.others.now) = ap ranges_of c.in_ok-low.ensures.cases.0 in
    let found : range_of c.in_ok-low.low.now c.unwrap_or.result.0.now ≡ Some c.in_ok-range_of.field-0 = search rules in
    tokens ∙ first ∙ rw found refl
