-- Nothing is left, which is a text.
use Rattle.std.proofs.Common.{◌∙◌, sym}
use Rattle.std.proofs.lemmas.Bool.{eqb-true}
use Rattle.up_text.proofs.FitLemmas.{fits-nothing}
use Rattle.up_text.proofs.words.has_pairs.Goals as goal

pub returns : goal.returns
returns c =
    let none = eqb-true _ 0 (sym c.is_empty.ensures ∙ c.loop-rest-test.false) in
    sym (fits-nothing c.loop-rest.rest.now none) ∙ c.loop-rest.invariant
