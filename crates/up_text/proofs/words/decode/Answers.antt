-- Nothing is left, so the text so far is all.
use Rattle.std.proofs.Common.{◌∙◌, sym}
use Rattle.std.proofs.lemmas.Bool.{eqb-true}
use Rattle.up_text.proofs.DecodeLemmas.{all_taken}
use Rattle.up_text.proofs.words.decode.Goals as goal

pub returns : goal.returns
returns c =
    let none = eqb-true _ 0 (sym c.is_empty.ensures ∙ c.loop-rest-test.false) in
    sym (all_taken c.loop-rest.text.items c.loop-rest.rest.now none) ∙ c.loop-rest.invariant
