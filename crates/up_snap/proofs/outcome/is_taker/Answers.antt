use Rattle.std.proofs.Common.{◌∙◌, sym, ap}
use Rattle.std.specs.Option.{option_copied}
use Rattle.up_snap.proofs.TakerLemmas.{has_element, has_name}
use Rattle.up_snap.proofs.outcome.is_taker.Goals as goal

pub returns-in-Some : goal.returns-in-Some
returns-in-Some c = c.eq.ensures ∙ has_name c.args.path.now c.in-Some.name.now _ (sym c.len.ensures ∙ c.if-len-eq1.true) (ap option_copied (sym c.in-Some.is) ∙ c.element.ensures)

pub returns-in-None : goal.returns-in-None
returns-in-None c = has_element c.args.path.now _ (sym c.len.ensures ∙ c.if-len-eq1.true) (ap option_copied (sym c.in-None.is) ∙ c.element.ensures)
