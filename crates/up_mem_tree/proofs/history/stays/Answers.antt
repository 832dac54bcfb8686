use Rattle.std.proofs.Common.{sym, ◌∙◌, arith}
use Rattle.std.proofs.lemmas.Bool.{leb-true}
use Rattle.up_mem_tree.proofs.history.stays.Goals as goal

-- the last change is one of the first records
pub returns-in-Some : goal.returns-in-Some
returns-in-Some g c = λ yes.
    sym (c.in-Some.ensures.told c.args.m c.requires.order (leb-true _ c.args.m yes)) ∙ c.in-Some.ensures.told c.args.n (omega arith) c.in-Some.ensures.early

-- there is none
pub returns-in-None : goal.returns-in-None
returns-in-None g c = λ yes. c.in-None.ensures.told c.args.m c.requires.order ∙ sym (c.in-None.ensures.told c.args.n (omega arith))
