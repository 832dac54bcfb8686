use Rattle.std.proofs.Common.{sym, ◌∙◌, arith}
use Rattle.up_mem_tree.proofs.history.text_at.Goals as goal

pub returns-in-Some : goal.returns-in-Some
returns-in-Some g c = c.as_ref.ensures.value ∙ c.in-Some.ensures.told c.args.n (omega arith) c.in-Some.ensures.early

pub returns-in-None : goal.returns-in-None
returns-in-None g c = sym (c.in-None.ensures.told c.args.n (omega arith))
