use Rattle.std.proofs.Common.{sym, ◌∙◌}
use Rattle.std.proofs.lemmas.Bool.{false≢true}
use Rattle.up_watch.proofs.Told.{none_of}
use Rattle.up_watch.proofs.events.rights_on.Goals as goal

-- where there are none now, nothing is said of then
pub returns-then-is_empty-clause-earlier : goal.returns-then-is_empty-clause-earlier
returns-then-is_empty-clause-earlier c = λ any. absurd (false≢true (sym (none_of _ _ c.is_empty.ensures c.if-is_empty.true) ∙ any))
