use Rattle.std.proofs.Common.{sym, ◌∙◌}
use Rattle.std.proofs.lemmas.Bool.{false≢true}
use Rattle.up_foreign.proofs.NotedLemmas.{still_needed}
use Rattle.up_foreign.proofs.noted.Noted.has.Goals as goal

pub returns-in-Some : goal.returns-in-Some
returns-in-Some c = λ loaded names are yes.
    still_needed c.args.tree.now loaded c.args.self.now c.args.dir.now c.in-Some.at c.args.n names (sym c.in-Some.is ∙ c.at.ensures) (c.texts_stay.ensures yes) are

pub returns-in-None : goal.returns-in-None
returns-in-None c = λ loaded names are yes. absurd (false≢true yes)
