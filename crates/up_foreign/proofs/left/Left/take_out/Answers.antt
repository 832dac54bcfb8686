use Rattle.std.proofs.Common.{ap, refl, sym, ◌∙◌}
use Rattle.std.specs.Option.{option_copied}
use Rattle.up_policy.proofs.PathLists.{Contains-at}
use Rattle.up_foreign.proofs.LeftLemmas.{taken_out}
use Rattle.up_foreign.proofs.left.Left.take_out.Goals as goal

pub returns-in-Some-clause-kept : goal.returns-in-Some-clause-kept
returns-in-Some-clause-kept c = λ tree loaded path above.
    taken_out tree loaded path above c.args.self.now (record c.args.self.now { groups = c.remove-was.new.self }) c.args.names.now c.in-Some.name.now
    (Contains-at c.args.names.now c.args.i c.in-Some.name.now (sym c.get.ensures ∙ ap option_copied c.in-Some.is)) c.remove-was.ensures.entries refl refl
