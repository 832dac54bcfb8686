use Rattle.std.proofs.Common.{refl}
use Rattle.up_foreign.proofs.LeftLemmas.{soon_anew}
use Rattle.up_foreign.proofs.left.Left.pass.Goals as goal

pub returns-then-now-le-FEW-clause-kept : goal.returns-then-now-le-FEW-clause-kept
returns-then-now-le-FEW-clause-kept c = λ tree loaded path above may.
    let now = c.take_found.ensures.kept tree loaded path above may in
    soon_anew tree loaded path above c.take_found.new.self (record c.take_found.new.self { soon = c.soonest-self.result }) c.args.names.now refl refl (c.soonest-self.ensures now.soon) now
