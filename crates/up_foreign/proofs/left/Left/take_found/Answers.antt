use Rattle.std.proofs.Common.{refl, ◌∙◌}
use Rattle.up_foreign.proofs.LeftLemmas.{soon_anew}
use Rattle.up_foreign.proofs.left.Left.take_found.Goals as goal

pub loop-i-init : goal.loop-i-init
loop-i-init c = (refl, λ tree loaded path above may. may)

pub loop-i-preserved : goal.loop-i-preserved
loop-i-preserved c = (
  c.take_out.ensures.whole ∙ c.loop-i.invariant.0,
  λ tree loaded path above may. c.take_out.ensures.kept tree loaded path above (c.loop-i.invariant.1 tree loaded path above may),
)

pub returns-clause-whole : goal.returns-clause-whole
returns-clause-whole c = c.loop-i.invariant.0

pub returns-clause-kept : goal.returns-clause-kept
returns-clause-kept c = λ tree loaded path above may.
    let now = c.loop-i.invariant.1 tree loaded path above may in
    soon_anew tree loaded path above c.loop-i.self (record c.loop-i.self { seen = c.len-self.result }) c.args.names.now refl refl now.soon now
