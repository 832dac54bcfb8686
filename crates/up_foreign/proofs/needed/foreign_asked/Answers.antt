use Rattle.std.proofs.Common.{subst, sym}
use Rattle.std.specs.Prelude.{OnOk}
use Rattle.up_foreign.specs.Kept.{Keeps}
use Rattle.up_foreign.proofs.needed.foreign_asked.Goals as goal

pub names_for-requires : goal.names_for-requires
names_for-requires g c =
    subst (λ owner. Keeps owner c.memory.result.now.log c.args.loaded.now c.args.kept.now) (sym c.memory.ensures.owner)
    (subst (λ log. Keeps c.args.state.now.owner log c.args.loaded.now c.args.kept.now) (sym c.memory.ensures.log) c.requires)

pub returns-clause-kept : goal.returns-clause-kept
returns-clause-kept g c =
    subst (λ owner. OnOk c.names_for.result (Keeps owner c.args.state.now.log c.args.loaded.now c.names_for.new.kept)) c.memory.ensures.owner
    (subst (λ log. OnOk c.names_for.result (Keeps c.memory.result.now.owner log c.args.loaded.now c.names_for.new.kept)) c.memory.ensures.log c.names_for.ensures.kept)
