use Rattle.std.proofs.Common.{subst}
use Rattle.std.specs.Prelude.{OnOk}
use Rattle.std.specs.Map.{keys_of}
use Rattle.up_names.specs.PathNames.{PathName}
use Rattle.up_foreign.specs.Reaching.{HasReadOnes}
use Rattle.up_foreign.proofs.LeftLemmas.{met_ok}
use Rattle.up_foreign.proofs.left.add_all.Goals as goal

pub returns-clause-own : goal.returns-clause-own
returns-clause-own c =
    met_ok c.args.tree.now c.args.loaded.now c.args.range.path.now c.args.range.above c.add_loaded.result c.add_others.new.groups.entries c.add_loaded.new.groups.entries (keys_of c.args.others.now.entries) c.add_loaded.ensures.kept
    c.in_ok-add_others.ensures.added

pub returns-clause-read : goal.returns-clause-read
returns-clause-read c =
    subst (λ owner. OnOk c.add_loaded.result ((name : PathName) → HasReadOnes owner c.args.loaded.now name c.add_loaded.new.groups.entries)) c.owner.ensures c.add_loaded.ensures.added
