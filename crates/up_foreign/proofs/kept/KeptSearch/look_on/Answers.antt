use Rattle.std.proofs.Common.{ap, take, ◌∙◌}
use Rattle.up_lists.proofs.BeginsLemmas.{take-Begins}
use Rattle.up_names.specs.PathNames.{PathName}
use Rattle.std.specs.Prelude.{List}
use Rattle.up_foreign.proofs.kept.KeptSearch.look_on.Goals as goal

pub returns-clause-same : goal.returns-clause-same
returns-clause-same g c =
    ap (λ (met : List PathName). record c.args.self.now { met = met })
    (c.truncate.ensures ∙ (ap (λ n. take n c.look_through.new.met) c.len-len.ensures ∙ take-Begins c.in_ok-look_through.ensures.front))

pub returns-clause-added : goal.returns-clause-added
returns-clause-added g c = λ path h. c.in_ok-look_through.ensures.added path h
