use Rattle.std.proofs.Common.{◌≡◌, ap, refl, subst, sym, ◌∙◌}
use Rattle.std.specs.Prelude.{is_some}
use Rattle.std.specs.Result.{result_ok}
use Rattle.up_answers.specs.Answers.{log_owner}
use Rattle.up_calls.proofs.GatherLemmas.{load_asked, not_some}
use Rattle.up_calls.specs.Gathered.{NameLoaded}
use Rattle.up_peer.specs.Loading.{GroupQuestion}
use Rattle.up_calls.proofs.gathering.gather_elsewhere.Goals as goal

pub returns-in_default : goal.returns-in_default
returns-in_default g c = NameLoaded.Wanting refl refl

pub returns-then-has : goal.returns-then-has
returns-then-has g c =
    let owner : c.in-Ok.owner ≡ log_owner c.args.name.now.owner = c.in-Ok.ensures ∙ ap log_owner c.owner.ensures in
    NameLoaded.ByUser refl c.requires.elsewhere (sym (ap (λ o. is_some ((g.B.Logs.views c.args.logs.now).tree o)) owner) ∙ sym c.has.ensures ∙ c.if-has.true) refl

pub returns : goal.returns
returns g c =
    let owner : c.in-Ok.owner ≡ log_owner c.args.name.now.owner = c.in-Ok.ensures ∙ ap log_owner c.owner.ensures in
    let question : GroupQuestion = record { asker = g.B.Logs.operator_of c.args.logs.now; name = c.args.name.now } in
    NameLoaded.ByLoader c.requires.elsewhere
    (not_some ((g.B.Logs.views c.args.logs.now).tree (log_owner c.args.name.now.owner)) (sym (ap (λ o. is_some ((g.B.Logs.views c.args.logs.now).tree o)) owner) ∙ sym c.has.ensures ∙ c.if-has.false))
    (load_asked g.L.Loader c.args.loader.now c.load.new.self question c.load.result
    (subst (λ asker. g.L.Loader.loads c.args.loader.now (record { asker = asker; name = c.args.name.now }) (result_ok c.load.result) c.load.new.self) c.operator.ensures c.load.ensures.given)
    c.load.ensures.counts c.load.ensures.quiet c.load.ensures.tie)
