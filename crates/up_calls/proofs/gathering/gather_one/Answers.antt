use Rattle.std.proofs.Common.{◌≡◌, None, refl, subst}
use Rattle.std.specs.Result.{result_ok}
use Rattle.up_calls.proofs.GatherLemmas.{loaded_since, none_later}
use Rattle.up_calls.specs.Gathered.{NameLoaded, OwnText}
use Rattle.up_calls.proofs.gathering.gather_one.Goals as goal

pub returns-in-Some-clause-loaded : goal.returns-in-Some-clause-loaded
returns-in-Some-clause-loaded g c =
    NameLoaded.ByTree c.in-Some.answer refl
    (subst (OwnText (g.B.Logs.operator_of c.args.logs.now) (g.B.Logs.views c.args.logs.now) (g.B.Logs.views c.text.new.self) c.args.name.now) c.in-Some.is c.in_ok-answer.ensures.given) refl

pub gather_elsewhere-requires-clause-ready : goal.gather_elsewhere-requires-clause-ready
gather_elsewhere-requires-clause-ready g c = g.met.B.Logs.still None c.args.logs.now c.text.new.self c.text.ensures.tie c.requires.ready

pub gather_elsewhere-requires-clause-elsewhere : goal.gather_elsewhere-requires-clause-elsewhere
gather_elsewhere-requires-clause-elsewhere g c =
    none_later ((g.B.Logs.views c.args.logs.now).tree c.args.name.now.owner) ((g.B.Logs.views c.text.new.self).tree c.args.name.now.owner)
    ((g.met.B.Logs.later None c.args.logs.now c.text.new.self c.text.ensures.tie).trees c.args.name.now.owner)
    (subst (OwnText (g.B.Logs.operator_of c.args.logs.now) (g.B.Logs.views c.args.logs.now) (g.B.Logs.views c.text.new.self) c.args.name.now) c.in-None.is c.in_ok-answer.ensures.given)

pub returns-in-None-clause-loaded : goal.returns-in-None-clause-loaded
returns-in-None-clause-loaded g c =
    let first = c.args.logs.now in
    let mid = c.text.new.self in
    let none : (g.B.Logs.views first).tree c.args.name.now.owner ≡ None =
    subst (OwnText (g.B.Logs.operator_of first) (g.B.Logs.views first) (g.B.Logs.views mid) c.args.name.now) c.in-None.is c.in_ok-answer.ensures.given in
    loaded_since g.L.Loader (g.B.Logs.operator_of first) (g.B.Logs.views first) (g.B.Logs.views mid) (g.met.B.Logs.later None first mid c.text.ensures.tie) c.args.loader.now c.gather_elsewhere.new.loader c.args.name.now
    (result_ok c.gather_elsewhere.result) none
    (subst (λ o. NameLoaded g.L.Loader o (g.B.Logs.views mid) (g.B.Logs.views mid) c.args.loader.now c.gather_elsewhere.new.loader c.args.name.now (result_ok c.gather_elsewhere.result)) (g.met.B.Logs.asks_as None first mid c.text.ensures.tie)
    c.gather_elsewhere.ensures)
