use Rattle.std.proofs.Common.{◌≡◌, ◌∙◌, ◌+◌, ◌∷◌, length, drop, rules, sym, ap, subst, arith}
use Rattle.std.specs.List.{slice_split}
use Rattle.std.proofs.lemmas.Iterator.Consumers.{YieldsList-turn, YieldsList-end}
use Rattle.std.proofs.lemmas.Iterator.Splits.{YieldsList-from_slice_split}
use Rattle.std.proofs.lemmas.List.{drop_all, drop_more, length_push}
use Rattle.std.proofs.lemmas.Result.{err_from_is_err_and}
use Rattle.up_text.specs.Lists.{all_endpoints, is_comma}
use Rattle.up_text.proofs.ListLemmas.{EndpointsGoing, endpoints_bad, endpoints_end, endpoints_step}
use Rattle.up_text.proofs.lists.some_endpoints.Goals as goal
use Rattle.up_text.proofs.lists.some_endpoints.Goals.{In-Some}

-- the piece of this turn is the next of the list
ahead : (c : In-Some) → let all = slice_split is_comma c.args.list.now in
    drop (length c.loop-piece.yielded) all ≡ c.in-Some.piece.now ∷ drop (length c.loop-piece.yielded + 1) all
ahead c =
    let all = slice_split is_comma c.args.list.now in
    let n = length c.loop-piece.yielded in
    let split = c.into_iter-piece-iterator.ensures.into_iter_gives in
    let turn = YieldsList-turn (
    YieldsList-from_slice_split _ is_comma c.args.list.now
    (ap (λ s. s.rest.now) split ∙ c.split-piece-items.ensures.rest) (ap (λ s. s.done) split ∙ c.split-piece-items.ensures.done)
    (ap (λ s. s.pred) split ∙ c.split-piece-items.ensures.closure) (λ x b q h. search rules)
    ) c.loop-piece.yielded _ c.loop-piece.yielded_by _ _ c.in-Some.piece c.in-Some.is c.next.ensures.steps in
    drop_more all n c.in-Some.piece.now turn.0 ∙ ap (λ piece. piece ∷ drop (n + 1) all) (sym turn.1)

going : (c : In-Some) → let all = slice_split is_comma c.args.list.now in
    EndpointsGoing (all_endpoints all) c.loop-piece.endpoints (c.in-Some.piece.now ∷ drop (length c.loop-piece.yielded + 1) all)
going c =
    let all = slice_split is_comma c.args.list.now in
    subst (EndpointsGoing (all_endpoints all) c.loop-piece.endpoints) (ahead c) c.loop-piece.invariant

pub returns-in_err-take_endpoint : goal.returns-in_err-take_endpoint
returns-in_err-take_endpoint c =
    let p = err_from_is_err_and c.from_residual.result c.from_residual.ensures.1 in
    rw (p.1, p.2) (λ known. endpoints_bad (going (goal.at.returns-in_err-take_endpoint c).In-Some) (c.in_err-take_endpoint.ensures known))

pub loop-piece-preserved : goal.loop-piece-preserved
loop-piece-preserved c =
    let all = slice_split is_comma c.args.list.now in
    subst (λ n. EndpointsGoing (all_endpoints all) c.take_endpoint.new.endpoints (drop n all)) (sym (length_push c.loop-piece.yielded c.in-Some.piece))
    (endpoints_step (going (goal.at.loop-piece-preserved c).In-Some) c.take_endpoint.new.endpoints c.in_ok-take_endpoint.ensures)

pub returns : goal.returns
returns c =
    let all = slice_split is_comma c.args.list.now in
    let split = c.into_iter-piece-iterator.ensures.into_iter_gives in
    let end = YieldsList-end (
    YieldsList-from_slice_split _ is_comma c.args.list.now
    (ap (λ s. s.rest.now) split ∙ c.split-piece-items.ensures.rest) (ap (λ s. s.done) split ∙ c.split-piece-items.ensures.done)
    (ap (λ s. s.pred) split ∙ c.split-piece-items.ensures.closure) (λ x b q h. search rules)
    ) c.loop-piece.yielded _ c.loop-piece.yielded_by _ _ c.in-None.is c.next.ensures.steps in
    endpoints_end (subst (EndpointsGoing (all_endpoints all) c.loop-piece.endpoints) (drop_all (length c.loop-piece.yielded) all (omega (arith, end.1))) c.loop-piece.invariant)
