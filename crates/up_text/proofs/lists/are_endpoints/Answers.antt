use Rattle.std.proofs.Common.{◌≡◌, ◌∙◌, ◌+◌, ◌∷◌, is_some, length, drop, rules, sym, ap, subst, arith}
use Rattle.std.specs.List.{slice_split}
use Rattle.std.proofs.lemmas.Iterator.Consumers.{YieldsList-turn, YieldsList-end}
use Rattle.std.proofs.lemmas.Iterator.Splits.{YieldsList-from_slice_split}
use Rattle.std.proofs.lemmas.List.{drop_all, drop_more, length_push}
use Rattle.up_text.specs.Lists.{all_endpoints, is_comma}
use Rattle.up_text.proofs.ListLemmas.{EachGoing, each_bad, each_end, each_step}
use Rattle.up_text.proofs.lists.are_endpoints.Goals as goal
use Rattle.up_text.proofs.lists.are_endpoints.Goals.{In-Some}

-- the piece of this turn is the next of the list
ahead : (c : In-Some) → let all = slice_split is_comma c.args.list.now in
    drop (length c.loop-piece.yielded) all ≡ c.in-Some.piece.now ∷ drop (length c.loop-piece.yielded + 1) all
ahead c =
    let all = slice_split is_comma c.args.list.now in
    let n = length c.loop-piece.yielded in
    let split = c.into_iter-piece-iterator.ensures.into_iter_gives in
    let turn = YieldsList-turn (
    YieldsList-from_slice_split _ is_comma c.args.list.now
    (ap (λ s. s.rest.now) split ∙ c.split-piece-items.ensures.rest) (ap (λ s. s.done) split ∙ c.split-piece-items.ensures.done)
    (ap (λ s. s.pred) split ∙ c.split-piece-items.ensures.closure) (λ x b q h. search rules)
    ) c.loop-piece.yielded _ c.loop-piece.yielded_by _ _ c.in-Some.piece c.in-Some.is c.next.ensures.steps in
    drop_more all n c.in-Some.piece.now turn.0 ∙ ap (λ piece. piece ∷ drop (n + 1) all) (sym turn.1)

going : (c : In-Some) → let all = slice_split is_comma c.args.list.now in
    EachGoing (is_some (all_endpoints all)) (c.in-Some.piece.now ∷ drop (length c.loop-piece.yielded + 1) all)
going c =
    let all = slice_split is_comma c.args.list.now in
    subst (EachGoing (is_some (all_endpoints all))) (ahead c) c.loop-piece.invariant

pub returns-then-not-is_endpoint : goal.returns-then-not-is_endpoint
returns-then-not-is_endpoint c =
    sym (each_bad (going (goal.at.returns-then-not-is_endpoint c).In-Some) (sym c.is_endpoint.ensures ∙ c.if-not-is_endpoint.true))

pub loop-piece-preserved : goal.loop-piece-preserved
loop-piece-preserved c =
    let all = slice_split is_comma c.args.list.now in
    subst (λ n. EachGoing (is_some (all_endpoints all)) (drop n all)) (sym (length_push c.loop-piece.yielded c.in-Some.piece))
    (each_step (going (goal.at.loop-piece-preserved c).In-Some) (sym c.is_endpoint.ensures ∙ c.if-not-is_endpoint.false))

pub returns : goal.returns
returns c =
    let all = slice_split is_comma c.args.list.now in
    let split = c.into_iter-piece-iterator.ensures.into_iter_gives in
    let end = YieldsList-end (
    YieldsList-from_slice_split _ is_comma c.args.list.now
    (ap (λ s. s.rest.now) split ∙ c.split-piece-items.ensures.rest) (ap (λ s. s.done) split ∙ c.split-piece-items.ensures.done)
    (ap (λ s. s.pred) split ∙ c.split-piece-items.ensures.closure) (λ x b q h. search rules)
    ) c.loop-piece.yielded _ c.loop-piece.yielded_by _ _ c.in-None.is c.next.ensures.steps in
    sym (each_end (subst (EachGoing (is_some (all_endpoints all))) (drop_all (length c.loop-piece.yielded) all (omega (arith, end.1))) c.loop-piece.invariant))
