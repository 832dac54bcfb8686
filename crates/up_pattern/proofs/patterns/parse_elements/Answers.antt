use Rattle.std.proofs.Common.{◌≡◌, ◌∙◌, ◌+◌, ◌∷◌, length, drop, rules, sym, ap, subst, arith}
use Rattle.std.specs.List.{slice_split}
use Rattle.std.proofs.lemmas.Iterator.Consumers.{YieldsList-turn, YieldsList-end}
use Rattle.std.proofs.lemmas.Iterator.Splits.{YieldsList-from_slice_split}
use Rattle.std.proofs.lemmas.List.{drop_all, drop_more, length_push}
use Rattle.up_names.specs.PathNames.{is_slash}
use Rattle.up_pattern.proofs.Stack.{Going, going_begins, going_ends, going_fault, going_taken, going_within}
use Rattle.up_pattern.proofs.patterns.parse_elements.Goals as goal
use Rattle.up_pattern.proofs.patterns.parse_elements.Goals.{In-Some}

pub loop-piece-init : goal.loop-piece-init
loop-piece-init c =
    let all = slice_split is_slash c.args.pieces.now in
    subst (λ elements. Going all elements 0 all) (sym c.new-elements.ensures.items) (going_begins c.args.pieces.now c.requires)

-- the piece of this turn is the next of the list
ahead : (c : In-Some) → let all = slice_split is_slash c.args.pieces.now in
    drop (length c.loop-piece.yielded) all ≡ c.in-Some.piece.now ∷ drop (length c.loop-piece.yielded + 1) all
ahead c =
    let all = slice_split is_slash c.args.pieces.now in
    let n = length c.loop-piece.yielded in
    let split = c.into_iter-piece-iterator.ensures.into_iter_gives in
    let turn = YieldsList-turn (
    YieldsList-from_slice_split _ is_slash c.args.pieces.now
    (ap (λ s. s.rest.now) split ∙ c.split-piece-items.ensures.rest) (ap (λ s. s.done) split ∙ c.split-piece-items.ensures.done)
    (ap (λ s. s.pred) split ∙ c.split-piece-items.ensures.closure) (λ x b q h. search rules)
    ) c.loop-piece.yielded _ c.loop-piece.yielded_by _ _ c.in-Some.piece c.in-Some.is c.next.ensures.steps in
    drop_more all n c.in-Some.piece.now turn.0 ∙ ap (λ piece. piece ∷ drop (n + 1) all) (sym turn.1)

going : (c : In-Some) → let all = slice_split is_slash c.args.pieces.now in
    Going all c.loop-piece.elements.items c.loop-piece.place (c.in-Some.piece.now ∷ drop (length c.loop-piece.yielded + 1) all)
going c =
    let all = slice_split is_slash c.args.pieces.now in
    subst (Going all c.loop-piece.elements.items c.loop-piece.place) (ahead c) c.loop-piece.invariant

pub returns-in-Err : goal.returns-in-Err
returns-in-Err c = λ known. going_fault (going (goal.at.returns-in-Err c).In-Some) c.in-Err.fault c.at.result c.at.ensures c.in-Err.ensures known

pub overflow_add-place : goal.overflow_add-place
overflow_add-place c = omega (arith, going_within (going (goal.at.overflow_add-place c).In-Some))

pub loop-piece-preserved : goal.loop-piece-preserved
loop-piece-preserved c =
    let all = slice_split is_slash c.args.pieces.now in
    subst (λ n. Going all c.take_piece.new.elements.items (c.loop-piece.place + 1) (drop n all)) (sym (length_push c.loop-piece.yielded c.in-Some.piece))
    (going_taken (going (goal.at.loop-piece-preserved c).In-Some) c.take_piece.new.elements.items c.in_default.ensures)

pub returns : goal.returns
returns c =
    let all = slice_split is_slash c.args.pieces.now in
    let split = c.into_iter-piece-iterator.ensures.into_iter_gives in
    let end = YieldsList-end (
    YieldsList-from_slice_split _ is_slash c.args.pieces.now
    (ap (λ s. s.rest.now) split ∙ c.split-piece-items.ensures.rest) (ap (λ s. s.done) split ∙ c.split-piece-items.ensures.done)
    (ap (λ s. s.pred) split ∙ c.split-piece-items.ensures.closure) (λ x b q h. search rules)
    ) c.loop-piece.yielded _ c.loop-piece.yielded_by _ _ c.in-None.is c.next.ensures.steps in
    going_ends (
    subst (Going all c.loop-piece.elements.items c.loop-piece.place) (drop_all (length c.loop-piece.yielded) all (omega (arith, end.1))) c.loop-piece.invariant
    )
