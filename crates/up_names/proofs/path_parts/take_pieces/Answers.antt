use Rattle.std.proofs.Common.{◌≡◌, ◌+◌, ◌∷◌, Err, length, drop, rules, refl, sym, ap, subst, ◌∙◌, arith}
use Rattle.std.specs.List.{slice_split}
use Rattle.std.proofs.lemmas.Iterator.Consumers.{YieldsList-turn, YieldsList-end}
use Rattle.std.proofs.lemmas.Iterator.Splits.{YieldsList-from_slice_split}
use Rattle.std.proofs.lemmas.List.{drop_more, drop_all, length_push}
use Rattle.std.proofs.lemmas.Result.{err_from_is_err_and}
use Rattle.up_names.specs.PathNames.{is_element, is_slash}
use Rattle.up_names.specs.PathParts.{after_piece}
use Rattle.up_names.specs.declared.fault.NameFault.TheVariants.{Element}
use Rattle.up_names.proofs.PathPieces.{Going, going_begins, going_fits, going_within, going_on, going_bad, going_ends, taken, refused}
use Rattle.up_names.proofs.path_parts.take_pieces.Goals as goal
use Rattle.up_names.proofs.path_parts.take_pieces.Goals.{In-Some}

pub loop-piece-init : goal.loop-piece-init
loop-piece-init c =
    let all = slice_split is_slash c.args.pieces.now in
    let path = c.args.path.now in
    let root = ap (λ elements. record { owner = path.owner; elements = elements }) (sym c.requires.root) in
    subst (λ p. Going path.owner c.args.place all p c.args.place all) root (going_begins path.owner c.args.place c.args.pieces.now c.requires.behind c.requires.short)

-- the piece of this turn is the next of the list
ahead : (c : In-Some) → let all = slice_split is_slash c.args.pieces.now in
    drop (length c.loop-piece.yielded) all ≡ c.in-Some.piece.now ∷ drop (length c.loop-piece.yielded + 1) all
ahead c =
    let all = slice_split is_slash c.args.pieces.now in
    let n = length c.loop-piece.yielded in
    let split = c.into_iter-piece-iterator.ensures.into_iter_gives in
    let turn = YieldsList-turn (YieldsList-from_slice_split _ is_slash c.args.pieces.now
    (ap (λ s. s.rest.now) split ∙ c.split-piece-items.ensures.rest) (ap (λ s. s.done) split ∙ c.split-piece-items.ensures.done) (ap (λ s. s.pred) split ∙ c.split-piece-items.ensures.closure) (λ x b q h. search rules))
    c.loop-piece.yielded _ c.loop-piece.yielded_by _ _ c.in-Some.piece c.in-Some.is c.next.ensures.steps in
    drop_more all n c.in-Some.piece.now turn.0 ∙ ap (λ piece. piece ∷ drop (n + 1) all) (sym turn.1)

going : (c : In-Some) → let all = slice_split is_slash c.args.pieces.now in
    Going c.args.path.now.owner c.args.place all c.loop-piece.path c.loop-piece.place (c.in-Some.piece.now ∷ drop (length c.loop-piece.yielded + 1) all)
going c =
    let all = slice_split is_slash c.args.pieces.now in
    subst (Going c.args.path.now.owner c.args.place all c.loop-piece.path c.loop-piece.place) (ahead c) c.loop-piece.invariant

pub take_piece-requires : goal.take_piece-requires
take_piece-requires c = going_fits (going (goal.at.take_piece-requires c).In-Some)

pub returns-in_err-take_piece-clause-taken : goal.returns-in_err-take_piece-clause-taken
returns-in_err-take_piece-clause-taken c =
    let p = err_from_is_err_and c.from_residual.result c.from_residual.ensures.1 in
    let piece = c.in-Some.piece.now in
    let fault = c.in_err-take_piece.field-0.0 in
    rw (p.1, p.2) (λ known.
    let no_element = refused (is_element piece) (after_piece c.loop-piece.path piece) (Element c.loop-piece.place) fault (c.in_err-take_piece.ensures.taken known) in
    going_bad (going (goal.at.returns-in_err-take_piece-clause-taken c).In-Some) no_element.0 ∙ ap Err no_element.1)

pub overflow_add-place-in-loop-piece : goal.overflow_add-place-in-loop-piece
overflow_add-place-in-loop-piece c = omega (arith, going_within (going (goal.at.overflow_add-place-in-loop-piece c).In-Some))

pub loop-piece-preserved : goal.loop-piece-preserved
loop-piece-preserved c =
    let all = slice_split is_slash c.args.pieces.now in
    let piece = c.in-Some.piece.now in
    let took = taken (is_element piece) (after_piece c.loop-piece.path piece) c.take_piece.new.path (Element c.loop-piece.place) c.in_ok-take_piece.ensures.taken in
    let next = c.loop-piece.place + (length piece + 1) in
    subst (λ n. Going c.args.path.now.owner c.args.place all c.take_piece.new.path next (drop n all)) (sym (length_push c.loop-piece.yielded c.in-Some.piece))
    (going_on (going (goal.at.loop-piece-preserved c).In-Some) took.0 c.take_piece.new.path took.1 next refl)

pub returns-clause-taken : goal.returns-clause-taken
returns-clause-taken c =
    let all = slice_split is_slash c.args.pieces.now in
    let split = c.into_iter-piece-iterator.ensures.into_iter_gives in
    let end = YieldsList-end (YieldsList-from_slice_split _ is_slash c.args.pieces.now
    (ap (λ s. s.rest.now) split ∙ c.split-piece-items.ensures.rest) (ap (λ s. s.done) split ∙ c.split-piece-items.ensures.done) (ap (λ s. s.pred) split ∙ c.split-piece-items.ensures.closure) (λ x b q h. search rules))
    c.loop-piece.yielded _ c.loop-piece.yielded_by _ _ c.in-None.is c.next.ensures.steps in
    going_ends (subst (Going c.args.path.now.owner c.args.place all c.loop-piece.path c.loop-piece.place) (drop_all (length c.loop-piece.yielded) all (omega (arith, end.1))) c.loop-piece.invariant)
