-- The word of each turn is the next of the list, and none is left at the end.
use Rattle.std.proofs.Common.{◌≡◌, ◌∙◌, ◌+◌, ◌∷◌, Some, None, length, drop, rules, sym, ap, subst, arith}
use Rattle.std.specs.List.{slice_split}
use Rattle.std.specs.Prelude.{if◌then◌else◌}
use Rattle.std.proofs.lemmas.Iterator.Consumers.{YieldsList-turn, YieldsList-end}
use Rattle.std.proofs.lemmas.Iterator.Splits.{YieldsList-from_slice_split}
use Rattle.std.proofs.lemmas.List.{drop_all, drop_more, length_push}
use Rattle.up_text.specs.Lists.{is_comma}
use Rattle.up_script_lines.specs.ScriptLines.{users_named}
use Rattle.up_script_lines.proofs.UserListLemmas.{UsersGoing, users_bad, users_end, users_step}
use Rattle.up_script_lines.proofs.script_lines.users_named.Goals as goal
use Rattle.up_script_lines.proofs.script_lines.users_named.Goals.{In-Some}

-- the word of this turn is the next of the list
ahead : (c : In-Some) → let all = slice_split is_comma c.args.list.now in
    drop (length c.loop-word.yielded) all ≡ c.in-Some.word.now ∷ drop (length c.loop-word.yielded + 1) all
ahead c =
    let all = slice_split is_comma c.args.list.now in
    let n = length c.loop-word.yielded in
    let split = c.into_iter-word-iterator.ensures.into_iter_gives in
    let turn = YieldsList-turn (
    YieldsList-from_slice_split _ is_comma c.args.list.now
    (ap (λ s. s.rest.now) split ∙ c.split-word-items.ensures.rest) (ap (λ s. s.done) split ∙ c.split-word-items.ensures.done)
    (ap (λ s. s.pred) split ∙ c.split-word-items.ensures.closure) (λ x b q h. search rules)
    ) c.loop-word.yielded _ c.loop-word.yielded_by _ _ c.in-Some.word c.in-Some.is c.next.ensures.steps in
    drop_more all n c.in-Some.word.now turn.0 ∙ ap (λ word. word ∷ drop (n + 1) all) (sym turn.1)

going : (c : In-Some) → let all = slice_split is_comma c.args.list.now in
    UsersGoing (users_named all) c.loop-word.users (c.in-Some.word.now ∷ drop (length c.loop-word.yielded + 1) all)
going c =
    let all = slice_split is_comma c.args.list.now in
    subst (UsersGoing (users_named all) c.loop-word.users) (ahead c) c.loop-word.invariant

pub returns-then-not-branch : goal.returns-then-not-branch
returns-then-not-branch c =
    let took = c.in_ok-add_user.ensures ∙ ap (λ good. if good then Some c.add_user.new.users else None) c.if-not-branch.true in
    sym (users_bad (going (goal.at.returns-then-not-branch c).In-Some) took)

pub loop-word-preserved : goal.loop-word-preserved
loop-word-preserved c =
    let all = slice_split is_comma c.args.list.now in
    let took = c.in_ok-add_user.ensures ∙ ap (λ good. if good then Some c.add_user.new.users else None) c.if-not-branch.false in
    subst (λ n. UsersGoing (users_named all) c.add_user.new.users (drop n all)) (sym (length_push c.loop-word.yielded c.in-Some.word))
    (users_step (going (goal.at.loop-word-preserved c).In-Some) c.add_user.new.users took)

pub returns : goal.returns
returns c =
    let all = slice_split is_comma c.args.list.now in
    let split = c.into_iter-word-iterator.ensures.into_iter_gives in
    let end = YieldsList-end (
    YieldsList-from_slice_split _ is_comma c.args.list.now
    (ap (λ s. s.rest.now) split ∙ c.split-word-items.ensures.rest) (ap (λ s. s.done) split ∙ c.split-word-items.ensures.done)
    (ap (λ s. s.pred) split ∙ c.split-word-items.ensures.closure) (λ x b q h. search rules)
    ) c.loop-word.yielded _ c.loop-word.yielded_by _ _ c.in-None.is c.next.ensures.steps in
    sym (users_end (subst (UsersGoing (users_named all) c.loop-word.users) (drop_all (length c.loop-word.yielded) all (omega (arith, end.1))) c.loop-word.invariant))
