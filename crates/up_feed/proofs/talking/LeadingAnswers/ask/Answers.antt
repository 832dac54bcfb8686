use Rattle.std.proofs.Common.{◌≡◌, None, Some, ap, position, refl, subst, sym, ◌∙◌}
use Rattle.std.specs.Result.{result_ok}
use Rattle.up_feed.proofs.LeadingLemmas.{given, no_memory, no_tree}
use Rattle.up_feed.proofs.talking.LeadingAnswers.ask.Goals as goal
use Rattle.up_feed.specs.Feeding.{PullsTree}
use Rattle.up_shared.specs.Callers.{own_same, seats_same, sits_later}
use Rattle.up_shared.specs.Sharing.{is_cell_of, views_of}
use Rattle.up_together.proofs.SittingLemmas.{marks_by_sits, sits_by_marks}

pub returns-in_default-clause-asked : goal.returns-in_default-clause-asked
returns-in_default-clause-asked g c =
    let cells = c.args.self.now.shared.now.trees.items in
    let at : position (is_cell_of c.args.session.now.user) cells ≡ None = ap (λ o. position (is_cell_of o) cells) (sym c.user.ensures) ∙ sym c.place_of.ensures ∙ c.in_default.is in
    no_tree c.args.self.now.shared.now c.args.self.now.seats.now c.args.session.now.user c.args.question.now c.args._now
    (sits_by_marks c.args.self.now.shared.now c.args.self.now.seats.now c.args.self.now.sits) at

pub returns-in_default-clause-tie : goal.returns-in_default-clause-tie
returns-in_default-clause-tie g c = (refl, refl, seats_same c.args.self.now.seats.now, own_same None (views_of c.args.self.now.seats.now))

pub pull_at-requires-clause-sits : goal.pull_at-requires-clause-sits
pull_at-requires-clause-sits g c = sits_by_marks c.args.self.now.shared.now c.args.self.now.seats.now c.args.self.now.sits

pub invariant_of-self : goal.invariant_of-self
invariant_of-self g c =
    let cells = c.args.self.now.shared.now.trees.items in
    let at : position (is_cell_of c.args.session.now.user) cells ≡ Some c.in-Some.place = ap (λ o. position (is_cell_of o) cells) (sym c.user.ensures) ∙ sym c.place_of.ensures ∙ c.in-Some.is in
    let pulls = c.pull_at.ensures c.args.session.now.user at in
    record {
      sits = marks_by_sits c.args.self.now.shared.now c.pull_at.new.seats
          (sits_later c.args.self.now.shared.now c.args.self.now.seats.now c.pull_at.new.seats pulls.later (sits_by_marks c.args.self.now.shared.now c.args.self.now.seats.now c.args.self.now.sits));
    }

pub returns-in-Ok-clause-asked : goal.returns-in-Ok-clause-asked
returns-in-Ok-clause-asked g c =
    let cells = c.args.self.now.shared.now.trees.items in
    let user = c.args.session.now.user in
    let at : position (is_cell_of user) cells ≡ Some c.in-Some.place = ap (λ o. position (is_cell_of o) cells) (sym c.user.ensures) ∙ sym c.place_of.ensures ∙ c.in-Some.is in
    given c.args.self.now.shared.now c.args.self.now.seats.now c.pull_at.new.seats user c.args.question.now c.args._now c.in-Ok.records
    (sits_by_marks c.args.self.now.shared.now c.args.self.now.seats.now c.args.self.now.sits)
    (subst (λ r. PullsTree user c.args.question.now.from c.args.self.now.seats.now c.pull_at.new.seats (result_ok r)) c.in-Ok.is (c.pull_at.ensures user at))

pub returns-in-Err-clause-asked : goal.returns-in-Err-clause-asked
returns-in-Err-clause-asked g c =
    let cells = c.args.self.now.shared.now.trees.items in
    let user = c.args.session.now.user in
    let at : position (is_cell_of user) cells ≡ Some c.in-Some.place = ap (λ o. position (is_cell_of o) cells) (sym c.user.ensures) ∙ sym c.place_of.ensures ∙ c.in-Some.is in
    no_memory c.args.self.now.shared.now c.args.self.now.seats.now c.pull_at.new.seats user c.args.question.now c.args._now
    (sits_by_marks c.args.self.now.shared.now c.args.self.now.seats.now c.args.self.now.sits)
    (subst (λ r. PullsTree user c.args.question.now.from c.args.self.now.seats.now c.pull_at.new.seats (result_ok r)) c.in-Err.is (c.pull_at.ensures user at))
