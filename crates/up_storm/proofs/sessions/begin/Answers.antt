use Rattle.std.proofs.Common.{[], ◌∷◌, ◌++◌, ap, sym, false, ◌∙◌}
use Rattle.up_names.specs.UserNames.{user_of}
use Rattle.up_storm.proofs.Beginning.{begun_one}
use Rattle.up_storm.specs.Telling.{none_counted}
use Rattle.up_storm.proofs.sessions.begin.Goals as goal

pub returns-clause-begun : goal.returns-clause-begun
returns-clause-begun g c =
    begun_one [] c.args.seed c.args.seats.now c.args.shared.now c.args.k c.args.seats.now c.split.new.seats c.in-Ok.other c.args.workers.now.items c.push.new.self.items c.in_ok-session.session.user
    (c.in_ok-push.ensures.items ∙ ap (λ w. c.args.workers.now.items ++ w ∷ []) (c.new.ensures
    ∙ ap (λ p. record { seats = c.in-Ok.other; peers = p; user = c.in_ok-session.session.user; number = c.first_number.result; text = []; tally = none_counted; failed = false }) c.new-peers.ensures
    ∙ ap (λ n. record { seats = c.in-Ok.other; peers = []; user = c.in_ok-session.session.user; number = n; text = []; tally = none_counted; failed = false }) c.first_number.ensures))
    c.in-Ok.ensures.first c.in-Ok.ensures.second c.in-Ok.ensures.shares (ap user_of (sym c.in_ok-user.ensures) ∙ ap user_of (sym c.as_slice.ensures) ∙ c.in_ok-session.ensures) c.in-Ok.ensures.other
