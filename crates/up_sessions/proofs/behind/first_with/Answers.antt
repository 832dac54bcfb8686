use Rattle.std.proofs.Common.{sym, ap, ◌∙◌}
use Rattle.std.specs.Option.{option_copied}
use Rattle.up_sessions.proofs.BehindLemmas.{found_first, found_later}
use Rattle.up_sessions.specs.Others.{has_tree}
use Rattle.up_sessions.proofs.behind.first_with.Goals as goal

pub returns-in-Some : goal.returns-in-Some
returns-in-Some g c = found_first (has_tree c.args.owner.now) c.args.before.now c.args.after.now c.in-Some.host.now (sym (ap option_copied c.in-Some.is) ∙ c.first_in.ensures)

pub returns-in-None : goal.returns-in-None
returns-in-None g c = c.first_in-in-None.ensures ∙ sym (found_later (has_tree c.args.owner.now) c.args.before.now c.args.after.now (sym c.first_in.ensures ∙ ap option_copied c.in-None.is))
