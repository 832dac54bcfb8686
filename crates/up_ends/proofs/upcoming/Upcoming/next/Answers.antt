use Rattle.std.proofs.Common.{sym, ap, ◌∙◌}
use Rattle.std.specs.Option.{option_copied}
use Rattle.up_ends.specs.Telling.{next_of}
use Rattle.up_ends.proofs.NextAnswers.{next_is, none_is_left}
use Rattle.up_ends.proofs.upcoming.Upcoming.next.Goals as goal

pub returns-in-Some : goal.returns-in-Some
returns-in-Some g c =
    let s = c.self.inside in
    sym (next_is s.first s.place c.in-Some.answer.now s.after (sym c.get.ensures ∙ ap option_copied c.in-Some.is)) ∙ ap next_of c.self.view_is

pub returns-in-None : goal.returns-in-None
returns-in-None g c =
    let s = c.self.inside in
    sym (none_is_left s.first s.place s.after (sym c.get.ensures ∙ ap option_copied c.in-None.is)) ∙ ap next_of c.self.view_is
