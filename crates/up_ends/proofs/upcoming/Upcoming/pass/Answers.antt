use Rattle.std.proofs.Common.{ap, sym, ◌∙◌}
use Rattle.std.proofs.lemmas.List.{drop-drop}
use Rattle.up_ends.specs.Telling.{after_next}
use Rattle.up_ends.proofs.upcoming.Upcoming.pass.Goals as goal

pub returns-then-self-len : goal.returns-then-self-len
returns-then-self-len g c =
    let s = c.self.inside in
    ap (λ left. record { first = left; after = s.after }) (sym (drop-drop 1 s.place s.first)) ∙ ap after_next c.self.view_is
