use Rattle.std.proofs.Common.{sym, subst}
use Rattle.up_frame.specs.Holding.{Holding, StandsFor}
use Rattle.up_frame.proofs.Readings.{stands-given}
use Rattle.up_frame.proofs.frames.Frames.next.Goals as goal

pub returns-clause-stream : goal.returns-clause-stream
returns-clause-stream c = λ stream given stands.
    let held : Holding = record { limit = c.self.inside.limit; fed = c.self.inside.fed; waiting = c.self.inside.waiting.items; rest = c.self.inside.rest.items; bad = c.self.inside.bad } in
    stands-given held c.pop_front.new.self.items c.pop_front.result stream given c.pop_front.ensures.items (subst (λ (now : Holding). StandsFor now stream given) (sym c.self.view_is) stands)
