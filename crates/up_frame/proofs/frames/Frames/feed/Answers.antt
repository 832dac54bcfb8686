use Rattle.std.proofs.Common.{◌≡◌, ℕ, ◌+◌, ◌-◌, List, length, ◌++◌, Some, sym, subst, rules}
use Rattle.up_frame.specs.Stream.{Reads}
use Rattle.up_frame.specs.Holding.{Holding, StandsFor}
use Rattle.up_frame.proofs.Readings.{Taken, fed-bad, fed-rest, fed-break}
use Rattle.up_frame.proofs.frames.Frames.feed.Goals as goal

pub returns-in-Some-clause-stream : goal.returns-in-Some-clause-stream
returns-in-Some-clause-stream c = λ memory stream given stands.
    let held = c.self.inside in
    fed-bad held.limit held.fed c.in-Some.place held.waiting.items held.rest.items c.args.piece.now held.bad stream given c.in-Some.is
    (subst (λ (now : Holding). StandsFor now stream given) (sym c.self.view_is) stands)

pub returns-in-Ok-None-clause-stream : goal.returns-in-Ok-None-clause-stream
returns-in-Ok-None-clause-stream c = λ memory stream given stands.
    let held = c.self.inside in
    let piece = c.args.piece.now in
    let ok = c.in-Ok-None.ensures.ok in
    let none = c.in_default.not-Some in
    let now = c.take_frames.new.bytes.items in
    let bad = c.in-Ok-None.field-0 in
    let taken : Taken held.limit held.waiting.items c.take_frames.new.waiting.items held.rest.items piece now bad = record {
      payloads = ok.0;
      grown = ok.1;
      reads = subst (λ (joined : List ℕ). Reads held.limit joined ok.0 now bad) c.in_ok-extend_from_slice.ensures.items ok.2;
    } in
    fed-rest held.limit held.fed held.waiting.items c.take_frames.new.waiting.items held.rest.items piece now held.bad bad stream given none c.in-Ok-None.field-0-is taken
    (subst (λ (now : Holding). StandsFor now stream given) (sym c.self.view_is) stands)

pub returns-in-Ok-Some-clause-stream : goal.returns-in-Ok-Some-clause-stream
returns-in-Ok-Some-clause-stream c = λ memory stream given stands.
    let held = c.self.inside in
    let piece = c.args.piece.now in
    let ok = c.in-Ok-Some.ensures.ok in
    let none = c.in_default.not-Some in
    let waits = c.take_frames.new.waiting.items in
    let now = c.take_frames.new.bytes.items in
    let bad = c.in-Ok-Some.field-0 in
    let at = c.in-Ok-Some.at in
    let taken : Taken held.limit held.waiting.items waits held.rest.items piece now bad = record {
      payloads = ok.0;
      grown = ok.1;
      reads = subst (λ (joined : List ℕ). Reads held.limit joined ok.0 now bad) c.in_ok-extend_from_slice.ensures.items ok.2;
    } in
    let before : length held.rest.items ≡ c.len-before.result = search rules in
    let broken = fed-break held.limit held.fed at held.waiting.items waits held.rest.items piece now held.bad bad stream given none c.in-Ok-Some.field-0-is taken
    (subst (λ (was : Holding). StandsFor was stream given) (sym c.self.view_is) stands) in
    subst (λ (n : ℕ). StandsFor (record { limit = held.limit; fed = held.fed + length piece; waiting = waits; rest = now; bad = Some (held.fed - n + at) }) (stream ++ piece) given) before broken
