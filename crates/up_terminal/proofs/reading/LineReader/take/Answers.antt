-- Each exit of the loop, by the invariant and what the last call did.
use Rattle.std.proofs.Common.{◌≤◌, ◌++◌, length, length-append, Ok, refl, sym, ap, subst, ◌∙◌, arith}
use Rattle.up_terminal.specs.Lines.{IsLine}
use Rattle.up_terminal.specs.Sessions.{Goes, Reading}
use Rattle.up_terminal.proofs.CutLemmas.{unbroken_append}
use Rattle.up_terminal.proofs.SessionLemmas.{line_goes, line_stops, rest_goes}
use Rattle.up_terminal.proofs.reading.LineReader.take.Goals as goal

pub loop-end-init : goal.loop-end-init
loop-end-init g c = record {
  goes = λ start first text bytes h. h;
  line = c.requires.line;
  numbered = omega arith;
  tie = g.met.A.Ask.same c.args.ask.now;
  asked = refl;
  written = refl;
}

pub loop-end-preserved : goal.loop-end-preserved
loop-end-preserved g c =
    let loop = c.loop-end in
    let line = loop.self.line ++ c.in-Some.end.now in
    let long = length-append loop.self.line c.in-Some.end.now in
    let good : length line ≤ 67108864 = let short = c.in-Ok.ensures.short (λ is. cc) in omega (arith, long, short) in
    let none = unbroken_append loop.self.line c.in-Some.end.now loop.invariant.line.unbroken c.in-Some.ensures.unbroken in
    record {
      goes = subst (λ (r : Reading). Goes g.A.Ask.answers c.args.user.now (g.K.Sink.held c.args.sink.now) (g.K.Sink.held c.finish.new.sink) c.args.ask.now (c.args.self.now.line ++ c.args.piece.now) c.args.self.now.number (Ok tt) c.finish.new.ask (r.line ++ c.in-Some.behind.now) r.number)
          (sym c.in-Ok.ensures.next)
          (line_goes g.A.Ask.answers c.args.user.now (g.K.Sink.held c.args.sink.now) (g.K.Sink.held loop.sink) (g.K.Sink.held c.finish.new.sink) c.args.ask.now loop.ask c.finish.new.ask (c.args.self.now.line ++ c.args.piece.now) loop.self.line c.in-Some.end.now c.in-Some.behind.now loop.rest.now c.args.self.now.number loop.self.number
          loop.invariant.goes c.in-Some.ensures.cut (record { unbroken = none; short = good }) c.in-Ok.ensures.ran);
      line = subst (λ (r : Reading). IsLine r.line) (sym c.in-Ok.ensures.next) (record { unbroken = refl; short = omega arith });
      numbered = let next = ap (λ (r : Reading). r.number) c.in-Ok.ensures.next in let few = loop.invariant.numbered in let less = c.in-Some.ensures.shorter in omega (arith, next, few, less);
      tie = g.met.A.Ask.joined c.args.ask.now loop.ask c.finish.new.ask loop.invariant.tie c.finish.ensures.tie;
      asked = c.finish.ensures.ask_quiet.stays (λ is. cc) ∙ loop.invariant.asked;
      written = c.finish.ensures.sink_quiet.stays (λ is. cc) ∙ loop.invariant.written;
    }

pub returns-in-Err-clause-goes : goal.returns-in-Err-clause-goes
returns-in-Err-clause-goes g c =
    let loop = c.loop-end in
    let long = length-append loop.self.line c.in-Some.end.now in
    line_stops g.A.Ask.answers c.args.user.now (g.K.Sink.held c.args.sink.now) (g.K.Sink.held loop.sink) (g.K.Sink.held c.finish.new.sink) c.args.ask.now loop.ask c.finish.new.ask (c.args.self.now.line ++ c.args.piece.now) loop.self.line c.in-Some.end.now c.in-Some.behind.now loop.rest.now c.finish.new.self.line
    c.args.self.now.number loop.self.number c.finish.new.self.number c.in-Err.why loop.invariant.goes c.in-Some.ensures.cut (unbroken_append loop.self.line c.in-Some.end.now loop.invariant.line.unbroken c.in-Some.ensures.unbroken)
    (λ other. let short = c.in-Err.ensures.short (λ is. other (cc)) in omega (arith, long, short)) c.in-Err.ensures.ran

pub returns-clause-goes : goal.returns-clause-goes
returns-clause-goes g c =
    let loop = c.loop-end in
    let long = length-append loop.self.line loop.rest.now in
    rest_goes g.A.Ask.answers c.args.user.now (g.K.Sink.held c.args.sink.now) (g.K.Sink.held loop.sink) c.args.ask.now loop.ask (c.args.self.now.line ++ c.args.piece.now) loop.self.line loop.rest.now c.args.self.now.number loop.self.number c.add.result c.add.new.self
    loop.invariant.goes (unbroken_append loop.self.line loop.rest.now loop.invariant.line.unbroken c.in_default.ensures.none) c.add.ensures.added c.add.ensures.kinds (λ is. let more = c.add.ensures.long is in omega (arith, long, more))
