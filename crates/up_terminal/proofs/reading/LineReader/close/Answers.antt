-- Where no byte is left, nothing is run; else the last line is.
use Rattle.std.proofs.Common.{◌≡◌, ◌≢◌, [], length, sym, ap, ◌∙◌, arith}
use Rattle.std.proofs.lemmas.Bool.{eqb-false, eqb-true}
use Rattle.up_terminal.specs.Sessions.{Reading}
use Rattle.up_terminal.proofs.LineLemmas.{empty_line}
use Rattle.up_terminal.proofs.SessionLemmas.{closes_empty, closes_line}
use Rattle.up_terminal.proofs.reading.LineReader.close.Goals as goal

pub returns-then-is_empty-clause-closes : goal.returns-then-is_empty-clause-closes
returns-then-is_empty-clause-closes g c =
    let none = eqb-true _ 0 (sym c.is_empty.ensures ∙ c.if-is_empty.true) in
    let kept = c.self.inside.line.ok.0 in
    let empty : c.self.inside.line.items ≡ [] = empty_line c.self.inside.line.items (omega (arith, none, kept)) in
    closes_empty g.A.Ask.answers c.args.user.now (g.K.Sink.held c.args.sink.now) c.args.ask.now c.args.self.now.line c.args.self.now.number (sym (ap (λ (r : Reading). r.line) c.self.view_is) ∙ empty)

pub returns-clause-closes : goal.returns-clause-closes
returns-clause-closes g c =
    let some = eqb-false _ 0 (sym c.is_empty.ensures ∙ c.if-is_empty.false) in
    let kept = c.self.inside.line.ok.0 in
    let other : c.args.self.now.line ≢ [] = λ is. some (let none = ap length (ap (λ (r : Reading). r.line) c.self.view_is ∙ is) in omega (arith, none, kept)) in
    closes_line g.A.Ask.answers c.args.user.now (g.K.Sink.held c.args.sink.now) (g.K.Sink.held c.run.new.sink) c.args.ask.now c.run.new.ask c.args.self.now.line c.args.self.now.number c.run.result other c.requires.line c.run.ensures.ran
