-- What comes of a line is what its call does.
use Rattle.std.proofs.Common.{Ok, append-nil, refl, subst, sym}
use Rattle.up_terminal.specs.Answers.{AskCame, CallCame, LineDid, SaysCame}
use Rattle.up_terminal.specs.declared.terminal_line.TerminalLine.{TerminalLine}
use Rattle.up_terminal.proofs.AnswerLemmas.{weaker}
use Rattle.up_terminal.proofs.answering.do_line.Goals as goal

pub returns-in-Silent-clause-came : goal.returns-in-Silent-clause-came
returns-in-Silent-clause-came g c =
    let ask = c.args.ask.now in
    (LineDid.Nothing, (subst (λ (what : TerminalLine). SaysCame g.A.Ask.answers c.args.user.now ask what (Ok LineDid.Nothing) ask) (sym c.in-Silent.is) (refl, refl), sym (append-nil c.args.out.now.items)))

pub returns-in-Request-clause-came : goal.returns-in-Request-clause-came
returns-in-Request-clause-came g c =
    let ask = c.args.ask.now in
    let after = c.request_made.new.ask in
    weaker (λ came. AskCame g.A.Ask.answers c.in-Request.request ask came after) (λ came. SaysCame g.A.Ask.answers c.args.user.now ask c.args.says came after) c.args.out.now.items c.request_made.new.out.items c.request_made.result
    (λ came h. subst (λ (what : TerminalLine). SaysCame g.A.Ask.answers c.args.user.now ask what came after) (sym c.in-Request.is) h) c.request_made.ensures.came

pub returns-in-Client-clause-came : goal.returns-in-Client-clause-came
returns-in-Client-clause-came g c =
    let ask = c.args.ask.now in
    let after = c.call_made.new.ask in
    weaker (λ came. CallCame g.A.Ask.answers c.args.user.now ask c.in-Client.call came after) (λ came. SaysCame g.A.Ask.answers c.args.user.now ask c.args.says came after) c.args.out.now.items c.call_made.new.out.items c.call_made.result
    (λ came h. subst (λ (what : TerminalLine). SaysCame g.A.Ask.answers c.args.user.now ask what came after) (sym c.in-Client.is) h) c.call_made.ensures.came
