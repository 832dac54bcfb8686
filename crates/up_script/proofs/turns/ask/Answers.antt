use Rattle.std.proofs.Common.{◌≡◌, sym, subst, ◌∙◌}
use Rattle.up_sessions.specs.Worlds.{session_at}
use Rattle.up_script.specs.Scripts.{AskCame, LineDid, result_of_reply}
use Rattle.up_script.proofs.TurnLemmas.{ask_came, not_open, open_of, unmade, unsaid, weaker}
use Rattle.up_script.proofs.turns.ask.Goals as goal

pub returns-in_err-say_numbered : goal.returns-in_err-say_numbered
returns-in_err-say_numbered g c =
    unsaid (λ came. AskCame g.D.Disk g.P.Loader g.C.Clock c.args.number c.args.words.now c.args.sessions.now c.args.peers.now c.args.clock.now came c.args.sessions.now c.args.peers.now c.args.clock.now)
    (LineDid.NoSession c.args.number) c.args.out.now.items c.say_numbered.new.out.items c.from_residual.result (AskCame.no_session (not_open (session_at c.args.sessions.now c.args.number) c.in_default.ensures)) c.from_residual.ensures.1

pub returns-in_default : goal.returns-in_default
returns-in_default g c =
    (LineDid.NoSession c.args.number, (AskCame.no_session (not_open (session_at c.args.sessions.now c.args.number) c.in_default.ensures), c.in_ok-say_numbered.ensures))

pub returns-in_err-request : goal.returns-in_err-request
returns-in_err-request g c =
    unmade (λ came. AskCame g.D.Disk g.P.Loader g.C.Clock c.args.number c.args.words.now c.args.sessions.now c.args.peers.now c.args.clock.now came c.args.sessions.now c.args.peers.now c.args.clock.now) c.args.out.now.items c.args.out.now.items c.from_residual-in_err-request.result AskCame.wanting c.from_residual-in_err-request.ensures.1

pub returns : goal.returns
returns g c =
    let open_at = open_of (session_at c.args.sessions.now c.args.number) c.in-Some.user.now c.in-Some.ensures in
    let made = ask_came g.D.Disk g.P.Loader g.C.Clock c.args.number c.args.sessions.now c.ask-event.new.self c.args.peers.now c.ask-event.new.peers c.args.clock.now c.now-now.new.self c.args.words.now open_at.opened c.in-Some.user.now c.in-Some-2.request c.now-now.result c.ask-event.result open_at.there open_at.is
    (sym c.in-Some-2.is ∙ c.in_ok-request.ensures) c.now-now.ensures.gives c.ask-event.ensures in
    weaker (λ came. came ≡ result_of_reply c.args.number c.ask-event.result.reply) (λ came. AskCame g.D.Disk g.P.Loader g.C.Clock c.args.number c.args.words.now c.args.sessions.now c.args.peers.now c.args.clock.now came c.ask-event.new.self c.ask-event.new.peers c.now-now.new.self)
    c.args.out.now.items c.say_reply_result-said.new.out.items c.say_reply_result-said.result
    (λ came said. subst (λ x. AskCame g.D.Disk g.P.Loader g.C.Clock c.args.number c.args.words.now c.args.sessions.now c.args.peers.now c.args.clock.now x c.ask-event.new.self c.ask-event.new.peers c.now-now.new.self) (sym said) made) c.say_reply_result-said.ensures
