use Rattle.std.proofs.Common.{sym, ◌∙◌}
use Rattle.up_sessions.specs.Worlds.{session_at}
use Rattle.up_script.specs.Scripts.{CallCame, LineDid}
use Rattle.up_script.proofs.TurnLemmas.{not_open, open_of, unmade, unsaid}
use Rattle.up_script.proofs.turns.call_client.Goals as goal

pub returns-in_err-say_numbered : goal.returns-in_err-say_numbered
returns-in_err-say_numbered g c =
    unsaid (λ came. CallCame g.D.Disk g.P.Loader g.C.Clock c.args.number c.args.call.now c.args.sessions.now c.args.peers.now c.args.clock.now came c.args.sessions.now c.args.peers.now c.args.clock.now)
    (LineDid.NoSession c.args.number) c.args.out.now.items c.say_numbered.new.out.items c.from_residual.result (CallCame.no_session (not_open (session_at c.args.sessions.now c.args.number) c.in_default.ensures)) c.from_residual.ensures.1

pub returns-in_default : goal.returns-in_default
returns-in_default g c =
    (LineDid.NoSession c.args.number, (CallCame.no_session (not_open (session_at c.args.sessions.now c.args.number) c.in_default.ensures), c.in_ok-say_numbered.ensures))

pub returns-in_err-path : goal.returns-in_err-path
returns-in_err-path g c =
    unmade (λ came. CallCame g.D.Disk g.P.Loader g.C.Clock c.args.number c.args.call.now c.args.sessions.now c.args.peers.now c.args.clock.now came c.args.sessions.now c.args.peers.now c.args.clock.now) c.args.out.now.items c.args.out.now.items c.from_residual-in_err-path.result CallCame.wanting c.from_residual-in_err-path.ensures.1

pub returns-in_err-say_numbered-in-None : goal.returns-in_err-say_numbered-in-None
returns-in_err-say_numbered-in-None g c =
    let open_at = open_of (session_at c.args.sessions.now c.args.number) c.in-Some.field-0.now c.in-Some.ensures in
    unsaid (λ came. CallCame g.D.Disk g.P.Loader g.C.Clock c.args.number c.args.call.now c.args.sessions.now c.args.peers.now c.args.clock.now came c.args.sessions.now c.args.peers.now c.now-now.new.self)
    (LineDid.BadPath c.args.number) c.args.out.now.items c.say_numbered-in-None.new.out.items c.from_residual-in_err-say_numbered-in-None.result
    (CallCame.bad_path open_at.there (sym c.in_ok-path.ensures ∙ c.in-None.is) c.now-now.ensures.gives) c.from_residual-in_err-say_numbered-in-None.ensures.1

pub returns-in_ok-say_numbered-in-None : goal.returns-in_ok-say_numbered-in-None
returns-in_ok-say_numbered-in-None g c =
    let open_at = open_of (session_at c.args.sessions.now c.args.number) c.in-Some.field-0.now c.in-Some.ensures in
    (LineDid.BadPath c.args.number, (CallCame.bad_path open_at.there (sym c.in_ok-path.ensures ∙ c.in-None.is) c.now-now.ensures.gives, c.in_ok-say_numbered-in-None.ensures))
