use Rattle.std.proofs.Common.{append-nil, refl, subst, sym}
use Rattle.up_script.specs.Scripts.{AskCame, CallCame, LineDid, EnrolCame, HostCame, OpenCame, SaysCame}
use Rattle.up_script.specs.Standing.{parties, world}
use Rattle.up_script.specs.Turns.{IsGood}
use Rattle.up_script.proofs.TurnLemmas.{weaker}
use Rattle.up_script.proofs.turns.do_line.Goals as goal

pub returns-in-Silent : goal.returns-in-Silent
returns-in-Silent g c =
    let who = parties g.D.Disk g.P.Loader g.V.Verifier g.C.Clock g.N.Nonces in
    let a = world c.args.sessions.now c.args.peers.now c.args.verifier.now c.args.clock.now c.args.nonces.now in
    (LineDid.Nothing, (subst (λ what. SaysCame who c.args.limits a what _ a) (sym c.in-Silent.is) (refl, refl), sym (append-nil c.args.out.now.items)))

pub open_host-requires-clause-owners : goal.open_host-requires-clause-owners
open_host-requires-clause-owners g c = subst IsGood c.in-Host.is c.requires.good

pub returns-in-Host : goal.returns-in-Host
returns-in-Host g c =
    let who = parties g.D.Disk g.P.Loader g.V.Verifier g.C.Clock g.N.Nonces in
    let a = world c.args.sessions.now c.args.peers.now c.args.verifier.now c.args.clock.now c.args.nonces.now in
    let b = world c.open_host.new.sessions c.args.peers.now c.args.verifier.now c.args.clock.now c.args.nonces.now in
    weaker (λ came. HostCame g.D.Disk c.args.limits c.in-Host.host c.args.sessions.now came c.open_host.new.sessions) (λ came. SaysCame who c.args.limits a c.args.says came b) c.args.out.now.items c.open_host.new.out.items c.open_host.result
    (λ came h. subst (λ what. SaysCame who c.args.limits a what came b) (sym c.in-Host.is) (h, refl)) c.open_host.ensures

pub enrol-requires : goal.enrol-requires
enrol-requires g c = record { key = subst IsGood c.in-Enrol.is c.requires.good }

pub returns-in-Enrol : goal.returns-in-Enrol
returns-in-Enrol g c =
    let who = parties g.D.Disk g.P.Loader g.V.Verifier g.C.Clock g.N.Nonces in
    let a = world c.args.sessions.now c.args.peers.now c.args.verifier.now c.args.clock.now c.args.nonces.now in
    let b = world c.enrol.new.sessions c.args.peers.now c.args.verifier.now c.args.clock.now c.args.nonces.now in
    weaker (λ came. EnrolCame g.D.Disk c.in-Enrol.user c.args.sessions.now came c.enrol.new.sessions) (λ came. SaysCame who c.args.limits a c.args.says came b) c.args.out.now.items c.enrol.new.out.items c.enrol.result
    (λ came h. subst (λ what. SaysCame who c.args.limits a what came b) (sym c.in-Enrol.is) (h, refl)) c.enrol.ensures

pub sign_on-requires : goal.sign_on-requires
sign_on-requires g c = record { number = subst IsGood c.in-Open.is c.requires.good }

pub returns-in-Open : goal.returns-in-Open
returns-in-Open g c =
    let who = parties g.D.Disk g.P.Loader g.V.Verifier g.C.Clock g.N.Nonces in
    let a = world c.args.sessions.now c.args.peers.now c.args.verifier.now c.args.clock.now c.args.nonces.now in
    let b = world c.sign_on.new.sessions c.args.peers.now c.sign_on.new.verifier c.args.clock.now c.sign_on.new.nonces in
    weaker (λ came. OpenCame g.V.Verifier g.N.Nonces c.in-Open.session c.args.sessions.now c.args.verifier.now c.args.nonces.now came c.sign_on.new.sessions c.sign_on.new.verifier c.sign_on.new.nonces) (λ came. SaysCame who c.args.limits a c.args.says came b) c.args.out.now.items c.sign_on.new.out.items c.sign_on.result
    (λ came h. subst (λ what. SaysCame who c.args.limits a what came b) (sym c.in-Open.is) (h, refl, refl)) c.sign_on.ensures

pub ask-requires : goal.ask-requires
ask-requires g c = record { words = subst IsGood c.in-Request.is c.requires.good }

pub returns-in-Request : goal.returns-in-Request
returns-in-Request g c =
    let who = parties g.D.Disk g.P.Loader g.V.Verifier g.C.Clock g.N.Nonces in
    let a = world c.args.sessions.now c.args.peers.now c.args.verifier.now c.args.clock.now c.args.nonces.now in
    let b = world c.ask.new.sessions c.ask.new.peers c.args.verifier.now c.ask.new.clock c.args.nonces.now in
    weaker (λ came. AskCame g.D.Disk g.P.Loader g.C.Clock c.in-Request.number c.in-Request.words c.args.sessions.now c.args.peers.now c.args.clock.now came c.ask.new.sessions c.ask.new.peers c.ask.new.clock) (λ came. SaysCame who c.args.limits a c.args.says came b) c.args.out.now.items c.ask.new.out.items c.ask.result
    (λ came h. subst (λ what. SaysCame who c.args.limits a what came b) (sym c.in-Request.is) (h, refl, refl)) c.ask.ensures

pub returns-in-Client : goal.returns-in-Client
returns-in-Client g c =
    let who = parties g.D.Disk g.P.Loader g.V.Verifier g.C.Clock g.N.Nonces in
    let a = world c.args.sessions.now c.args.peers.now c.args.verifier.now c.args.clock.now c.args.nonces.now in
    let b = world c.call_client.new.sessions c.call_client.new.peers c.args.verifier.now c.call_client.new.clock c.args.nonces.now in
    weaker (λ came. CallCame g.D.Disk g.P.Loader g.C.Clock c.in-Client.number c.in-Client.call c.args.sessions.now c.args.peers.now c.args.clock.now came c.call_client.new.sessions c.call_client.new.peers c.call_client.new.clock) (λ came. SaysCame who c.args.limits a c.args.says came b) c.args.out.now.items c.call_client.new.out.items c.call_client.result
    (λ came h. subst (λ what. SaysCame who c.args.limits a what came b) (sym c.in-Client.is) (h, refl, refl)) c.call_client.ensures
