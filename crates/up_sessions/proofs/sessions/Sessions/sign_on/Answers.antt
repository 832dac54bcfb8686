use Rattle.std.proofs.Common.{◌≡◌, ◌<◌, Bool, Err, Ok, Some, length, slice_get, refl, sym, ap, subst, ◌∙◌}
use Rattle.std.proofs.lemmas.Option.{slice_get-get_or}
use Rattle.up_sessions.proofs.SigningLemmas.{signs_on}
use Rattle.up_sessions.specs.Signing.{SignsOn}
use Rattle.up_sessions.specs.Worlds.{Hosts}
use Rattle.up_sessions.proofs.sessions.Sessions.sign_on.Goals as goal

pub returns-in-Ok : goal.returns-in-Ok
returns-in-Ok g c =
    let within : c.args.place < length c.self.inside.hosts.items = subst (λ (a : Hosts _). c.args.place < length a.hosts) (sym c.self.view_is) c.requires.place in
    let there : slice_get c.args.self.now.hosts c.args.place ≡ Some c.index.result.now =
    ap (λ (a : Hosts _). slice_get a.hosts c.args.place) (sym c.self.view_is) ∙ slice_get-get_or c.self.inside.hosts.items c.args.place c.index.result.now within ∙ ap Some (sym c.index.ensures) in
    subst (λ (said : Bool). SignsOn g.V.Verifier g.N.Nonces c.args.number c.args.place c.args.user.now c.args.signature.now c.args.self.now c.args.verifier.now c.args.nonces.now (Ok said) c.seat.new.self c.judge.new.verifier c.judge.new.nonces)
    (sym c.seat.ensures.open)
    (signs_on g.V.Verifier g.N.Nonces c.args.number c.args.place c.args.user.now c.args.signature.now c.args.self.now c.seat.new.self c.index.result.now c.args.verifier.now c.judge.new.verifier c.args.nonces.now c.judge.new.nonces
    (Ok c.in-Ok.session) there c.in-Ok.ensures c.seat.ensures.after)

pub returns-in-Err : goal.returns-in-Err
returns-in-Err g c =
    let within : c.args.place < length c.self.inside.hosts.items = subst (λ (a : Hosts _). c.args.place < length a.hosts) (sym c.self.view_is) c.requires.place in
    let there : slice_get c.args.self.now.hosts c.args.place ≡ Some c.index.result.now =
    ap (λ (a : Hosts _). slice_get a.hosts c.args.place) (sym c.self.view_is) ∙ slice_get-get_or c.self.inside.hosts.items c.args.place c.index.result.now within ∙ ap Some (sym c.index.ensures) in
    signs_on g.V.Verifier g.N.Nonces c.args.number c.args.place c.args.user.now c.args.signature.now c.args.self.now c.args.self.now c.index.result.now c.args.verifier.now c.judge.new.verifier c.args.nonces.now c.judge.new.nonces
    (Err c.in-Err.why) there c.in-Err.ensures refl
