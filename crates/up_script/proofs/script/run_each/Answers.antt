-- Each exit of the loop, by the invariant and what the last call wrote.
use Rattle.std.proofs.Common.{◌≡◌, [], ◌∷◌, subst, ap, arith, refl}
use Rattle.std.proofs.lemmas.Result.{err_from_is_err_and}
use Rattle.up_text.specs.Lines.{script_lines}
use Rattle.up_script.specs.Standing.{parties, world}
use Rattle.up_command.proofs.GatherLemmas.{still_written}
use Rattle.up_script.proofs.RunningLemmas.{Running, Running-none, Running-turned, Scripted-end, Scripted-fault, Scripted-turned, Scripted-unwritten}
use Rattle.up_script.proofs.script.run_each.Goals as goal

pub loop-line-init : goal.loop-line-init
loop-line-init g c =
    let who = parties g.D.Disk g.P.Loader g.V.Verifier g.C.Clock g.N.Nonces in
    let first = world c.args.sessions.now c.args.peers.now c.args.verifier.now c.args.clock.now c.args.nonces.now in
    record {
      running = Running-none who c.args.limits (g.K.Sink.held c.args.sink.now) c.new-gathered.result.items first (script_lines c.args.lines.now) c.new-gathered.ensures.items c.requires.fit;
      later = omega arith;
      written = refl;
      counted = omega arith;
    }

pub loop-line-preserved : goal.loop-line-preserved
loop-line-preserved g c =
    let who = parties g.D.Disk g.P.Loader g.V.Verifier g.C.Clock g.N.Nonces in
    let first = world c.args.sessions.now c.args.peers.now c.args.verifier.now c.args.clock.now c.args.nonces.now in
    let before = world c.loop-line.sessions c.loop-line.peers c.loop-line.verifier c.loop-line.clock c.loop-line.nonces in
    let after = world c.run_line.new.sessions c.run_line.new.peers c.run_line.new.verifier c.run_line.new.clock c.run_line.new.nonces in
    let here : Running who c.args.limits (g.K.Sink.held c.args.sink.now) (g.K.Sink.held c.loop-line.sink) c.loop-line.gathered.items first before (script_lines c.args.lines.now) (c.in-Some.line.now ∷ script_lines c.in-Some.after.now) c.loop-line.number =
    subst (λ left. Running who c.args.limits (g.K.Sink.held c.args.sink.now) (g.K.Sink.held c.loop-line.sink) c.loop-line.gathered.items first before (script_lines c.args.lines.now) left c.loop-line.number) c.in-Some.ensures.lines c.loop-line.invariant.running in
    record {
      running = Running-turned who c.args.limits (g.K.Sink.held c.args.sink.now) (g.K.Sink.held c.loop-line.sink) (g.K.Sink.held c.flush.new.sink) c.loop-line.gathered.items c.run_line.new.out.items c.flush.new.gathered.items first before after (script_lines c.args.lines.now)
          c.in-Some.line.now (script_lines c.in-Some.after.now) c.loop-line.number c.run_line.result here c.run_line.ensures c.in-Ok.is c.in_ok-flush-in-Ok.ensures.ok;
      later = omega (arith, c.loop-line.invariant.later, c.flush.ensures.later);
      written = still_written (g.K.Sink.faults c.args.sink.now) (g.K.Sink.faults c.loop-line.sink) (g.K.Sink.faults c.flush.new.sink) c.flush.result c.in_ok-flush-in-Ok.was c.flush.ensures.quiet c.loop-line.invariant.written;
      counted = omega (arith, c.loop-line.invariant.counted, c.in-Some.ensures.shorter);
    }

pub returns-in_err-flush-in-Ok-clause-scripted : goal.returns-in_err-flush-in-Ok-clause-scripted
returns-in_err-flush-in-Ok-clause-scripted g c =
    let who = parties g.D.Disk g.P.Loader g.V.Verifier g.C.Clock g.N.Nonces in
    let first = world c.args.sessions.now c.args.peers.now c.args.verifier.now c.args.clock.now c.args.nonces.now in
    let before = world c.loop-line.sessions c.loop-line.peers c.loop-line.verifier c.loop-line.clock c.loop-line.nonces in
    let after = world c.run_line.new.sessions c.run_line.new.peers c.run_line.new.verifier c.run_line.new.clock c.run_line.new.nonces in
    let here : Running who c.args.limits (g.K.Sink.held c.args.sink.now) (g.K.Sink.held c.loop-line.sink) c.loop-line.gathered.items first before (script_lines c.args.lines.now) (c.in-Some.line.now ∷ script_lines c.in-Some.after.now) c.loop-line.number =
    subst (λ left. Running who c.args.limits (g.K.Sink.held c.args.sink.now) (g.K.Sink.held c.loop-line.sink) c.loop-line.gathered.items first before (script_lines c.args.lines.now) left c.loop-line.number) c.in-Some.ensures.lines c.loop-line.invariant.running in
    let p = err_from_is_err_and c.from_residual.result c.from_residual.ensures.1 in
    Scripted-unwritten who c.args.limits (g.K.Sink.held c.args.sink.now) (g.K.Sink.held c.loop-line.sink) (g.K.Sink.held c.flush.new.sink) c.loop-line.gathered.items c.run_line.new.out.items first before after (script_lines c.args.lines.now)
    c.in-Some.line.now (script_lines c.in-Some.after.now) c.loop-line.number c.run_line.result p.0 c.from_residual.result here c.run_line.ensures c.in-Ok.is p.1 c.flush.ensures.part

pub returns-in-Err-clause-scripted : goal.returns-in-Err-clause-scripted
returns-in-Err-clause-scripted g c =
    let who = parties g.D.Disk g.P.Loader g.V.Verifier g.C.Clock g.N.Nonces in
    let first = world c.args.sessions.now c.args.peers.now c.args.verifier.now c.args.clock.now c.args.nonces.now in
    let before = world c.loop-line.sessions c.loop-line.peers c.loop-line.verifier c.loop-line.clock c.loop-line.nonces in
    let after = world c.run_line.new.sessions c.run_line.new.peers c.run_line.new.verifier c.run_line.new.clock c.run_line.new.nonces in
    let here : Running who c.args.limits (g.K.Sink.held c.args.sink.now) (g.K.Sink.held c.loop-line.sink) c.loop-line.gathered.items first before (script_lines c.args.lines.now) (c.in-Some.line.now ∷ script_lines c.in-Some.after.now) c.loop-line.number =
    subst (λ left. Running who c.args.limits (g.K.Sink.held c.args.sink.now) (g.K.Sink.held c.loop-line.sink) c.loop-line.gathered.items first before (script_lines c.args.lines.now) left c.loop-line.number) c.in-Some.ensures.lines c.loop-line.invariant.running in
    Scripted-turned who c.args.limits (g.K.Sink.held c.args.sink.now) (g.K.Sink.held c.loop-line.sink) (g.K.Sink.held c.end.new.sink) c.loop-line.gathered.items c.run_line.new.out.items first before after (script_lines c.args.lines.now)
    c.in-Some.line.now (script_lines c.in-Some.after.now) c.loop-line.number c.in-Err.why c.end.result here c.in-Err.ensures c.end.ensures.code c.end.ensures.whole c.end.ensures.part
    (λ is. ap g.K.Sink.held (c.end.ensures.unwritten is)) c.end.ensures.wanting

pub returns-in_err-finish-clause-scripted : goal.returns-in_err-finish-clause-scripted
returns-in_err-finish-clause-scripted g c =
    let who = parties g.D.Disk g.P.Loader g.V.Verifier g.C.Clock g.N.Nonces in
    let first = world c.args.sessions.now c.args.peers.now c.args.verifier.now c.args.clock.now c.args.nonces.now in
    let before = world c.loop-line.sessions c.loop-line.peers c.loop-line.verifier c.loop-line.clock c.loop-line.nonces in
    let p = err_from_is_err_and c.from_residual-in_err-finish.result c.from_residual-in_err-finish.ensures.1 in
    Scripted-fault who c.args.limits (g.K.Sink.held c.args.sink.now) (g.K.Sink.held c.loop-line.sink) (g.K.Sink.held c.finish.new.sink) c.loop-line.gathered.items first before (script_lines c.args.lines.now) (script_lines c.loop-line.rest.now) c.loop-line.number p.0 c.from_residual-in_err-finish.result p.1
    c.loop-line.invariant.running c.finish.ensures.part

pub returns-clause-scripted : goal.returns-clause-scripted
returns-clause-scripted g c =
    let who = parties g.D.Disk g.P.Loader g.V.Verifier g.C.Clock g.N.Nonces in
    let first = world c.args.sessions.now c.args.peers.now c.args.verifier.now c.args.clock.now c.args.nonces.now in
    let before = world c.loop-line.sessions c.loop-line.peers c.loop-line.verifier c.loop-line.clock c.loop-line.nonces in
    let over : script_lines c.loop-line.rest.now ≡ [] = c.in_default.ensures.no_line in
    let here : Running who c.args.limits (g.K.Sink.held c.args.sink.now) (g.K.Sink.held c.loop-line.sink) c.loop-line.gathered.items first before (script_lines c.args.lines.now) [] c.loop-line.number =
    subst (λ left. Running who c.args.limits (g.K.Sink.held c.args.sink.now) (g.K.Sink.held c.loop-line.sink) c.loop-line.gathered.items first before (script_lines c.args.lines.now) left c.loop-line.number) over c.loop-line.invariant.running in
    Scripted-end who c.args.limits (g.K.Sink.held c.args.sink.now) (g.K.Sink.held c.loop-line.sink) (g.K.Sink.held c.finish.new.sink) c.loop-line.gathered.items first before (script_lines c.args.lines.now) c.loop-line.number here c.in_ok-finish.ensures.ok
