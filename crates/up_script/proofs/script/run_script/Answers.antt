-- Where there was no memory for the sessions, no line was run, and all disks are back; else all lines were run, up to the end of the run.
use Rattle.std.proofs.Common.{◌≡◌, refl, subst}
use Rattle.up_sessions.specs.Handing.{all_disks}
use Rattle.up_text.specs.Lines.{script_lines}
use Rattle.up_script.specs.ScriptAnswers.{among}
use Rattle.up_script.specs.ScriptRuns.{Scripted}
use Rattle.up_script.specs.Standing.{around, at_first, parties}
use Rattle.up_script.proofs.ScriptRunLemmas.{means_none, means_run}
use Rattle.up_script.proofs.script.run_script.Goals as goal

pub returns-in-Err-clause-means : goal.returns-in-Err-clause-means
returns-in-Err-clause-means g c =
    let who = parties g.D.Disk g.P.Loader g.V.Verifier g.C.Clock g.N.Nonces in
    let before = around c.args.peers.now c.args.verifier.now c.args.clock.now c.args.nonces.now in
    let same : c.replace-in-Err.new.dest.disks ≡ c.args.disks.now.disks = cc (c.in-Err.ensures.refused) in
    means_none who c.args.limits _ (g.K.Sink.held c.args.sink.now) c.args.disks.now.disks c.replace-in-Err.new.dest.disks before c.args.input.now c.code.result refl c.code.ensures same c.requires.eighty c.requires.blank

pub returns-in-Ok-clause-means : goal.returns-in-Ok-clause-means
returns-in-Ok-clause-means g c =
    let who = parties g.D.Disk g.P.Loader g.V.Verifier g.C.Clock g.N.Nonces in
    let before = around c.args.peers.now c.args.verifier.now c.args.clock.now c.args.nonces.now in
    let after = around c.run_lines-status.new.peers c.run_lines-status.new.verifier c.run_lines-status.new.clock c.run_lines-status.new.nonces in
    let start : c.in-Ok.sessions ≡ at_first c.args.disks.now.disks = cc (c.in-Ok.ensures.none, c.replace-given.ensures.value) in
    let back : c.replace.new.dest.disks ≡ all_disks c.run_lines-status.new.sessions = cc (c.into_disks.ensures.disks, c.replace.ensures.after) in
    means_run who c.args.limits (g.K.Sink.held c.args.sink.now) (g.K.Sink.held c.run_lines-status.new.sink) c.args.disks.now.disks
    c.replace.new.dest.disks before after c.args.input.now c.run_lines-status.new.sessions c.run_lines-status.result
    (subst (λ s. Scripted who c.args.limits (g.K.Sink.held c.args.sink.now) (g.K.Sink.held c.run_lines-status.new.sink) (among s before)
    (script_lines c.args.input.now) c.run_lines-status.result (among c.run_lines-status.new.sessions after)) start c.run_lines-status.ensures.scripted)
    back c.into_disks.ensures.safe
