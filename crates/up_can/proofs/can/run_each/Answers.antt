-- Each exit of the loop, by the invariant and what the last call wrote.
use Rattle.std.proofs.Common.{◌≡◌, ℕ, ◌+◌, List, [], Some, None, ap, sym, ◌∙◌, refl, arith}
use Rattle.up_text.specs.Lines.{script_lines}
use Rattle.up_can.specs.CanLines.{reply_of, effect_of}
use Rattle.up_command.specs.Printed.{bad_line}
use Rattle.up_can.specs.CanRuns.{Run, run_from, run_of, ends_badly, says}
use Rattle.up_can.proofs.CanFolds.{Runs-more, Runs-part, Runs-all, Runs-last, run_from-says, run_from-bad, script_lines-nil}
use Rattle.up_can.proofs.can.run_each.Goals as goal

pub returns-in_err-finish-clause-part : goal.returns-in_err-finish-clause-part
returns-in_err-finish-clause-part g c =
    let more : Run = run_from c.loop-line.number c.loop-line.script (script_lines c.loop-line.rest.now) in
    let said : None ≡ reply_of (effect_of c.loop-line.script c.in-Some.line.now) = rw c.in_default-2.is at c.in_ok-reply.ensures.reply in
    let bad : more ≡ ends_badly c.loop-line.number c.loop-line.script =
    ap (run_from c.loop-line.number c.loop-line.script) c.in-Some.ensures.lines ∙ run_from-bad c.loop-line.number c.loop-line.script c.in-Some.line.now (script_lines c.in-Some.after.now) said in
    let last : c.deref.result.now ≡ bad_line c.loop-line.number = c.deref.ensures.value ∙ c.in_ok-last.ensures in
    Runs-last (g.K.Sink.held c.args.sink.now) (g.K.Sink.held c.loop-line.sink) (g.K.Sink.held c.finish.new.sink) c.loop-line.gathered.items c.deref.result.now more (run_of c.args.lines.now) c.loop-line.invariant.runs (ap (λ run. run.text) bad ∙ sym last) c.finish.ensures.part

pub returns-in_default-2-clause-part : goal.returns-in_default-2-clause-part
returns-in_default-2-clause-part g c =
    let more : Run = run_from c.loop-line.number c.loop-line.script (script_lines c.loop-line.rest.now) in
    let said : None ≡ reply_of (effect_of c.loop-line.script c.in-Some.line.now) = rw c.in_default-2.is at c.in_ok-reply.ensures.reply in
    let bad : more ≡ ends_badly c.loop-line.number c.loop-line.script =
    ap (run_from c.loop-line.number c.loop-line.script) c.in-Some.ensures.lines ∙ run_from-bad c.loop-line.number c.loop-line.script c.in-Some.line.now (script_lines c.in-Some.after.now) said in
    let last : c.deref.result.now ≡ bad_line c.loop-line.number = c.deref.ensures.value ∙ c.in_ok-last.ensures in
    Runs-last (g.K.Sink.held c.args.sink.now) (g.K.Sink.held c.loop-line.sink) (g.K.Sink.held c.finish.new.sink) c.loop-line.gathered.items c.deref.result.now more (run_of c.args.lines.now) c.loop-line.invariant.runs (ap (λ run. run.text) bad ∙ sym last) c.finish.ensures.part

pub returns-in_err-print-clause-part : goal.returns-in_err-print-clause-part
returns-in_err-print-clause-part g c =
    let more : Run = run_from c.loop-line.number c.loop-line.script (script_lines c.loop-line.rest.now) in
    let later : Run = run_from (c.loop-line.number + 1) c.run_line.new.self (script_lines c.in-Some.after.now) in
    let said : Some c.in-Some-2.reply.now ≡ reply_of (effect_of c.loop-line.script c.in-Some.line.now) = rw c.in-Some-2.is at c.in_ok-reply.ensures.reply in
    let same : more ≡ says c.in-Some-2.reply.now later =
    ap (run_from c.loop-line.number c.loop-line.script) c.in-Some.ensures.lines ∙ run_from-says c.loop-line.number c.loop-line.script c.run_line.new.self c.in-Some.line.now (script_lines c.in-Some.after.now) c.in-Some-2.reply.now said c.in_ok-reply.ensures.after in
    Runs-part (g.K.Sink.held c.args.sink.now) (g.K.Sink.held c.loop-line.sink) (g.K.Sink.held c.print.new.sink) c.loop-line.gathered.items c.in-Some-2.reply.now more later (run_of c.args.lines.now) c.loop-line.invariant.runs same c.print.ensures.part

pub loop-line-preserved : goal.loop-line-preserved
loop-line-preserved g c =
    let more : Run = run_from c.loop-line.number c.loop-line.script (script_lines c.loop-line.rest.now) in
    let later : Run = run_from (c.loop-line.number + 1) c.run_line.new.self (script_lines c.in-Some.after.now) in
    let said : Some c.in-Some-2.reply.now ≡ reply_of (effect_of c.loop-line.script c.in-Some.line.now) = rw c.in-Some-2.is at c.in_ok-reply.ensures.reply in
    let same : more ≡ says c.in-Some-2.reply.now later =
    ap (run_from c.loop-line.number c.loop-line.script) c.in-Some.ensures.lines ∙ run_from-says c.loop-line.number c.loop-line.script c.run_line.new.self c.in-Some.line.now (script_lines c.in-Some.after.now) c.in-Some-2.reply.now said c.in_ok-reply.ensures.after in
    record {
      runs = Runs-more (g.K.Sink.held c.args.sink.now) (g.K.Sink.held c.loop-line.sink) (g.K.Sink.held c.print.new.sink) c.loop-line.gathered.items c.print.new.gathered.items c.in-Some-2.reply.now more later (run_of c.args.lines.now) c.loop-line.invariant.runs same c.in_ok-print.ensures.ok;
      later = omega (arith, c.print.ensures.later);
      written = c.print.ensures.quiet.stays (λ is. cc) ∙ c.loop-line.invariant.written;
      counted = omega (arith, c.in-Some.ensures.shorter);
    }

pub returns-in_err-finish-2-clause-part : goal.returns-in_err-finish-2-clause-part
returns-in_err-finish-2-clause-part g c =
    let more : Run = run_from c.loop-line.number c.loop-line.script (script_lines c.loop-line.rest.now) in
    let over : more ≡ run_from c.loop-line.number c.loop-line.script [] =
    ap (λ (rest : List ℕ). run_from c.loop-line.number c.loop-line.script (script_lines rest)) (c.in_default.ensures.none.0 refl) ∙ ap (run_from c.loop-line.number c.loop-line.script) script_lines-nil in
    Runs-last (g.K.Sink.held c.args.sink.now) (g.K.Sink.held c.loop-line.sink) (g.K.Sink.held c.finish-2.new.sink) c.loop-line.gathered.items [] more (run_of c.args.lines.now) c.loop-line.invariant.runs (ap (λ run. run.text) over) c.finish-2.ensures.part

pub returns-clause-whole : goal.returns-clause-whole
returns-clause-whole g c =
    let more : Run = run_from c.loop-line.number c.loop-line.script (script_lines c.loop-line.rest.now) in
    let over : more ≡ run_from c.loop-line.number c.loop-line.script [] =
    ap (λ (rest : List ℕ). run_from c.loop-line.number c.loop-line.script (script_lines rest)) (c.in_default.ensures.none.0 refl) ∙ ap (run_from c.loop-line.number c.loop-line.script) script_lines-nil in
    Runs-all (g.K.Sink.held c.args.sink.now) (g.K.Sink.held c.loop-line.sink) (g.K.Sink.held c.finish-2.new.sink) c.loop-line.gathered.items [] more (run_of c.args.lines.now) c.loop-line.invariant.runs (ap (λ run. run.text) over) c.in_ok-finish-2.ensures.ok

pub returns-clause-status : goal.returns-clause-status
returns-clause-status g c =
    let more : Run = run_from c.loop-line.number c.loop-line.script (script_lines c.loop-line.rest.now) in
    let over : more ≡ run_from c.loop-line.number c.loop-line.script [] =
    ap (λ (rest : List ℕ). run_from c.loop-line.number c.loop-line.script (script_lines rest)) (c.in_default.ensures.none.0 refl) ∙ ap (run_from c.loop-line.number c.loop-line.script) script_lines-nil in
    sym (ap (λ run. run.status) over) ∙ c.loop-line.invariant.runs.status

pub returns-clause-part : goal.returns-clause-part
returns-clause-part g c =
    let more : Run = run_from c.loop-line.number c.loop-line.script (script_lines c.loop-line.rest.now) in
    let over : more ≡ run_from c.loop-line.number c.loop-line.script [] =
    ap (λ (rest : List ℕ). run_from c.loop-line.number c.loop-line.script (script_lines rest)) (c.in_default.ensures.none.0 refl) ∙ ap (run_from c.loop-line.number c.loop-line.script) script_lines-nil in
    Runs-last (g.K.Sink.held c.args.sink.now) (g.K.Sink.held c.loop-line.sink) (g.K.Sink.held c.finish-2.new.sink) c.loop-line.gathered.items [] more (run_of c.args.lines.now) c.loop-line.invariant.runs (ap (λ run. run.text) over) c.finish-2.ensures.part

pub returns-in_default-2-clause-whole : goal.returns-in_default-2-clause-whole
returns-in_default-2-clause-whole g c =
    let more : Run = run_from c.loop-line.number c.loop-line.script (script_lines c.loop-line.rest.now) in
    let said : None ≡ reply_of (effect_of c.loop-line.script c.in-Some.line.now) = rw c.in_default-2.is at c.in_ok-reply.ensures.reply in
    let bad : more ≡ ends_badly c.loop-line.number c.loop-line.script =
    ap (run_from c.loop-line.number c.loop-line.script) c.in-Some.ensures.lines ∙ run_from-bad c.loop-line.number c.loop-line.script c.in-Some.line.now (script_lines c.in-Some.after.now) said in
    let last : c.deref.result.now ≡ bad_line c.loop-line.number = c.deref.ensures.value ∙ c.in_ok-last.ensures in
    Runs-all (g.K.Sink.held c.args.sink.now) (g.K.Sink.held c.loop-line.sink) (g.K.Sink.held c.finish.new.sink) c.loop-line.gathered.items c.deref.result.now more (run_of c.args.lines.now) c.loop-line.invariant.runs (ap (λ run. run.text) bad ∙ sym last) c.in_ok-finish.ensures.ok

pub returns-in_default-2-clause-status : goal.returns-in_default-2-clause-status
returns-in_default-2-clause-status g c =
    let more : Run = run_from c.loop-line.number c.loop-line.script (script_lines c.loop-line.rest.now) in
    let said : None ≡ reply_of (effect_of c.loop-line.script c.in-Some.line.now) = rw c.in_default-2.is at c.in_ok-reply.ensures.reply in
    let bad : more ≡ ends_badly c.loop-line.number c.loop-line.script =
    ap (run_from c.loop-line.number c.loop-line.script) c.in-Some.ensures.lines ∙ run_from-bad c.loop-line.number c.loop-line.script c.in-Some.line.now (script_lines c.in-Some.after.now) said in
    sym (ap (λ run. run.status) bad) ∙ c.loop-line.invariant.runs.status
