-- Each exit of the loop, by the invariant and what the last call wrote.
use Rattle.std.proofs.Common.{◌≡◌, ℕ, ◌+◌, List, [], ◌∷◌, refl, sym, ap, subst, ◌∙◌, append-nil, arith}
use Rattle.std.proofs.lemmas.Result.{err_from_is_err_and}
use Rattle.up_command.specs.Statuses.{IsOneOf, code_by, code_of}
use Rattle.up_ends.proofs.Going.{WritesPart-none}
use Rattle.up_ends.specs.Writing.{WritesPart}
use Rattle.up_text.specs.Lines.{script_lines}
use Rattle.up_explain_can.specs.Explaining.{bad_from}
use Rattle.up_explain_can.proofs.TellingLemmas.{Telling, Telling-none, bad_nil, cut_by, cut_short, ended_well, flushed, kind_behind, told}
use Rattle.up_explain_can.proofs.explaining.explain_lines.Goals as goal

pub loop-line-init : goal.loop-line-init
loop-line-init g c =
    let all : List ℕ = bad_from g.J.Judge.step 1 c.args.judge.now (script_lines c.args.lines.now) in
    let held = g.K.Sink.held c.args.sink.now in
    record {
      telling = subst (λ xs. Telling all all held held xs 0) (sym c.new-gathered.ensures.items) (Telling-none all held);
      later = omega arith;
      written = refl;
      counted = omega arith;
      kind = refl;
    }

pub returns-in_err-good-clause-explains : goal.returns-in_err-good-clause-explains
returns-in_err-good-clause-explains g c =
    let p = err_from_is_err_and c.from_residual.result c.from_residual.ensures.1 in
    cut_short (code_by c.from_residual.result) (cut_by c.from_residual.result p.0 p.1) c.loop-line.invariant.telling (WritesPart-none (g.K.Sink.held c.loop-line.sink) c.loop-line.gathered.items)

pub returns-in_err-flush-clause-explains : goal.returns-in_err-flush-clause-explains
returns-in_err-flush-clause-explains g c =
    let step = g.J.Judge.step in
    let all : List ℕ = bad_from step 1 c.args.judge.now (script_lines c.args.lines.now) in
    let here : Telling all (bad_from step c.loop-line.number c.loop-line.judge (c.in-Some.line.now ∷ script_lines c.in-Some.after.now)) (g.K.Sink.held c.args.sink.now) (g.K.Sink.held c.loop-line.sink) c.loop-line.gathered.items (code_of c.loop-line.status) =
    subst (λ lines. Telling all (bad_from step c.loop-line.number c.loop-line.judge lines) (g.K.Sink.held c.args.sink.now) (g.K.Sink.held c.loop-line.sink) c.loop-line.gathered.items (code_of c.loop-line.status)) c.in-Some.ensures.lines c.loop-line.invariant.telling in
    let after = told step c.loop-line.number c.loop-line.judge c.explain_line.new.judge c.in-Some.line.now (script_lines c.in-Some.after.now) c.in_ok-good.good here c.in_ok-good.ensures in
    let p = err_from_is_err_and c.from_residual-in_err-flush.result c.from_residual-in_err-flush.ensures.1 in
    cut_short (code_by c.from_residual-in_err-flush.result) (cut_by c.from_residual-in_err-flush.result p.0 p.1) after c.flush.ensures.part

pub loop-line-preserved : goal.loop-line-preserved
loop-line-preserved g c =
    let step = g.J.Judge.step in
    let all : List ℕ = bad_from step 1 c.args.judge.now (script_lines c.args.lines.now) in
    let more : List ℕ = bad_from step (c.loop-line.number + 1) c.explain_line.new.judge (script_lines c.in-Some.after.now) in
    let here : Telling all (bad_from step c.loop-line.number c.loop-line.judge (c.in-Some.line.now ∷ script_lines c.in-Some.after.now)) (g.K.Sink.held c.args.sink.now) (g.K.Sink.held c.loop-line.sink) c.loop-line.gathered.items (code_of c.loop-line.status) =
    subst (λ lines. Telling all (bad_from step c.loop-line.number c.loop-line.judge lines) (g.K.Sink.held c.args.sink.now) (g.K.Sink.held c.loop-line.sink) c.loop-line.gathered.items (code_of c.loop-line.status)) c.in-Some.ensures.lines c.loop-line.invariant.telling in
    let after = told step c.loop-line.number c.loop-line.judge c.explain_line.new.judge c.in-Some.line.now (script_lines c.in-Some.after.now) c.in_ok-good.good here c.in_ok-good.ensures in
    record {
      telling = subst (λ code. Telling all more (g.K.Sink.held c.args.sink.now) (g.K.Sink.held c.flush.new.sink) c.flush.new.gathered.items code) (sym c.status_behind-status.ensures) (flushed after c.in_ok-flush.ensures.ok);
      later = omega (arith, c.loop-line.invariant.later, c.flush.ensures.later);
      written = c.flush.ensures.quiet.stays (λ is. cc) ∙ c.loop-line.invariant.written;
      counted = omega (arith, c.loop-line.invariant.counted, c.in-Some.ensures.shorter);
      kind = subst (IsOneOf (0 ∷ 1 ∷ [])) (sym c.status_behind-status.ensures) (kind_behind (code_of c.loop-line.status) c.in_ok-good.good c.loop-line.invariant.kind);
    }

pub returns-in_err-finish-clause-explains : goal.returns-in_err-finish-clause-explains
returns-in_err-finish-clause-explains g c =
    let p = err_from_is_err_and c.from_residual-in_err-finish.result c.from_residual-in_err-finish.ensures.1 in
    cut_short (code_by c.from_residual-in_err-finish.result) (cut_by c.from_residual-in_err-finish.result p.0 p.1) c.loop-line.invariant.telling
    (subst (λ xs. WritesPart (g.K.Sink.held c.loop-line.sink) (g.K.Sink.held c.finish.new.sink) xs) (append-nil c.loop-line.gathered.items) c.finish.ensures.part)

pub returns-clause-explains : goal.returns-clause-explains
returns-clause-explains g c =
    let step = g.J.Judge.step in
    let over : bad_from step c.loop-line.number c.loop-line.judge (script_lines c.loop-line.rest.now) ≡ [] =
    ap (bad_from step c.loop-line.number c.loop-line.judge) c.in_default.ensures.no_line ∙ bad_nil step c.loop-line.number c.loop-line.judge in
    ended_well c.loop-line.invariant.telling over c.in_ok-finish.ensures.ok
