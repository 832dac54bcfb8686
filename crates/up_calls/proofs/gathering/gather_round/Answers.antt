use Rattle.std.proofs.Common.{◌≡◌, ◌≢◌, ◌∷◌, [], Some, None, ap, arith, length, length-append, slice_get, sym, ◌∙◌}
use Rattle.std.specs.Option.{option_copied}
use Rattle.up_calls.proofs.AsksLemmas.{Tries-Asks, Tries-trans}
use Rattle.up_calls.proofs.GatherLemmas.{adds_of, gathered_adds, gathered_none, gathered_trans}
use Rattle.up_calls.proofs.RoundLemmas.{adds_next, adds_none, missing_still, new_still}
use Rattle.up_calls.proofs.ShownLemmas.{all_joined}
use Rattle.up_calls.specs.Loads.{group_answer, group_question, load_failed}
use Rattle.up_calls.specs.Rounds.{IsMissing}
use Rattle.up_calls.proofs.gathering.gather_round.Goals as goal

pub loop-i-init : goal.loop-i-init
loop-i-init g c = record {
  gathered = gathered_none g.L.Loader (g.B.Logs.operator_of c.args.logs.now) g.met.L.Loader.same (g.B.Logs.views c.args.logs.now) (g.B.Logs.views c.args.logs.now) (IsMissing c.args.missing.now) c.args.loader.now c.args.loaded.now;
  adds = adds_none c.args.missing.now c.args.loaded.now;
  few = c.requires.few;
  quiet = record { all = λ log. g.met.B.Logs.quiet_same log c.args.logs.now };
  tie = g.met.B.Logs.same c.args.logs.now;
}

pub gather_new-requires-clause-ready : goal.gather_new-requires-clause-ready
gather_new-requires-clause-ready g c = g.met.B.Logs.still None c.args.logs.now c.loop-i.logs c.loop-i.invariant.tie c.requires.ready

pub gather_new-requires-clause-new : goal.gather_new-requires-clause-new
gather_new-requires-clause-new g c =
    let at : slice_get c.args.missing.now c.loop-i.i ≡ Some c.in-Some.name.now = sym c.get.ensures ∙ ap option_copied c.in-Some.is in
    new_still c.args.missing.now c.loop-i.i c.in-Some.name.now c.args.loaded.now c.loop-i.loaded c.len-count.ensures.names c.requires.new c.loop-i.invariant.adds at

pub returns-in_err-gather_new-clause-tie : goal.returns-in_err-gather_new-clause-tie
returns-in_err-gather_new-clause-tie g c = g.met.B.Logs.joined None c.args.logs.now c.loop-i.logs c.gather_new.new.logs c.loop-i.invariant.tie c.gather_new.ensures.tie

pub returns-in_err-gather_new-clause-quiet : goal.returns-in_err-gather_new-clause-quiet
returns-in_err-gather_new-clause-quiet g c =
    all_joined g.B.Logs.quiet g.met.B.Logs.quiet_joined c.args.logs.now c.loop-i.logs c.gather_new.new.logs c.loop-i.invariant.quiet c.gather_new.ensures.quiet

pub returns-in_err-gather_new-clause-tried : goal.returns-in_err-gather_new-clause-tried
returns-in_err-gather_new-clause-tried g c =
    Tries-trans g.L.Loader.loads g.L.Loader.faults g.L.Loader.tied g.met.L.Loader.joined c.args.loader.now c.loop-i.loader c.gather_new.new.loader
    (Tries-Asks g.L.Loader.loads g.L.Loader.faults g.L.Loader.tied load_failed (group_question (g.B.Logs.operator_of c.args.logs.now) (g.B.Logs.views c.args.logs.now)) (group_answer (g.B.Logs.views c.args.logs.now)) c.args.loader.now c.loop-i.loader
    c.loop-i.invariant.gathered.more c.loop-i.invariant.gathered.asks)
    c.gather_new.ensures.tried

pub loop-i-preserved : goal.loop-i-preserved
loop-i-preserved g c =
    let op = g.B.Logs.operator_of c.args.logs.now in
    let a = g.B.Logs.views c.args.logs.now in
    let b = g.B.Logs.views c.loop-i.logs in
    let d = g.B.Logs.views c.gather_new.new.logs in
    let names = c.args.missing.now in
    let at : slice_get names c.loop-i.i ≡ Some c.in-Some.name.now = sym c.get.ensures ∙ ap option_copied c.in-Some.is in
    let one = adds_of g.L.Loader op (g.B.Logs.operator_of c.loop-i.logs) b d c.loop-i.loader c.gather_new.new.loader c.in-Some.name.now c.loop-i.loaded c.gather_new.new.loaded
    (g.met.B.Logs.asks_as None c.args.logs.now c.loop-i.logs c.loop-i.invariant.tie) c.in_ok-gather_new.ensures.adds in
    let long = ap length one.whole ∙ length-append c.loop-i.loaded ((c.in-Some.name.now, one.answer) ∷ []) in
    let full : length c.loop-i.loaded ≢ 1024 = omega (arith, c.if-len-eq-BOUND.false, c.len.ensures.len) in
    record {
      gathered = gathered_trans g.L.Loader op g.met.L.Loader.joined a b d (g.met.B.Logs.later None c.args.logs.now c.loop-i.logs c.loop-i.invariant.tie) (g.met.B.Logs.later None c.loop-i.logs c.gather_new.new.logs c.gather_new.ensures.tie)
          (IsMissing names) c.args.loader.now c.loop-i.loader c.gather_new.new.loader c.args.loaded.now c.loop-i.loaded c.gather_new.new.loaded c.loop-i.invariant.gathered
          (gathered_adds g.L.Loader g.met.L.Loader.same op b d (IsMissing names) c.loop-i.loader c.gather_new.new.loader c.in-Some.name.now c.loop-i.loaded c.gather_new.new.loaded
          (missing_still names c.loop-i.i c.in-Some.name.now c.args.loaded.now c.loop-i.loaded c.len-count.ensures.names c.requires.new c.loop-i.invariant.adds at) one);
      adds = adds_next names c.loop-i.i c.in-Some.name.now one.answer c.args.loaded.now c.loop-i.loaded c.gather_new.new.loaded at one.whole c.loop-i.invariant.adds;
      few = omega (arith, long, full, c.loop-i.invariant.few);
      quiet = all_joined g.B.Logs.quiet g.met.B.Logs.quiet_joined c.args.logs.now c.loop-i.logs c.gather_new.new.logs c.loop-i.invariant.quiet c.gather_new.ensures.quiet;
      tie = g.met.B.Logs.joined None c.args.logs.now c.loop-i.logs c.gather_new.new.logs c.loop-i.invariant.tie c.gather_new.ensures.tie;
    }
