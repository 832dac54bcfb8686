use Rattle.std.proofs.Common.{◌≡◌, ◌≢◌, ◌≤◌, ◌<◌, [], None, Some, arith, length, refl, subst, sym, true, ap, ◌∙◌}
use Rattle.up_calls.proofs.AsksLemmas.{Tries-Asks, Tries-trans}
use Rattle.up_calls.proofs.GatherLemmas.{gathered_none, stays_same, stays_trans}
use Rattle.up_calls.proofs.KeptLemmas.{kept_next}
use Rattle.up_calls.proofs.RoundLemmas.{needed_new, round_few, round_grows}
use Rattle.up_calls.proofs.ShownLemmas.{all_joined, but_after, but_none, io_said, not_said}
use Rattle.up_calls.proofs.TurnLemmas.{answered, own_quiet, round_gathered, round_made, rounds_none, some_later}
use Rattle.up_answers.specs.Fetching.{Fetched}
use Rattle.up_calls.proofs.CameLemmas.{on_err_now}
use Rattle.up_calls.specs.Answered.{TreeAnswered}
use Rattle.up_calls.specs.Gathered.{Gathered, HasRounds, IsWanted}
use Rattle.up_calls.specs.Kept.{KeepsSeen}
use Rattle.up_calls.specs.Loads.{group_answer, group_question, load_failed}
use Rattle.up_calls.specs.Rounds.{IsMissing, bound}
use Rattle.up_calls.specs.Routes.{LogName, Question}
use Rattle.up_calls.specs.Told.{TreeTold, answered_at, tells_io}
use Rattle.up_calls.specs.Views.{log_after}
use Rattle.up_calls.specs.declared.event.Event.{Event}
use Rattle.up_calls.specs.declared.logs.Turn.TheVariants as turn
use Rattle.up_policy.specs.Loadings.{Loading}
use Rattle.up_wire.specs.declared.replies.Reply.TheVariants as reply
use Rattle.up_calls.proofs.asked.ask_loaded.Goals as goal

less : (loaded : Loading) → length loaded ≤ bound → length loaded ≢ bound → length loaded < bound
less loaded few room = omega (arith, few, room)

pub loop-reply-init : goal.loop-reply-init
loop-reply-init g c =
    let who = Some (LogName.OfTree c.args.owner.now) in
    let q : Question = record { user = c.args.user.now; request = c.args.request.now } in
    let op = g.B.Logs.operator_of c.args.logs.now in
    let a = g.B.Logs.views c.args.logs.now in
    let none : c.new-loaded.result ≡ [] = c.new-loaded.ensures in
    record {
      gathered = subst (λ l. Gathered g.L.Loader op a a (IsWanted a a c.args.owner.now q) c.args.loader.now c.args.loader.now [] l) (sym none)
          (gathered_none g.L.Loader op g.met.L.Loader.same a a (IsWanted a a c.args.owner.now q) c.args.loader.now []);
      rounds = subst (λ l. HasRounds a a c.args.owner.now q l) (sym none) (rounds_none a c.args.owner.now q c.requires.there);
      few = subst (λ l. length l ≤ bound) (sym none) (omega arith);
      own = stays_same None a;
      quiet = record { all = λ log. g.met.B.Logs.quiet_same log c.args.logs.now };
      tie = g.met.B.Logs.wider who c.args.logs.now c.args.logs.now (g.met.B.Logs.same c.args.logs.now);
      fetched = refl;
      there = c.requires.there;
      kept = subst (λ l. KeepsSeen (a.tree c.args.owner.now) l c.args.kept.now) (sym none) c.requires.kept;
    }

pub ask_tree-requires-clause-ready : goal.ask_tree-requires-clause-ready
ask_tree-requires-clause-ready g c = g.met.B.Logs.still (Some (LogName.OfTree c.args.owner.now)) c.args.logs.now c.loop-reply.logs c.loop-reply.invariant.tie c.requires.ready

pub loop-reply-preserved : goal.loop-reply-preserved
loop-reply-preserved g c =
    let who = Some (LogName.OfTree c.args.owner.now) in
    let q : Question = record { user = c.args.user.now; request = c.args.request.now } in
    let op = g.B.Logs.operator_of c.args.logs.now in
    let a = g.B.Logs.views c.args.logs.now in
    let b = g.B.Logs.views c.loop-reply.logs in
    let d = g.B.Logs.views c.ask_tree.new.self in
    let e = g.B.Logs.views c.gather_round.new.logs in
    let to = g.met.B.Logs.later who c.args.logs.now c.loop-reply.logs c.loop-reply.invariant.tie in
    let on = g.met.B.Logs.later who c.loop-reply.logs c.ask_tree.new.self c.ask_tree.ensures.tie in
    let past = g.met.B.Logs.later None c.ask_tree.new.self c.gather_round.new.logs c.gather_round.ensures.tie in
    let names = c.in-Missing.missing in
    let told = subst (TreeTold (g.B.Logs.rises (LogName.OfTree c.args.owner.now) c.loop-reply.logs c.ask_tree.new.self) b d c.args.owner.now q c.loop-reply.loaded c.loop-reply.fetched c.args.now) c.in-Missing.is c.ask_tree.ensures.told in
    let same = g.met.B.Logs.asks_as who c.args.logs.now c.ask_tree.new.self (g.met.B.Logs.joined who c.args.logs.now c.loop-reply.logs c.ask_tree.new.self c.loop-reply.invariant.tie c.ask_tree.ensures.tie) in
    let gathered = subst (λ o. Gathered g.L.Loader o d e (IsMissing names) c.loop-reply.loader c.gather_round.new.loader c.loop-reply.loaded c.gather_round.new.loaded) same c.in_ok-gather_round-in-Missing.ensures.gathered in
    record {
      gathered = round_gathered g.L.Loader g.met.L.Loader.joined op c.args.owner.now q a b d e told.v told.w to on past told.before told.after c.args.loader.now c.loop-reply.loader c.gather_round.new.loader c.loop-reply.loaded c.gather_round.new.loaded names told.told.0
          c.loop-reply.invariant.gathered gathered;
      rounds = round_made a b d e c.args.owner.now q told.v told.w to on past told.before told.after c.loop-reply.loaded c.gather_round.new.loaded names (less c.loop-reply.loaded c.loop-reply.invariant.few told.told.0.few) told.told.0 c.in_ok-gather_round-in-Missing.ensures.round c.loop-reply.invariant.rounds;
      few = round_few names c.loop-reply.loaded c.gather_round.new.loaded c.loop-reply.invariant.few c.in_ok-gather_round-in-Missing.ensures.round;
      own = stays_trans None a b e c.loop-reply.invariant.own
          (stays_trans None b d e (own_quiet b d c.args.owner.now told.v told.w told.before told.after (g.met.B.Logs.stays who c.loop-reply.logs c.ask_tree.new.self c.ask_tree.ensures.tie) told.told.1)
          (g.met.B.Logs.stays None c.ask_tree.new.self c.gather_round.new.logs c.gather_round.ensures.tie));
      quiet = all_joined g.B.Logs.quiet g.met.B.Logs.quiet_joined c.args.logs.now c.ask_tree.new.self c.gather_round.new.logs
          (all_joined g.B.Logs.quiet g.met.B.Logs.quiet_joined c.args.logs.now c.loop-reply.logs c.ask_tree.new.self c.loop-reply.invariant.quiet
          (but_none (λ log. g.B.Logs.quiet log c.loop-reply.logs c.ask_tree.new.self) (LogName.OfTree c.args.owner.now) (tells_io c.ask_tree.result ≡ true) c.ask_tree.ensures.quiet
          (not_said c.ask_tree.result (turn.Missing c.in-Missing.missing) c.in-Missing.is refl)))
          c.gather_round.ensures.quiet;
      tie = g.met.B.Logs.joined who c.args.logs.now c.ask_tree.new.self c.gather_round.new.logs
          (g.met.B.Logs.joined who c.args.logs.now c.loop-reply.logs c.ask_tree.new.self c.loop-reply.invariant.tie c.ask_tree.ensures.tie)
          (g.met.B.Logs.wider who c.ask_tree.new.self c.gather_round.new.logs c.gather_round.ensures.tie);
      fetched = c.loop-reply.invariant.fetched;
      there = some_later (d.tree c.args.owner.now) (e.tree c.args.owner.now) (past.trees c.args.owner.now)
          (some_later (b.tree c.args.owner.now) (d.tree c.args.owner.now) (on.trees c.args.owner.now) c.loop-reply.invariant.there);
      kept = kept_next (d.tree c.args.owner.now) (e.tree c.args.owner.now) names c.ask_tree.result c.loop-reply.loaded c.in_ok-gather_round-in-Missing.ensures.round.round c.gather_round.new.loaded c.ask_tree.new.kept c.in-Missing.is c.ask_tree.ensures.kept
          (past.trees c.args.owner.now) c.in_ok-gather_round-in-Missing.ensures.round.whole;
    }

pub loop-reply-smaller : goal.loop-reply-smaller
loop-reply-smaller g c =
    let q : Question = record { user = c.args.user.now; request = c.args.request.now } in
    let told = subst (TreeTold (g.B.Logs.rises (LogName.OfTree c.args.owner.now) c.loop-reply.logs c.ask_tree.new.self) (g.B.Logs.views c.loop-reply.logs) (g.B.Logs.views c.ask_tree.new.self) c.args.owner.now q c.loop-reply.loaded c.loop-reply.fetched c.args.now) c.in-Missing.is c.ask_tree.ensures.told in
    let round = c.in_ok-gather_round-in-Missing.ensures.round in
    let more = round_grows c.in-Missing.missing c.loop-reply.loaded c.gather_round.new.loaded told.told.0.some c.loop-reply.invariant.few told.told.0.few round in
    let few = round_few c.in-Missing.missing c.loop-reply.loaded c.gather_round.new.loaded c.loop-reply.invariant.few round in
    omega (arith, more, few)

pub gather_round-requires-clause-ready : goal.gather_round-requires-clause-ready
gather_round-requires-clause-ready g c =
    let who = Some (LogName.OfTree c.args.owner.now) in
    g.met.B.Logs.still who c.args.logs.now c.ask_tree.new.self (g.met.B.Logs.joined who c.args.logs.now c.loop-reply.logs c.ask_tree.new.self c.loop-reply.invariant.tie c.ask_tree.ensures.tie) c.requires.ready

pub gather_round-requires-clause-new : goal.gather_round-requires-clause-new
gather_round-requires-clause-new g c =
    let q : Question = record { user = c.args.user.now; request = c.args.request.now } in
    let told = subst (TreeTold (g.B.Logs.rises (LogName.OfTree c.args.owner.now) c.loop-reply.logs c.ask_tree.new.self) (g.B.Logs.views c.loop-reply.logs) (g.B.Logs.views c.ask_tree.new.self) c.args.owner.now q c.loop-reply.loaded c.loop-reply.fetched c.args.now) c.in-Missing.is c.ask_tree.ensures.told in
    needed_new (log_after told.w told.told.0.position) c.args.user.now c.args.request.now c.in-Missing.missing c.loop-reply.loaded told.told.0.needed

pub returns-in-Said-clause-answered : goal.returns-in-Said-clause-answered
returns-in-Said-clause-answered g c =
    let who = Some (LogName.OfTree c.args.owner.now) in
    let q : Question = record { user = c.args.user.now; request = c.args.request.now } in
    let a = g.B.Logs.views c.args.logs.now in
    let b = g.B.Logs.views c.loop-reply.logs in
    let d = g.B.Logs.views c.ask_tree.new.self in
    let told = subst (TreeTold (g.B.Logs.rises (LogName.OfTree c.args.owner.now) c.loop-reply.logs c.ask_tree.new.self) b d c.args.owner.now q c.loop-reply.loaded c.loop-reply.fetched c.args.now) c.in-Said.is c.ask_tree.ensures.told in
    let e : Event = record { reply = c.in-Said.reply; position = c.in-Said.position; loaded = c.loop-reply.loaded; fetched = c.loop-reply.fetched; moment = c.args.now } in
    let rises = g.B.Logs.rises (LogName.OfTree c.args.owner.now) c.args.logs.now c.ask_tree.new.self in
    subst (λ (f : Fetched). TreeAnswered g.L.Loader (g.B.Logs.operator_of c.args.logs.now) rises a d c.args.owner.now q c.args.loader.now c.loop-reply.loader f c.args.now e) c.loop-reply.invariant.fetched
    (answered g.L.Loader (g.B.Logs.operator_of c.args.logs.now) c.args.owner.now q c.loop-reply.fetched c.args.now
    (λ h. g.met.B.Logs.rises_within (LogName.OfTree c.args.owner.now) who c.args.logs.now c.loop-reply.logs c.ask_tree.new.self c.ask_tree.new.self c.loop-reply.invariant.tie h (g.met.B.Logs.wider who c.ask_tree.new.self c.ask_tree.new.self (g.met.B.Logs.same c.ask_tree.new.self)))
    a b d (g.met.B.Logs.later who c.args.logs.now c.loop-reply.logs c.loop-reply.invariant.tie) (g.met.B.Logs.later who c.loop-reply.logs c.ask_tree.new.self c.ask_tree.ensures.tie)
    c.args.loader.now c.loop-reply.loader c.loop-reply.loaded c.in-Said.reply c.in-Said.position told
    c.loop-reply.invariant.own c.loop-reply.invariant.gathered c.loop-reply.invariant.rounds c.loop-reply.invariant.few c.len-names.ensures.names)

pub returns-in-Said-clause-quiet : goal.returns-in-Said-clause-quiet
returns-in-Said-clause-quiet g c =
    but_after g.B.Logs.quiet g.met.B.Logs.quiet_joined c.args.logs.now c.loop-reply.logs c.ask_tree.new.self (LogName.OfTree c.args.owner.now) (tells_io c.ask_tree.result ≡ true) (c.in-Said.reply ≡ reply.Io)
    c.loop-reply.invariant.quiet c.ask_tree.ensures.quiet (λ io. io_said c.in-Said.reply c.in-Said.position (sym (ap tells_io c.in-Said.is) ∙ io))

pub returns-in-Said-clause-left : goal.returns-in-Said-clause-left
returns-in-Said-clause-left g c =
    g.met.B.Logs.left_since (LogName.OfTree c.args.owner.now) c.in-Said.position c.args.logs.now c.loop-reply.logs c.ask_tree.new.self c.loop-reply.invariant.tie c.loop-reply.invariant.own
    (subst (λ came. answered_at came (λ n. g.B.Logs.left (LogName.OfTree c.args.owner.now) n c.loop-reply.logs c.ask_tree.new.self)) c.in-Said.is c.ask_tree.ensures.left)

pub returns-in-Said-clause-tie : goal.returns-in-Said-clause-tie
returns-in-Said-clause-tie g c =
    g.met.B.Logs.joined (Some (LogName.OfTree c.args.owner.now)) c.args.logs.now c.loop-reply.logs c.ask_tree.new.self c.loop-reply.invariant.tie c.ask_tree.ensures.tie

pub returns-in_err-gather_round-in-Missing-clause-wanting : goal.returns-in_err-gather_round-in-Missing-clause-wanting
returns-in_err-gather_round-in-Missing-clause-wanting g c =
    let who = Some (LogName.OfTree c.args.owner.now) in
    let q : Question = record { user = c.args.user.now; request = c.args.request.now } in
    let a = g.B.Logs.views c.args.logs.now in
    let b = g.B.Logs.views c.loop-reply.logs in
    let d = g.B.Logs.views c.ask_tree.new.self in
    let e = g.B.Logs.views c.gather_round.new.logs in
    let told = subst (TreeTold (g.B.Logs.rises (LogName.OfTree c.args.owner.now) c.loop-reply.logs c.ask_tree.new.self) b d c.args.owner.now q c.loop-reply.loaded c.loop-reply.fetched c.args.now) c.in-Missing.is c.ask_tree.ensures.told in
    on_err_now _ (stays_trans None a b e c.loop-reply.invariant.own
    (stays_trans None b d e (own_quiet b d c.args.owner.now told.v told.w told.before told.after (g.met.B.Logs.stays who c.loop-reply.logs c.ask_tree.new.self c.ask_tree.ensures.tie) told.told.1)
    (g.met.B.Logs.stays None c.ask_tree.new.self c.gather_round.new.logs c.gather_round.ensures.tie)))

pub returns-in_err-gather_round-in-Missing-clause-calm : goal.returns-in_err-gather_round-in-Missing-clause-calm
returns-in_err-gather_round-in-Missing-clause-calm g c =
    on_err_now _ (all_joined g.B.Logs.quiet g.met.B.Logs.quiet_joined c.args.logs.now c.ask_tree.new.self c.gather_round.new.logs
    (all_joined g.B.Logs.quiet g.met.B.Logs.quiet_joined c.args.logs.now c.loop-reply.logs c.ask_tree.new.self c.loop-reply.invariant.quiet
    (but_none (λ log. g.B.Logs.quiet log c.loop-reply.logs c.ask_tree.new.self) (LogName.OfTree c.args.owner.now) (tells_io c.ask_tree.result ≡ true) c.ask_tree.ensures.quiet
    (not_said c.ask_tree.result (turn.Missing c.in-Missing.missing) c.in-Missing.is refl)))
    c.gather_round.ensures.quiet)

pub returns-in_err-gather_round-in-Missing-clause-tie : goal.returns-in_err-gather_round-in-Missing-clause-tie
returns-in_err-gather_round-in-Missing-clause-tie g c =
    let who = Some (LogName.OfTree c.args.owner.now) in
    g.met.B.Logs.joined who c.args.logs.now c.ask_tree.new.self c.gather_round.new.logs
    (g.met.B.Logs.joined who c.args.logs.now c.loop-reply.logs c.ask_tree.new.self c.loop-reply.invariant.tie c.ask_tree.ensures.tie)
    (g.met.B.Logs.wider who c.ask_tree.new.self c.gather_round.new.logs c.gather_round.ensures.tie)

pub returns-in_err-gather_round-in-Missing-clause-tried : goal.returns-in_err-gather_round-in-Missing-clause-tried
returns-in_err-gather_round-in-Missing-clause-tried g c =
    Tries-trans g.L.Loader.loads g.L.Loader.faults g.L.Loader.tied g.met.L.Loader.joined c.args.loader.now c.loop-reply.loader c.gather_round.new.loader
    (Tries-Asks g.L.Loader.loads g.L.Loader.faults g.L.Loader.tied load_failed (group_question (g.B.Logs.operator_of c.args.logs.now) (g.B.Logs.views c.args.logs.now)) (group_answer (g.B.Logs.views c.args.logs.now)) c.args.loader.now c.loop-reply.loader
    c.loop-reply.invariant.gathered.more c.loop-reply.invariant.gathered.asks)
    c.gather_round.ensures.tried

pub returns-in-Wanting-clause-wanting : goal.returns-in-Wanting-clause-wanting
returns-in-Wanting-clause-wanting g c =
    let who = Some (LogName.OfTree c.args.owner.now) in
    let q : Question = record { user = c.args.user.now; request = c.args.request.now } in
    let a = g.B.Logs.views c.args.logs.now in
    let b = g.B.Logs.views c.loop-reply.logs in
    let d = g.B.Logs.views c.ask_tree.new.self in
    let told = subst (TreeTold (g.B.Logs.rises (LogName.OfTree c.args.owner.now) c.loop-reply.logs c.ask_tree.new.self) b d c.args.owner.now q c.loop-reply.loaded c.loop-reply.fetched c.args.now) c.in-Wanting.is c.ask_tree.ensures.told in
    stays_trans None a b d c.loop-reply.invariant.own (own_quiet b d c.args.owner.now told.v told.w told.before told.after (g.met.B.Logs.stays who c.loop-reply.logs c.ask_tree.new.self c.ask_tree.ensures.tie) told.told)

pub returns-in-Wanting-clause-calm : goal.returns-in-Wanting-clause-calm
returns-in-Wanting-clause-calm g c =
    all_joined g.B.Logs.quiet g.met.B.Logs.quiet_joined c.args.logs.now c.loop-reply.logs c.ask_tree.new.self c.loop-reply.invariant.quiet
    (but_none (λ log. g.B.Logs.quiet log c.loop-reply.logs c.ask_tree.new.self) (LogName.OfTree c.args.owner.now) (tells_io c.ask_tree.result ≡ true) c.ask_tree.ensures.quiet
    (not_said c.ask_tree.result turn.Wanting c.in-Wanting.is refl))

pub returns-in-Wanting-clause-tie : goal.returns-in-Wanting-clause-tie
returns-in-Wanting-clause-tie g c =
    g.met.B.Logs.joined (Some (LogName.OfTree c.args.owner.now)) c.args.logs.now c.loop-reply.logs c.ask_tree.new.self c.loop-reply.invariant.tie c.ask_tree.ensures.tie
