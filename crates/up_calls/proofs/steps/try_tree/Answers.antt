use Rattle.std.proofs.Common.{ap, inl, refl, subst, sym, ◌∙◌}
use Rattle.up_answers.specs.Needs.{needs}
use Rattle.up_calls.proofs.KeptLemmas.{said_none}
use Rattle.up_calls.proofs.ReadLemmas.{needs_read}
use Rattle.up_calls.proofs.RoundLemmas.{is_whole, not_enough, not_full}
use Rattle.up_calls.proofs.StateLemmas.{tried_said}
use Rattle.up_calls.specs.Kept.{where_missing}
use Rattle.up_calls.specs.Routes.{Question}
use Rattle.up_calls.specs.Steps.{Tried}
use Rattle.up_dir.proofs.AskLemmas.{steps_asked}
use Rattle.up_dir.proofs.FormLemmas.{formed}
use Rattle.up_foreign.specs.Kept.{Keeps}
use Rattle.up_tree.specs.States.{log_of}
use Rattle.std.specs.Prelude.{length}
use Rattle.up_calls.proofs.steps.try_tree.Goals as goal

pub returns-in_default-clause-tried : goal.returns-in_default-clause-tried
returns-in_default-clause-tried g c = record { log = refl; stands = inl refl; quiet = refl }

pub returns-then-not-is_enough-clause-tried : goal.returns-then-not-is_enough-clause-tried
returns-then-not-is_enough-clause-tried g c =
    let test = sym c.is_enough.ensures ∙ c.if-not-is_enough.true in
    record {
      stays = refl;
      needed = c.in-Ok.ensures.needed ∙ sym (needs_read c.args.user.now c.args.request.now (log_of c.args.state.now) c.args.loaded.now c.args.asked.now c.requires.read);
      some = λ e. not_enough c.in-Ok.missing c.args.loaded.now test (ap length e);
      few = not_full c.in-Ok.missing c.args.loaded.now test;
    }

pub step_asked-reply-requires-clause-formed : goal.step_asked-reply-requires-clause-formed
step_asked-reply-requires-clause-formed g c = formed c.args.user.now c.args.request.now c.args.asked.now c.requires.read

pub returns-clause-tried : goal.returns-clause-tried
returns-clause-tried g c =
    let q : Question = record { user = c.args.user.now; request = c.args.request.now } in
    let old = c.args.state.now in
    let new = c.step_asked-reply.new.state in
    let missing = c.in-Ok.ensures.needed ∙ sym (needs_read c.args.user.now c.args.request.now (log_of old) c.args.loaded.now c.args.asked.now c.requires.read) in
    subst (Tried g.D.Disk q c.args.loaded.now c.args.fetched.now c.args.now old new) (sym c.said_at.ensures)
    (tried_said g.D.Disk q c.args.loaded.now c.args.fetched.now c.args.now old new c.step_asked-reply.result c.position-position.result
    (is_whole c.in-Ok.missing (needs (log_of old) c.args.loaded.now c.args.user.now c.args.request.now) c.args.loaded.now missing (sym c.is_enough.ensures ∙ c.if-not-is_enough.false))
    c.position-position.ensures.count
    (steps_asked g.D.Disk old new c.step_asked-reply.result c.args.loaded.now c.args.fetched.now c.args.user.now c.args.now c.args.request.now c.args.asked.now c.requires.read c.step_asked-reply.ensures.steps)
    c.position-position.ensures.log c.step_asked-reply.ensures.quiet)

pub returns-clause-kept : goal.returns-clause-kept
returns-clause-kept g c =
    subst (λ t. where_missing t (Keeps c.step_asked-reply.new.state.owner c.step_asked-reply.new.state.log c.args.loaded.now c.foreign_asked.new.kept)) (sym c.said_at.ensures)
    (said_none c.step_asked-reply.result c.position-position.result (Keeps c.step_asked-reply.new.state.owner c.step_asked-reply.new.state.log c.args.loaded.now c.foreign_asked.new.kept))
