use Rattle.std.proofs.Common.{◌≡◌, None, Ok, true, IsErrOf, ℕ, List, [], ◌∷◌, ◌++◌, ◌∙◌, ap, sym, subst, length, map}
use Rattle.up_blocks.specs.Kept.{IsTaken, record_of, size_kept}
use Rattle.up_blocks.specs.Records.{decoded, fits}
use Rattle.up_blocks.proofs.Replayed.{fits_next, index_next, memory_damage, read_damage, read_next, up_to}
use Rattle.up_lists.proofs.Causes.{HasCause-then, HasCause-weaker, StaysUnless-more, StaysUnless-then}
use Rattle.up_journal.specs.Journal.{State}
use Rattle.up_journal.specs.declared.fault.ReadWhy.TheVariants as read_why
use Rattle.up_journal.specs.Logs.{log_step}
use Rattle.up_journal.specs.Records.{replay}
use Rattle.up_journal.proofs.Records.{next_damaged, next_read, payload_read, payload_seen, size_seen, take_next}
use Rattle.up_blocks.proofs.replay.take_all.Goals as goal

pub returns-then-not-branch-clause-damaged : goal.returns-then-not-branch-clause-damaged
returns-then-not-branch-clause-damaged g c =
    let i = c.loop-n.invariant in
    let old = c.args.journal.now in
    let payload = c.in_ok-payload.payload in
    let log = up_to c.loop-n.n old.log c.loop-n.index.records.items in
    let unfit : log_step decoded fits log payload ≡ None = ap (log_step decoded fits log) (sym c.as_slice.ensures) ∙ c.take.ensures.not_taken (c.in_ok-take.was ∙ ap Ok c.if-not-branch.true) log i.index in
    next_damaged g.D.Disk (log_step decoded fits) [] old c.loop-n.journal c.payload.new.self c.loop-n.n c.gate_of.result log payload i.so_far i.read
    c.in_ok-payload.ensures.payload c.payload.ensures.unchanged c.gate_of.ensures unfit

pub returns-then-not-branch-clause-read : goal.returns-then-not-branch-clause-read
returns-then-not-branch-clause-read g c =
    let e = c.payload.ensures in
    payload_read g.D.Disk c.args.journal.now c.loop-n.journal c.payload.new.self c.loop-n.invariant.read e.unchanged e.content e.fewer e.crash

pub loop-n-preserved : goal.loop-n-preserved
loop-n-preserved g c =
    let i = c.loop-n.invariant in
    let e = c.payload.ensures in
    let old = c.args.journal.now in
    let mid = c.loop-n.journal in
    let n = c.loop-n.n in
    let payload = c.in_ok-payload.payload in
    let before = c.loop-n.index.records.items in
    let after = c.take.new.index.records.items in
    let log = up_to n old.log before in
    let was : c.take.result ≡ Ok true = c.in_ok-take.was ∙ ap Ok c.if-not-branch.false in
    let size = size_seen old.sizes mid.sizes n (length payload) (ap (λ (j : State g.row.D.Denot). j.sizes) i.read.unchanged) c.in_ok-payload.ensures.size in
    let seen = payload_seen old.log mid.log n payload (ap (λ (j : State g.row.D.Denot). j.log) i.read.unchanged) c.in_ok-payload.ensures.payload in
    let taken : IsTaken log payload before after c.take.new.index.numbers.entries = subst (λ p. IsTaken log p before after c.take.new.index.numbers.entries) c.as_slice.ensures (c.take.ensures.taken was log i.index) in
    record {
      so_far = read_next old.log n _ payload before after seen
          (next_read g.D.Disk (log_step decoded fits) [] old mid n log (log ++ record_of payload ∷ []) payload i.so_far i.read c.in_ok-payload.ensures.payload c.in_ok-payload.ensures.size taken.step);
      index = index_next old.log n payload before after c.take.new.index.numbers.entries seen taken;
      fitting = fits_next old.log n payload before after c.take.new.index.numbers.entries seen taken i.fitting;
      read = payload_read g.D.Disk old mid c.payload.new.self i.read e.unchanged e.content e.fewer e.crash;
      counts = HasCause-then (g.D.Disk.faults old.disk) (g.D.Disk.faults mid.disk) (g.D.Disk.faults c.payload.new.self.disk) ⊥ ⊥ i.counts
          (HasCause-weaker (g.D.Disk.faults mid.disk) (g.D.Disk.faults c.payload.new.self.disk) (IsErrOf c.payload.result read_why.Fault) ⊥ e.counts (λ none. absurd none));
      quiet = StaysUnless-then (g.D.Disk.faults old.disk) (g.D.Disk.faults mid.disk) (g.D.Disk.faults c.payload.new.self.disk) ⊥ ⊥ ⊥ i.quiet (λ none. none)
          (StaysUnless-more (g.D.Disk.faults mid.disk) (g.D.Disk.faults c.payload.new.self.disk) (IsErrOf c.payload.result read_why.Fault) ⊥ e.quiet (λ is. let both = sym c.in_ok-payload.was ∙ is in cc)) (λ none. none);
      sizes = c.take.ensures.sizes was ∙ ap (λ (l : List ℕ). map size_kept before ++ length l ∷ []) c.as_slice.ensures
          ∙ ap (λ (l : List ℕ). l ++ length payload ∷ []) i.sizes ∙ sym (take_next old.sizes n (length payload) size);
    }

pub returns-in_err-payload-clause-damaged : goal.returns-in_err-payload-clause-damaged
returns-in_err-payload-clause-damaged g c = read_damage (replay (log_step decoded fits) []) c.args.journal.now.log c.from_residual.result c.in_err-payload.field-0.0 c.from_residual.ensures.1

pub returns-in_err-payload-clause-read : goal.returns-in_err-payload-clause-read
returns-in_err-payload-clause-read g c =
    let e = c.payload.ensures in
    payload_read g.D.Disk c.args.journal.now c.loop-n.journal c.payload.new.self c.loop-n.invariant.read e.unchanged e.content e.fewer e.crash

pub returns-in_err-take-clause-damaged : goal.returns-in_err-take-clause-damaged
returns-in_err-take-clause-damaged g c = memory_damage (replay (log_step decoded fits) []) c.args.journal.now.log c.from_residual-in_err-take.result c.from_residual-in_err-take.ensures.1

pub returns-in_err-take-clause-read : goal.returns-in_err-take-clause-read
returns-in_err-take-clause-read g c =
    let e = c.payload.ensures in
    payload_read g.D.Disk c.args.journal.now c.loop-n.journal c.payload.new.self c.loop-n.invariant.read e.unchanged e.content e.fewer e.crash
