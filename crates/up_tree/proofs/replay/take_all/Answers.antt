use Rattle.std.proofs.Common.{◌≡◌, None, Some, Ok, true, IsErrOf, ℕ, List, [], ◌∷◌, ◌++◌, ◌≤◌, ◌∙◌, ap, sym, length, take, arith}
use Rattle.up_lists.proofs.Causes.{HasCause-then, HasCause-weaker, StaysUnless-more, StaysUnless-then}
use Rattle.up_journal.specs.Journal.{State, gate_behind}
use Rattle.up_journal.specs.Logs.{log_step}
use Rattle.up_journal.specs.Records.{replay}
use Rattle.up_journal.specs.declared.fault.ReadWhy.TheVariants as read_why
use Rattle.up_journal.proofs.Records.{next_damaged, next_read, read_all, payload_read, size_seen, take_next}
use Rattle.up_log_tree.specs.Fits.{fits}
use Rattle.up_log_tree.specs.Sizes.{sizes_of}
use Rattle.up_tree.specs.States.{record_in}
use Rattle.up_tree.proofs.Sizes.{none_left}
use Rattle.up_tree.proofs.Damages.{memory_damage, read_damage}
use Rattle.up_tree.proofs.replay.take_all.Goals as goal

pub returns-then-not-branch-clause-damaged : goal.returns-then-not-branch-clause-damaged
returns-then-not-branch-clause-damaged g c =
    let i = c.loop-n.invariant in
    let payload = c.in_ok-payload.payload in
    let step = log_step record_in (fits c.args.tree.now.owner) in
    let unfit : step c.loop-n.tree.log payload ≡ None =
    ap (step c.loop-n.tree.log) (sym c.as_slice.ensures)
    ∙ ap (λ (o : List ℕ). log_step record_in (fits o) c.loop-n.tree.log c.as_slice.result.now) (sym i.owner)
    ∙ c.take.ensures.not_taken (c.in_ok-take.was ∙ ap Ok c.if-not-branch.true) in
    next_damaged g.D.Disk step [] c.args.journal.now c.loop-n.journal c.payload.new.self c.loop-n.n c.gate_of.result c.loop-n.tree.log payload i.so_far i.read
    c.in_ok-payload.ensures.payload c.payload.ensures.unchanged c.gate_of.ensures unfit

pub returns-then-not-branch-clause-read : goal.returns-then-not-branch-clause-read
returns-then-not-branch-clause-read g c =
    let e = c.payload.ensures in
    payload_read g.D.Disk c.args.journal.now c.loop-n.journal c.payload.new.self c.loop-n.invariant.read e.unchanged e.content e.fewer e.crash

pub loop-n-preserved : goal.loop-n-preserved
loop-n-preserved g c =
    let i = c.loop-n.invariant in
    let e = c.payload.ensures in
    let old = c.args.journal.now in
    let mid = c.loop-n.journal in
    let payload = c.in_ok-payload.payload in
    let step = log_step record_in (fits c.args.tree.now.owner) in
    let taken : c.take.result ≡ Ok true = c.in_ok-take.was ∙ ap Ok c.if-not-branch.false in
    let size = size_seen old.sizes mid.sizes c.loop-n.n (length payload) (ap (λ (j : State g.row.D.Denot). j.sizes) i.read.unchanged) c.in_ok-payload.ensures.size in
    let fit : step c.loop-n.tree.log payload ≡ Some c.take.new.tree.log =
    ap (step c.loop-n.tree.log) (sym c.as_slice.ensures)
    ∙ ap (λ (o : List ℕ). log_step record_in (fits o) c.loop-n.tree.log c.as_slice.result.now) (sym i.owner)
    ∙ c.take.ensures.taken taken in
    record {
      so_far = next_read g.D.Disk step [] old mid c.loop-n.n c.loop-n.tree.log c.take.new.tree.log payload i.so_far i.read c.in_ok-payload.ensures.payload c.in_ok-payload.ensures.size fit;
      read = payload_read g.D.Disk old mid c.payload.new.self i.read e.unchanged e.content e.fewer e.crash;
      counts = HasCause-then (g.D.Disk.faults old.disk) (g.D.Disk.faults mid.disk) (g.D.Disk.faults c.payload.new.self.disk) ⊥ ⊥ i.counts
          (HasCause-weaker (g.D.Disk.faults mid.disk) (g.D.Disk.faults c.payload.new.self.disk) (IsErrOf c.payload.result read_why.Fault) ⊥ e.counts (λ none. absurd none));
      quiet = StaysUnless-then (g.D.Disk.faults old.disk) (g.D.Disk.faults mid.disk) (g.D.Disk.faults c.payload.new.self.disk) ⊥ ⊥ ⊥ i.quiet (λ none. none)
          (StaysUnless-more (g.D.Disk.faults mid.disk) (g.D.Disk.faults c.payload.new.self.disk) (IsErrOf c.payload.result read_why.Fault) ⊥ e.quiet (λ is. let both = sym c.in_ok-payload.was ∙ is in cc)) (λ none. none);
      owner = c.take.ensures.owner ∙ i.owner;
      sizes = c.take.ensures.sizes taken ∙ ap (λ (l : List ℕ). sizes_of c.loop-n.tree.log ++ length l ∷ []) c.as_slice.ensures
          ∙ ap (λ (l : List ℕ). l ++ length payload ∷ []) i.sizes ∙ sym (take_next old.sizes c.loop-n.n (length payload) size);
    }

pub returns-in_err-payload-clause-damaged : goal.returns-in_err-payload-clause-damaged
returns-in_err-payload-clause-damaged g c = read_damage (replay (log_step record_in (fits c.args.tree.now.owner)) []) c.args.journal.now.log c.from_residual.result c.in_err-payload.field-0.0 c.from_residual.ensures.1

pub returns-in_err-payload-clause-read : goal.returns-in_err-payload-clause-read
returns-in_err-payload-clause-read g c =
    let e = c.payload.ensures in
    payload_read g.D.Disk c.args.journal.now c.loop-n.journal c.payload.new.self c.loop-n.invariant.read e.unchanged e.content e.fewer e.crash

pub returns-in_err-take-clause-damaged : goal.returns-in_err-take-clause-damaged
returns-in_err-take-clause-damaged g c = memory_damage (replay (log_step record_in (fits c.args.tree.now.owner)) []) c.args.journal.now.log c.from_residual-in_err-take.result c.from_residual-in_err-take.ensures.1

pub returns-in_err-take-clause-read : goal.returns-in_err-take-clause-read
returns-in_err-take-clause-read g c =
    let e = c.payload.ensures in
    payload_read g.D.Disk c.args.journal.now c.loop-n.journal c.payload.new.self c.loop-n.invariant.read e.unchanged e.content e.fewer e.crash

pub returns-clause-log : goal.returns-clause-log
returns-clause-log g c =
    let journal = c.args.journal.now in
    let step = log_step record_in (fits c.args.tree.now.owner) in
    let ended : length journal.sizes ≤ c.loop-n.n = omega (arith, c.loop-n-test.false, c.len-n-end.ensures.count) in
    read_all step [] journal.log c.loop-n.n (gate_behind (take c.loop-n.n journal.sizes)) c.loop-n.tree.log c.loop-n.invariant.so_far
    (none_left journal.log journal.sizes c.loop-n.n c.len-n-end.ensures.sizes ended)
