use Rattle.std.proofs.Common.{◌≡◌, ◌++◌, ◌∷◌, [], ℕ, List, length, Result, Ok, Err, IsErrOf, sym, ap, subst, ◌∙◌}
use Rattle.up_entry.specs.Reading.{rec_of}
use Rattle.up_entry.specs.Spelling as spelling
use Rattle.up_entry.specs.declared.records.Rec.{Rec}
use Rattle.up_lists.proofs.Causes.{HasCause-weaker}
use Rattle.up_journal.specs.Logs.{KeepsLog}
use Rattle.up_journal.specs.declared.fault.AppendWhy.{AppendWhy}
use Rattle.up_journal.specs.declared.fault.AppendWhy.TheVariants as append
use Rattle.up_log_tree.specs.Fits.{Fits, fits}
use Rattle.up_tree.specs.States.{Applies, State, record_in, state_of}
use Rattle.up_tree.proofs.Applying.{applied, err_is, log_entered, no_memory, not_applied, read_again, spelled_rec}
use Rattle.up_tree.proofs.state.TreeState.add.Given.{Over}
use Rattle.up_tree.proofs.state.TreeState.add.Goals as goal

pub returns-in_err-payload-clause-applies : goal.returns-in_err-payload-clause-applies
returns-in_err-payload-clause-applies g c =
    let i = c.self.inside in
    rw (c.made_ready.ensures.owner, c.made_ready.ensures.log, ← c.self.view_is) (no_memory g.D.Disk i.tree.owner g.met.D.Disk.only_now i.journal i.tree.log c.args.rec c.from_residual.result c.self.invariant.keeps
    (err_is c.from_residual.result _ c.from_residual.ensures.1))

abbrev failed : AppendWhy → Result ℕ AppendWhy
failed a = Err a

err_inj : (a b : AppendWhy) → failed a ≡ failed b → a ≡ b
err_inj a b is = cc

-- after the journal has refused it
after_refusal : (g : Over) (c : goal.After-drop-payload-inside g)
    → KeepsLog g.D.Disk record_in (fits c.self.inside.tree.owner) spelling.rec c.append.new.self c.self.inside.tree.log
    × Applies g.D.Disk c.args.rec (state_of c.self.inside.tree.owner c.self.inside.journal c.self.inside.tree.log) (state_of c.self.inside.tree.owner c.append.new.self c.self.inside.tree.log) (Err c.in_err-position.field-0.0)
after_refusal g c =
    let i = c.self.inside in
    let a = c.in_err-position.field-0.0 in
    let e = c.in_err-position.ensures in
    let was : c.append.result ≡ Err a = c.in_err-position.was in
    let fitting : Fits i.tree.owner i.tree.log c.args.rec = subst (λ (v : State g.row.D.Denot). Fits v.owner v.log c.args.rec) (sym c.self.view_is) c.requires.fits in
    not_applied g.D.Disk i.tree.owner i.journal c.append.new.self i.tree.log c.args.rec c.as_slice.result.now a c.self.invariant.keeps fitting
    (read_again c.args.rec c.as_slice.result.now (ap rec_of c.as_slice.ensures ∙ c.in_ok-payload.ensures.again (spelled_rec i.tree.owner i.tree.log c.args.rec fitting)))
    (c.as_slice.ensures ∙ c.in_ok-payload.ensures.written) e.sizes e.log e.limits e.further e.told e.crash
    (λ full. err_inj a (append.Full (length i.journal.sizes)) (sym was ∙ c.append.ensures.full full)) (λ n is. c.append.ensures.full_only n (was ∙ ap Err is)) e.untouched
    (HasCause-weaker (g.D.Disk.faults i.journal.disk) (g.D.Disk.faults c.append.new.self.disk) (IsErrOf c.append.result append.Fault) (a ≡ append.Fault) c.append.ensures.counts (λ is. was ∙ ap Err is))

pub invariant_of-self-in_err-position : goal.invariant_of-self-in_err-position
invariant_of-self-in_err-position g c = rw (c.made_ready.ensures.owner, c.made_ready.ensures.log) (record {
  keeps = (after_refusal g c).0;
  limits_are = c.self.invariant.limits_are ∙ sym c.in_err-position.ensures.limits;
})

pub returns-in_err-position-clause-applies : goal.returns-in_err-position-clause-applies
returns-in_err-position-clause-applies g c = rw (err_is c.from_residual-in_err-position.result _ c.from_residual-in_err-position.ensures.1, c.made_ready.ensures.owner, c.made_ready.ensures.log, ← c.self.view_is) (after_refusal g c).1

-- after it has appended the record
after_append : (g : Over) (c : goal.After-drop-payload-inside-2 g)
    → KeepsLog g.D.Disk record_in (fits c.self.inside.tree.owner) spelling.rec c.append.new.self (c.self.inside.tree.log ++ c.args.rec ∷ [])
    × Applies g.D.Disk c.args.rec (state_of c.self.inside.tree.owner c.self.inside.journal c.self.inside.tree.log) (state_of c.self.inside.tree.owner c.append.new.self (c.self.inside.tree.log ++ c.args.rec ∷ [])) (Ok c.in_ok-position.position)
after_append g c =
    let i = c.self.inside in
    let e = c.in_ok-position.ensures in
    let was : c.append.result ≡ Ok c.in_ok-position.position = c.in_ok-position.was in
    let fitting : Fits i.tree.owner i.tree.log c.args.rec = subst (λ (v : State g.row.D.Denot). Fits v.owner v.log c.args.rec) (sym c.self.view_is) c.requires.fits in
    applied g.D.Disk i.tree.owner i.journal c.append.new.self i.tree.log c.args.rec c.as_slice.result.now c.in_ok-position.position c.self.invariant.keeps fitting
    (read_again c.args.rec c.as_slice.result.now (ap rec_of c.as_slice.ensures ∙ c.in_ok-payload.ensures.again (spelled_rec i.tree.owner i.tree.log c.args.rec fitting)))
    (c.as_slice.ensures ∙ c.in_ok-payload.ensures.written) e.sizes e.appended e.settled e.limits e.position e.told e.crash
    (λ full. absurd (let both = sym was ∙ c.append.ensures.full full in cc))
    (HasCause-weaker (g.D.Disk.faults i.journal.disk) (g.D.Disk.faults c.append.new.self.disk) (IsErrOf c.append.result append.Fault) ⊥ c.append.ensures.counts (λ none. absurd none))

entered : (g : Over) (c : goal.After-drop-payload-inside-2 g) → c.enter.new.self.log ≡ c.self.inside.tree.log ++ c.args.rec ∷ []
entered g c =
    log_entered c.made_ready.new.tree.ready c.args.rec c.made_ready.new.tree.log c.enter.new.self.log c.in_ok-payload.ensures.ready c.enter.ensures.log
    ∙ ap (λ (l : List Rec). l ++ c.args.rec ∷ []) c.made_ready.ensures.log

pub invariant_of-self-2 : goal.invariant_of-self-2
invariant_of-self-2 g c = rw (c.enter.ensures.owner, c.made_ready.ensures.owner, entered g c) (record {
  keeps = (after_append g c).0;
  limits_are = c.self.invariant.limits_are ∙ sym c.in_ok-position.ensures.limits;
})

pub returns-clause-applies : goal.returns-clause-applies
returns-clause-applies g c = rw (c.enter.ensures.owner, c.made_ready.ensures.owner, entered g c, ← c.self.view_is) (after_append g c).1
