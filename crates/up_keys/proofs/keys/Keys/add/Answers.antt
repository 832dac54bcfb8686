use Rattle.std.proofs.Common.{◌≡◌, Ok, Err, IsErrOf, Result, ℕ, ap, sym, ◌∙◌, length}
use Rattle.std.specs.FinMap.Entries.{put}
use Rattle.up_keys.specs.Records.{user_cmp}
use Rattle.up_keys.proofs.Putting.{entered, err_is, no_memory, not_entered}
use Rattle.up_lists.proofs.Causes.{HasCause-weaker}
use Rattle.up_journal.specs.declared.fault.AppendWhy.{AppendWhy}
use Rattle.up_journal.specs.declared.fault.AppendWhy.TheVariants as append
use Rattle.up_keys.proofs.keys.Keys.add.Goals as goal

abbrev failed : AppendWhy → Result ℕ AppendWhy
failed a = Err a

err_inj : (a b : AppendWhy) → failed a ≡ failed b → a ≡ b
err_inj a b is = cc

pub returns-in_err-user-clause-puts : goal.returns-in_err-user-clause-puts
returns-in_err-user-clause-puts g c =
    let i = c.self.inside in
    rw (c.made_ready.ensures.records, ← c.self.view_is) (no_memory g.D.Disk g.met.D.Disk.only_now i.journal i.records.items i.last.entries c.args.card c.from_residual.result c.self.invariant
    (err_is c.from_residual.result _ c.from_residual.ensures.1))

pub returns-in_err-position-clause-puts : goal.returns-in_err-position-clause-puts
returns-in_err-position-clause-puts g c =
    let i = c.self.inside in
    let a = c.in_err-position.field-0.0 in
    let e = c.in_err-position.ensures in
    let m = c.in_ok-user.ensures in
    let was : c.append.result ≡ Err a = c.in_err-position.was in
    rw (err_is c.from_residual-in_err-position.result _ c.from_residual-in_err-position.ensures.1, c.made_ready.ensures.records, ← c.self.view_is)
    (not_entered g.D.Disk i.journal c.append.new.self i.records.items i.last.entries c.args.card c.as_slice.result.now a c.self.invariant c.requires m.again (c.as_slice.ensures ∙ m.bytes)
    e.sizes e.log e.limits e.further e.told e.crash
    (λ full. err_inj a (append.Full (length i.journal.sizes)) (sym was ∙ c.append.ensures.full full)) (λ n is. c.append.ensures.full_only n (was ∙ ap Err is)) e.untouched
    (HasCause-weaker (g.D.Disk.faults i.journal.disk) (g.D.Disk.faults c.append.new.self.disk) (IsErrOf c.append.result append.Fault) (a ≡ append.Fault) c.append.ensures.counts (λ is. was ∙ ap Err is))).1

pub invariant_of-self-2 : goal.invariant_of-self-2
invariant_of-self-2 g c =
    let i = c.self.inside in
    let e = c.in_ok-position.ensures in
    let m = c.in_ok-user.ensures in
    let was : c.append.result ≡ Ok c.in_ok-position.position = c.in_ok-position.was in
    let entries : c.enter.new.last.entries ≡ put user_cmp c.args.card.user (length i.records.items) i.last.entries =
    c.enter.ensures.entries ∙ ap (λ k. put user_cmp k (length c.made_ready.new.records.items) c.made_ready.new.last.entries) m.user
    ∙ ap (λ rs. put user_cmp c.args.card.user (length rs) c.made_ready.new.last.entries) c.made_ready.ensures.records ∙ ap (put user_cmp c.args.card.user (length i.records.items)) c.made_ready.ensures.entries in
    rw (entries, c.enter.ensures.records, c.made_ready.ensures.records)
    (entered g.D.Disk i.journal c.append.new.self i.records.items i.last.entries c.args.card c.as_slice.result.now c.in_ok-position.position c.self.invariant c.requires m.again (c.as_slice.ensures ∙ m.bytes)
    e.sizes e.appended e.settled e.limits e.position e.told e.crash
    (λ full. absurd (let both = sym was ∙ c.append.ensures.full full in cc))
    (HasCause-weaker (g.D.Disk.faults i.journal.disk) (g.D.Disk.faults c.append.new.self.disk) (IsErrOf c.append.result append.Fault) ⊥ c.append.ensures.counts (λ none. absurd none))).0

pub returns-clause-puts : goal.returns-clause-puts
returns-clause-puts g c =
    let i = c.self.inside in
    let e = c.in_ok-position.ensures in
    let m = c.in_ok-user.ensures in
    let was : c.append.result ≡ Ok c.in_ok-position.position = c.in_ok-position.was in
    rw (c.enter.ensures.records, c.made_ready.ensures.records, ← c.self.view_is)
    (entered g.D.Disk i.journal c.append.new.self i.records.items i.last.entries c.args.card c.as_slice.result.now c.in_ok-position.position c.self.invariant c.requires m.again (c.as_slice.ensures ∙ m.bytes)
    e.sizes e.appended e.settled e.limits e.position e.told e.crash
    (λ full. absurd (let both = sym was ∙ c.append.ensures.full full in cc))
    (HasCause-weaker (g.D.Disk.faults i.journal.disk) (g.D.Disk.faults c.append.new.self.disk) (IsErrOf c.append.result append.Fault) ⊥ c.append.ensures.counts (λ none. absurd none))).1
