use Rattle.std.proofs.Common.{◌≡◌, Ok, Err, IsErrOf, Result, ℕ, ap, sym, ◌∙◌, length}
use Rattle.up_blocks.specs.Records.{fits}
use Rattle.up_blocks.specs.Kept.{untold}
use Rattle.up_blocks.proofs.Stored.{entered, err_is, no_memory, not_entered}
use Rattle.up_lists.proofs.Causes.{HasCause-weaker}
use Rattle.up_journal.specs.declared.fault.AppendWhy.{AppendWhy}
use Rattle.up_journal.specs.declared.fault.AppendWhy.TheVariants as append
use Rattle.up_blocks.proofs.blocks.Blocks.append.Goals as goal

abbrev failed : AppendWhy → Result ℕ AppendWhy
failed a = Err a

err_inj : (a b : AppendWhy) → failed a ≡ failed b → a ≡ b
err_inj a b is = cc

pub returns-in_err-make_room-clause-adds : goal.returns-in_err-make_room-clause-adds
returns-in_err-make_room-clause-adds g c =
    let i = c.self.inside in
    rw (c.make_room.ensures.records, ← c.self.view_is) (no_memory g.D.Disk g.met.D.Disk.only_now i.journal i.index.records.items i.index.numbers.entries _ c.from_residual.result c.self.invariant
    (err_is g.D.Disk c.from_residual.result _ c.from_residual.ensures.1))

pub returns-in_err-position-clause-adds : goal.returns-in_err-position-clause-adds
returns-in_err-position-clause-adds g c =
    let i = c.self.inside in
    let a = c.in_err-position.field-0.0 in
    let e = c.in_err-position.ensures in
    let was : c.append.result ≡ Err a = c.in_err-position.was in
    rw (err_is g.D.Disk c.from_residual-in_err-position.result _ c.from_residual-in_err-position.ensures.1, c.make_room.ensures.records, ← c.self.view_is)
    (not_entered g.D.Disk i.journal c.append.new.self i.index.records.items i.index.numbers.entries c.args.change c.args.payload.now _ c.self.invariant (sym c.len-position.ensures.told)
    c.requires.decoded (ap (λ s. fits s.log (untold c.args.change)) c.self.view_is ∙ c.requires.fits) a e.sizes e.log e.limits e.further e.told e.crash
    (λ full. err_inj a (append.Full (length i.journal.sizes)) (sym was ∙ c.append.ensures.full full)) (λ n is. c.append.ensures.full_only n (was ∙ ap Err is)) e.untouched
    (HasCause-weaker (g.D.Disk.faults i.journal.disk) (g.D.Disk.faults c.append.new.self.disk) (IsErrOf c.append.result append.Fault) (a ≡ append.Fault) c.append.ensures.counts (λ is. was ∙ ap Err is))).1

pub invariant_of-self-2 : goal.invariant_of-self-2
invariant_of-self-2 g c =
    let i = c.self.inside in
    let e = c.in_ok-position.ensures in
    let was : c.append.result ≡ Ok c.in_ok-position.position = c.in_ok-position.was in
    rw (c.enter.ensures.records, c.enter.ensures.entries, c.make_room.ensures.records, c.make_room.ensures.entries)
    (entered g.D.Disk i.journal c.append.new.self i.index.records.items i.index.numbers.entries c.args.change c.args.payload.now _ c.self.invariant (sym c.len-position.ensures.told)
    c.requires.decoded (ap (λ s. fits s.log (untold c.args.change)) c.self.view_is ∙ c.requires.fits) c.in_ok-position.position e.sizes e.appended e.settled e.limits e.position e.told e.crash
    (λ full. absurd (let both = sym was ∙ c.append.ensures.full full in cc))
    (HasCause-weaker (g.D.Disk.faults i.journal.disk) (g.D.Disk.faults c.append.new.self.disk) (IsErrOf c.append.result append.Fault) ⊥ c.append.ensures.counts (λ none. absurd none))).0

pub returns-clause-adds : goal.returns-clause-adds
returns-clause-adds g c =
    let i = c.self.inside in
    let e = c.in_ok-position.ensures in
    let was : c.append.result ≡ Ok c.in_ok-position.position = c.in_ok-position.was in
    rw (c.enter.ensures.records, c.make_room.ensures.records, ← c.self.view_is)
    (entered g.D.Disk i.journal c.append.new.self i.index.records.items i.index.numbers.entries c.args.change c.args.payload.now _ c.self.invariant (sym c.len-position.ensures.told)
    c.requires.decoded (ap (λ s. fits s.log (untold c.args.change)) c.self.view_is ∙ c.requires.fits) c.in_ok-position.position e.sizes e.appended e.settled e.limits e.position e.told e.crash
    (λ full. absurd (let both = sym was ∙ c.append.ensures.full full in cc))
    (HasCause-weaker (g.D.Disk.faults i.journal.disk) (g.D.Disk.faults c.append.new.self.disk) (IsErrOf c.append.result append.Fault) ⊥ c.append.ensures.counts (λ none. absurd none))).1
