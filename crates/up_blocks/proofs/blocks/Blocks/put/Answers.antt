use Rattle.std.proofs.Common.{◌≡◌, Ok, Err, true, false, ap, refl, sym, ◌∙◌, subst, is_some}
use Rattle.std.specs.FinMap.Entries.{find}
use Rattle.up_blocks.specs.Blocks.{AddsBlock}
use Rattle.up_blocks.specs.Kept.{log_seen}
use Rattle.up_blocks.specs.Records.{holds, put_record, reference_cmp}
use Rattle.up_blocks.proofs.Indexed.{index_holds}
use Rattle.up_refs.specs.Sha256.{sha256}
use Rattle.up_blocks.proofs.blocks.Blocks.put.Goals as goal

true_false : true ≡ false → ⊥
true_false h = cc

pub returns-then-holds-clause-puts : goal.returns-then-holds-clause-puts
returns-then-holds-clause-puts g c =
    let i = c.self.inside in
    let bytes = c.args.bytes.now in
    let held : holds c.args.self.now.log (sha256 bytes) ≡ c.holds.result =
    sym (ap (λ s. holds s.log (sha256 bytes)) c.self.view_is) ∙ sym (index_holds (log_seen i.journal.log i.index.records.items) i.index.records.items i.index.numbers.entries (sha256 bytes) c.self.invariant.index)
    ∙ ap (λ r. is_some (find reference_cmp r i.index.numbers.entries)) (sym c.of-reference.ensures) ∙ sym c.holds.ensures in
    record { held = λ _. (ap Ok c.of-reference.ensures, refl); fresh = λ none. absurd (true_false (sym c.if-holds.true ∙ sym held ∙ none)) }

pub keep-requires-clause-fresh : goal.keep-requires-clause-fresh
keep-requires-clause-fresh g c =
    let i = c.self.inside in
    let bytes = c.args.bytes.now in
    let held : holds c.args.self.now.log (sha256 bytes) ≡ c.holds.result =
    sym (ap (λ s. holds s.log (sha256 bytes)) c.self.view_is) ∙ sym (index_holds (log_seen i.journal.log i.index.records.items) i.index.records.items i.index.numbers.entries (sha256 bytes) c.self.invariant.index)
    ∙ ap (λ r. is_some (find reference_cmp r i.index.numbers.entries)) (sym c.of-reference.ensures) ∙ sym c.holds.ensures in
    held ∙ c.if-holds.false

pub returns-in-Ok-clause-puts : goal.returns-in-Ok-clause-puts
returns-in-Ok-clause-puts g c =
    let i = c.self.inside in
    let bytes = c.args.bytes.now in
    let held : holds c.args.self.now.log (sha256 bytes) ≡ c.holds.result =
    sym (ap (λ s. holds s.log (sha256 bytes)) c.self.view_is) ∙ sym (index_holds (log_seen i.journal.log i.index.records.items) i.index.records.items i.index.numbers.entries (sha256 bytes) c.self.invariant.index)
    ∙ ap (λ r. is_some (find reference_cmp r i.index.numbers.entries)) (sym c.of-reference.ensures) ∙ sym c.holds.ensures in
    record {
      held = λ there. absurd (true_false (sym there ∙ held ∙ c.if-holds.false));
      fresh = λ _. (
        Ok c.in-Ok.field-0,
        ap Ok c.of-reference.ensures,
        subst (λ r. AddsBlock g.D.Disk (put_record (is_some (g.D.Disk.content c.args.self.now.disk)) bytes) c.args.self.now c.keep.new.self r) c.in-Ok.is c.keep.ensures.adds,
      );
    }

pub returns-in-Err-clause-puts : goal.returns-in-Err-clause-puts
returns-in-Err-clause-puts g c =
    let i = c.self.inside in
    let bytes = c.args.bytes.now in
    let held : holds c.args.self.now.log (sha256 bytes) ≡ c.holds.result =
    sym (ap (λ s. holds s.log (sha256 bytes)) c.self.view_is) ∙ sym (index_holds (log_seen i.journal.log i.index.records.items) i.index.records.items i.index.numbers.entries (sha256 bytes) c.self.invariant.index)
    ∙ ap (λ r. is_some (find reference_cmp r i.index.numbers.entries)) (sym c.of-reference.ensures) ∙ sym c.holds.ensures in
    record {
      held = λ there. absurd (true_false (sym there ∙ held ∙ c.if-holds.false));
      fresh = λ _. (
        Err c.in-Err.why,
        refl,
        subst (λ r. AddsBlock g.D.Disk (put_record (is_some (g.D.Disk.content c.args.self.now.disk)) bytes) c.args.self.now c.keep.new.self r) c.in-Err.is c.keep.ensures.adds,
      );
    }
