use Rattle.std.proofs.Common.{◌≡◌, true, false, ap, refl, sym, ◌∙◌}
use Rattle.up_blocks.specs.Kept.{log_seen}
use Rattle.up_blocks.specs.Records.{holds}
use Rattle.up_blocks.proofs.Indexed.{index_holds}
use Rattle.up_blocks.proofs.blocks.Blocks.delete.Goals as goal

true_false : true ≡ false → ⊥
true_false h = cc

pub returns-then-not-holds-clause-deletes : goal.returns-then-not-holds-clause-deletes
returns-then-not-holds-clause-deletes g c =
    let i = c.self.inside in
    let r = c.args.reference.now in
    let held : holds c.args.self.now.log r ≡ c.holds.result =
    sym (ap (λ s. holds s.log r) c.self.view_is) ∙ sym (index_holds (log_seen i.journal.log i.index.records.items) i.index.records.items i.index.numbers.entries r c.self.invariant.index) ∙ sym c.holds.ensures in
    record { missing = λ _. (refl, refl); held = λ there. absurd (true_false (sym there ∙ held ∙ c.if-not-holds.true)) }

pub take_out-requires : goal.take_out-requires
take_out-requires g c =
    let i = c.self.inside in
    let r = c.args.reference.now in
    let held : holds c.args.self.now.log r ≡ c.holds.result =
    sym (ap (λ s. holds s.log r) c.self.view_is) ∙ sym (index_holds (log_seen i.journal.log i.index.records.items) i.index.records.items i.index.numbers.entries r c.self.invariant.index) ∙ sym c.holds.ensures in
    held ∙ c.if-not-holds.false

pub returns-clause-deletes : goal.returns-clause-deletes
returns-clause-deletes g c =
    let i = c.self.inside in
    let r = c.args.reference.now in
    let held : holds c.args.self.now.log r ≡ c.holds.result =
    sym (ap (λ s. holds s.log r) c.self.view_is) ∙ sym (index_holds (log_seen i.journal.log i.index.records.items) i.index.records.items i.index.numbers.entries r c.self.invariant.index) ∙ sym c.holds.ensures in
    record { missing = λ none. absurd (true_false (sym (sym none ∙ held ∙ c.if-not-holds.false))); held = λ _. c.take_out.ensures.adds }
