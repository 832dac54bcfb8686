use Rattle.std.proofs.Common.{ℕ, ap, sym, ◌∙◌}
use Rattle.std.proofs.lemmas.Bool.{false≢true}
use Rattle.up_maps.specs.Maps.{MapState}
use Rattle.up_mem_tree.proofs.Held.{record_left, then_left}
use Rattle.up_mem_tree.proofs.others.Named.release.Goals as goal

pub returns-then-remove-clause-kept : goal.returns-then-remove-clause-kept
returns-then-remove-clause-kept c =
    record_left c.args.gone c.args.self.now.by.entries c.remember.new.self.by.entries (ap (λ (map : MapState ℕ (Unit {0})). map.entries) c.remember.ensures.by ∙ c.remove.ensures.entries)

pub returns-then-remove-clause-was : goal.returns-then-remove-clause-was
returns-then-remove-clause-was c =
    then_left c.args.gone c.args.self.now.by.entries c.remember.new.self.by.entries (ap (λ (map : MapState ℕ (Unit {0})). map.entries) c.remember.ensures.by ∙ c.remove.ensures.entries) c.args.position
    c.args.self.now.gone c.remember.new.self.gone c.args.self.now.until c.remember.new.self.until (λ n less there. c.remember.ensures.kept n less) c.remember.ensures.later c.remember.ensures.texts

-- it was not there
pub returns-else-remove-clause-kept : goal.returns-else-remove-clause-kept
returns-else-remove-clause-kept c = record_left c.args.gone c.args.self.now.by.entries c.remove.new.self.entries c.remove.ensures.entries

pub returns-else-remove-clause-was : goal.returns-else-remove-clause-was
returns-else-remove-clause-was c =
    then_left c.args.gone c.args.self.now.by.entries c.remove.new.self.entries c.remove.ensures.entries c.args.position c.args.self.now.gone c.args.self.now.gone c.args.self.now.until c.args.self.now.until
    (λ n less there. absurd (false≢true (sym (sym c.remove.ensures.was ∙ c.if-remove.false) ∙ there))) (λ n less early. early) (λ n p one. one)
