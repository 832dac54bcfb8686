use Rattle.std.proofs.Common.{◌≤◌, length, ap, sym, ◌∙◌, arith}
use Rattle.up_mem_tree.specs.Histories.{are_rising, found}
use Rattle.up_mem_tree.proofs.Readings.{access_none, access_rising, access_told}
use Rattle.up_mem_tree.proofs.kept.Kept.access_stays.Goals as goal

pub stays-requires-clause-rising : goal.stays-requires-clause-rising
stays-requires-clause-rising c =
    ap (λ changes. are_rising c.len.result changes) c.as_slice.ensures.value ∙ ap (λ n. are_rising n c.in-Some.slot.now.access.items) (c.len.ensures ∙ c.args.self.now.log.ok.0)
    ∙ access_rising c.args.self.now c.requires.stands c.args.dir.now c.in-Some.slot.now c.in-Some.ensures

pub returns-in-Some : goal.returns-in-Some
returns-in-Some c = λ yes.
    let few : c.args.m ≤ length c.args.self.now.log.items = omega (arith, c.requires.order, c.requires.within) in
    sym (ap (found c.args.m) c.as_slice.ensures.value ∙ access_told c.args.self.now c.requires.stands c.args.dir.now c.in-Some.slot.now c.args.m c.in-Some.ensures few)
    ∙ (c.stays.ensures yes
    ∙ (ap (found c.args.n) c.as_slice.ensures.value ∙ access_told c.args.self.now c.requires.stands c.args.dir.now c.in-Some.slot.now c.args.n c.in-Some.ensures c.requires.within))

pub returns-in-None : goal.returns-in-None
returns-in-None c = λ yes. sym (access_none c.args.self.now c.requires.stands c.args.dir.now c.args.m c.in-None.ensures) ∙ access_none c.args.self.now c.requires.stands c.args.dir.now c.args.n c.in-None.ensures
