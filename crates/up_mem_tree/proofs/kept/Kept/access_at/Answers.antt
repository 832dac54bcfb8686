use Rattle.std.proofs.Common.{ap, ◌∙◌}
use Rattle.up_mem_tree.specs.Histories.{are_rising, found}
use Rattle.up_mem_tree.proofs.Readings.{access_none, access_rising, access_told}
use Rattle.up_mem_tree.proofs.kept.Kept.access_at.Goals as goal

pub text_at-requires : goal.text_at-requires
text_at-requires c =
    ap (λ changes. are_rising c.len.result changes) c.as_slice.ensures.value ∙ ap (λ n. are_rising n c.in-Some.slot.now.access.items) (c.len.ensures ∙ c.args.self.now.log.ok.0)
    ∙ access_rising c.args.self.now c.requires.stands c.args.dir.now c.in-Some.slot.now c.in-Some.ensures

pub returns-in-Some : goal.returns-in-Some
returns-in-Some c =
    c.text_at.ensures ∙ ap (found c.args.n) c.as_slice.ensures.value
    ∙ access_told c.args.self.now c.requires.stands c.args.dir.now c.in-Some.slot.now c.args.n c.in-Some.ensures c.requires.within

pub returns-in-None : goal.returns-in-None
returns-in-None c = access_none c.args.self.now c.requires.stands c.args.dir.now c.args.n c.in-None.ensures
