use Rattle.std.proofs.Common.{length, ap, ◌∙◌, arith}
use Rattle.std.specs.Prelude.{slice_get}
use Rattle.up_mem_tree.specs.ChangesBelow.{noted_all, noted_in}
use Rattle.up_mem_tree.proofs.Ways.{get_before, noted_push}
use Rattle.up_mem_tree.proofs.changes_below.add_spare.Goals as goal

pub returns-clause-noted : goal.returns-clause-noted
returns-clause-noted c i =
    ap (λ us. noted_in (noted_all us) i) c.push_reserved.ensures.items ∙ noted_push c.reserve.new.self.items _ c.new.ensures.items i ∙ ap (λ us. noted_in (noted_all us) i) c.in_default.ensures.items

pub returns-clause-others : goal.returns-clause-others
returns-clause-others c i lt =
    let same = c.in_default.ensures.items in
    ap (λ us. slice_get us i) c.push_reserved.ensures.items ∙ get_before c.reserve.new.self.items _ i (let size = ap length same in omega (arith, lt, size, c.requires)) ∙ ap (λ us. slice_get us i) same
