use Rattle.std.proofs.Common.{◌+◌, sym, subst, arith}
use Rattle.up_names.specs.PathNames.{PathName}
use Rattle.up_list.proofs.GlobLemmas.{Leads, leads_end, leads_on, leads_there}
use Rattle.up_foreign.proofs.needed.literal_path.Goals as goal

-- the element is not literal
pub returns-in_default : goal.returns-in_default
returns-in_default c = leads_there c.args.pattern.now c.loop-at.path c.loop-at.at (sym c.in_default.ensures.value) c.loop-at.invariant

-- one element more
pub loop-at-preserved : goal.loop-at-preserved
loop-at-preserved c =
    subst (λ (p : PathName). Leads c.args.pattern.now p (c.loop-at.at + 1)) (sym c.in_ok-path-2.ensures)
    (leads_on c.args.pattern.now c.loop-at.path c.loop-at.at c.in-Some.name.now (sym c.in-Some.ensures.value) c.loop-at.invariant)

-- all are literal
pub returns : goal.returns
returns c =
    let end = c.len-at-end.ensures in
    let test = c.loop-at-test.false in
    leads_end c.args.pattern.now c.loop-at.path c.loop-at.at (omega arith) c.loop-at.invariant
