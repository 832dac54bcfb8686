use Rattle.up_list.proofs.GlobLemmas.{Leads}
use Rattle.up_foreign.proofs.needed.literal_path.Given as goal

-- the elements so far, with those of what is left, are the literal ones in front
abbrev pub invariant-loop-at : goal.invariant-loop-at
invariant-loop-at l = Leads l.pattern l.path l.at
