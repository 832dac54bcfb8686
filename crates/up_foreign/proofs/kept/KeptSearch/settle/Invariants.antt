use Rattle.std.proofs.Common.{◌≡◌}
use Rattle.up_foreign.specs.Kept.{GoesOn}
use Rattle.up_foreign.proofs.kept.KeptSearch.settle.Given as goal

-- the search has gone on, at the same path of the same tree
abbrev pub invariant-loop : goal.invariant-loop
invariant-loop g l = record {
  records : l.self.records ≡ l.fn.self.records;
  path : l.self.path ≡ l.fn.self.path;
  goes : GoesOn (g.F.Facts.tree l.facts) l.loaded l.fn.self.next l.fn.self.met l.self.next l.self.met;
}
