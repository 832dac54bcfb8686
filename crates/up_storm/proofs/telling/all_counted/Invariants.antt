use Rattle.std.proofs.Common.{◌≡◌, ◌≤◌, ◌*◌, drop}
use Rattle.up_storm.specs.Telling.{all_counted, both_counted, total}
use Rattle.up_storm.proofs.telling.all_counted.Given as goal

-- what is counted and what is left make the whole
abbrev pub invariant-loop-one : goal.invariant-loop-one
invariant-loop-one l = record {
  counted : both_counted l.all (all_counted (drop l.one-index l.said)) ≡ all_counted l.said;
  few : total l.all ≤ l.one-index * 4096;
}
