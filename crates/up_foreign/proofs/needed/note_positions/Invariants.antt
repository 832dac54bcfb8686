use Rattle.std.proofs.Common.{◌≤◌, length}
use Rattle.up_foreign.specs.Reaching.{MayCover}
use Rattle.up_foreign.specs.Times.{AreBothNoted}
use Rattle.up_foreign.proofs.LeftLemmas.{HasNoted}
use Rattle.up_foreign.proofs.needed.note_positions.Given as goal

-- what is needed at the first positions is noted, and what can be needed behind is noted or left
abbrev pub invariant-loop-count : goal.invariant-loop-count
invariant-loop-count l = record {
  within : l.next ≤ length l.positions;
  noted : AreBothNoted l.tree l.loaded l.times l.names;
  names : HasNoted l.tree l.loaded l.positions l.fn.names l.names l.next;
  covers : MayCover l.tree l.loaded l.range.path.now l.range.above l.left l.names;
}
