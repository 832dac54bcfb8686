-- What was read so far, and then what is left, is what has to be read; where a fault comes first nothing was read.
use Rattle.std.proofs.Common.{◌≡◌, ◌-◌, []}
use Rattle.up_bytes.specs.declared.fault.FieldFault.{FieldFault}
use Rattle.up_bytes.specs.Reading.{items_at}
use Rattle.up_bytes.proofs.Repeated.{with_front}
use Rattle.up_bytes.proofs.fields.take_items.Given as goal

abbrev pub invariant-loop-taken : goal.invariant-loop-taken
invariant-loop-taken g l = record {
  read : with_front l.values.items (items_at g.T.Fields.read_at (l.count - l.taken) l.input) ≡ with_front [] (items_at g.T.Fields.read_at l.count l.initial.input);
  none : (fault : FieldFault) → g.T.Fields.comes_first l.initial.input fault → (l.taken ≡ 0) × (l.input ≡ l.initial.input);
}
