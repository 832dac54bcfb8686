-- Behind the number stand the values so far.
use Rattle.std.proofs.Common.{◌≡◌, ◌++◌, take}
use Rattle.std.specs.List.{flat_map, AllByRecursion}
use Rattle.up_bytes.proofs.fields.append_list.Given as goal

abbrev pub invariant-loop-value : goal.invariant-loop-value
invariant-loop-value g l = record {
  appended : l.out ≡ l.initial.out ++ flat_map g.T.Fields.spelling (take l.value-index l.values);
  typed : AllByRecursion g.T.Fields.IsTyped (take l.value-index l.values);
}
