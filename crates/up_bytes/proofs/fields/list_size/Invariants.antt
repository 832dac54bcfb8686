-- The size of the number and of the values so far.
use Rattle.std.proofs.Common.{◌≡◌, ◌++◌, take, length}
use Rattle.std.specs.List.{flat_map}
use Rattle.up_bytes.specs.Num.{num}
use Rattle.up_bytes.specs.Sizes.{size_of}
use Rattle.up_bytes.proofs.fields.list_size.Given as goal

abbrev pub invariant-loop-value : goal.invariant-loop-value
invariant-loop-value g l = l.size ≡ size_of (num (length l.values) ++ flat_map g.T.Fields.spelling (take l.value-index l.values))
