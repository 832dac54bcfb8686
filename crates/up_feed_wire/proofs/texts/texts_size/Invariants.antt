-- The size of the number and of the texts so far.
use Rattle.std.proofs.Common.{◌≡◌, ◌++◌, take, length}
use Rattle.std.specs.List.{flat_map}
use Rattle.up_bytes.specs.Num.{num}
use Rattle.up_bytes.specs.Sizes.{size_of}
use Rattle.up_bytes.specs.Spelling.{text}
use Rattle.up_feed_wire.proofs.texts.texts_size.Given as goal

abbrev pub invariant-loop-one : goal.invariant-loop-one
invariant-loop-one l = l.size ≡ size_of (num (length l.texts) ++ flat_map text (take l.one-index l.texts))
