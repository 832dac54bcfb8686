-- Behind the number stand the texts so far.
use Rattle.std.proofs.Common.{◌≡◌, ◌++◌, take}
use Rattle.std.specs.List.{flat_map, AllByRecursion}
use Rattle.up_bytes.specs.Spelling.{IsText, text}
use Rattle.up_feed_wire.proofs.texts.append_texts.Given as goal

abbrev pub invariant-loop-one : goal.invariant-loop-one
invariant-loop-one l = record {
  appended : l.out ≡ l.initial.out ++ flat_map text (take l.one-index l.texts);
  typed : AllByRecursion IsText (take l.one-index l.texts);
}
