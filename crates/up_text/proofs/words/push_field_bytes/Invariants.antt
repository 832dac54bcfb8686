-- The bytes so far are added as they are coded.
use Rattle.std.proofs.Common.{◌≡◌, ◌++◌, take}
use Rattle.std.specs.List.{flat_map}
use Rattle.up_text.specs.Words.{field_byte}
use Rattle.up_text.proofs.words.push_field_bytes.Given as goal

abbrev pub invariant-loop-byte : goal.invariant-loop-byte
invariant-loop-byte l =
    l.out.items ≡ l.fn.out.items ++ flat_map field_byte (take l.byte-index l.text)
