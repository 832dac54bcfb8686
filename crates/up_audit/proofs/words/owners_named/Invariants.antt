-- The owners so far, and those of the words that are left, are all of them.
use Rattle.std.proofs.Common.{length, drop}
use Rattle.std.specs.List.{slice_split}
use Rattle.up_text.specs.Lists.{is_comma}
use Rattle.up_audit.specs.Words.{owners_named}
use Rattle.up_audit.proofs.OwnerLemmas.{OwnersGoing}
use Rattle.up_audit.proofs.words.owners_named.Given as goal

abbrev pub invariant-loop-word : goal.invariant-loop-word
invariant-loop-word l =
    OwnersGoing (owners_named (slice_split is_comma l.fn.list)) l.owners (drop (length l.yielded) (slice_split is_comma l.fn.list))
