-- The copy so far is that of the texts gone through.
use Rattle.std.proofs.Common.{◌≡◌, take}
use Rattle.up_follow.proofs.list_feed.copied.Given as goal

abbrev pub invariant-loop-text : goal.invariant-loop-text
invariant-loop-text l = l.copy ≡ take l.text-index l.records
