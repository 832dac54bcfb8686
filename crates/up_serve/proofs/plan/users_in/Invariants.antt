-- The users so far, and those of the words that are left, are all of them.
use Rattle.std.proofs.Common.{codes, length, map, string_bytes}
use Rattle.up_serve.specs.Plans.{all_read, user_in, values_of}
use Rattle.up_serve.proofs.ReadLemmas.{ReadGoing}
use Rattle.up_serve.proofs.plan.users_in.Given as goal

abbrev pub invariant-loop-value : goal.invariant-loop-value
invariant-loop-value l =
    ReadGoing user_in (all_read user_in (values_of (codes "--tree") (map string_bytes l.fn.options))) l.users (values_of (codes "--tree") (map string_bytes l.left))

abbrev pub decreases-loop-value : goal.decreases-loop-value
decreases-loop-value l = length l.left
