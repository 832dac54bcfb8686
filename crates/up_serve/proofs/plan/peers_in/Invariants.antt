-- The peers so far, and those of the words that are left, are all of them.
use Rattle.std.proofs.Common.{codes, length, map, string_bytes}
use Rattle.up_serve.specs.Plans.{all_read, peer_in, values_of}
use Rattle.up_serve.proofs.ReadLemmas.{ReadGoing}
use Rattle.up_serve.proofs.plan.peers_in.Given as goal

abbrev pub invariant-loop-value : goal.invariant-loop-value
invariant-loop-value l =
    ReadGoing peer_in (all_read peer_in (values_of (codes "--peer") (map string_bytes l.fn.options))) l.peers (values_of (codes "--peer") (map string_bytes l.left))

abbrev pub decreases-loop-value : goal.decreases-loop-value
decreases-loop-value l = length l.left
