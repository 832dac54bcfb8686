-- Before each turn there are as many names as turns were made.
use Rattle.std.proofs.Common.{◌≡◌, length}
use Rattle.up_server.proofs.naming.tree_names.Given as goal

abbrev pub invariant-loop-place : goal.invariant-loop-place
invariant-loop-place l = length l.names.items ≡ l.place
