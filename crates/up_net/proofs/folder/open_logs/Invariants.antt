use Rattle.std.proofs.Common.{◌≡◌, length}
use Rattle.up_net.proofs.folder.open_logs.Given as goal

-- a log for each name so far
abbrev pub invariant-loop-name : goal.invariant-loop-name
invariant-loop-name g l = length l.logs.items ≡ l.name-index
