use Rattle.std.proofs.Common.{◌≡◌, [], drop}
use Rattle.std.specs.Map.{keys_of}
use Rattle.up_policy.specs.Reached.{with_paths}
use Rattle.up_share.proofs.readers.names_told.Given as goal

-- the paths that are left give what all give
abbrev pub invariant-loop-i : goal.invariant-loop-i
invariant-loop-i l = with_paths l.names (drop l.i (keys_of l.paths.entries)) ≡ with_paths [] (keys_of l.paths.entries)
