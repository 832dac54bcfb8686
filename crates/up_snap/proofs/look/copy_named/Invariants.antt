use Rattle.std.proofs.Common.{◌≡◌, drop}
use Rattle.up_snap.specs.Looked.{first_named}
use Rattle.up_snap.proofs.look.copy_named.Given as goal

-- none so far has the name
abbrev pub invariant-loop-found : goal.invariant-loop-found
invariant-loop-found l = first_named l.at l.name (drop l.found-index l.items) ≡ first_named l.at l.name l.items
