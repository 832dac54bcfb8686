use Rattle.std.proofs.Common.{◌≡◌, ◌++◌, drop}
use Rattle.std.specs.List.{flat_map}
use Rattle.std.specs.Map.{keys_of}
use Rattle.up_share.specs.Report.{unread_line}
use Rattle.up_share.proofs.known.Known.add_unread.Given as goal

-- the lines so far, and those that are left
abbrev pub invariant-loop-i : goal.invariant-loop-i
invariant-loop-i l = l.text.items ++ flat_map unread_line (drop l.i (keys_of l.self.unread.entries)) ≡ l.fn.text.items ++ flat_map unread_line (keys_of l.self.unread.entries)
