use Rattle.std.proofs.Common.{◌≡◌, ◌≤◌, length}
use Rattle.up_policy.specs.Directories.{text_at}
use Rattle.up_policy.specs.Governors.{first_text, prefixes, prefixes_to}
use Rattle.up_policy.proofs.directories.Directories.nearest.Given as goal

-- the prefixes that were looked at have no text
abbrev pub invariant-loop-text : goal.invariant-loop-text
invariant-loop-text l = (l.len ≤ length l.path.elements) × (first_text (text_at l.self) (prefixes_to l.len l.path) ≡ first_text (text_at l.self) (prefixes l.path))

abbrev pub decreases-loop-text : goal.decreases-loop-text
decreases-loop-text l = l.len
