-- The users so far, and those of the words that are left, are all of them.
use Rattle.std.proofs.Common.{length, drop}
use Rattle.std.specs.List.{slice_split}
use Rattle.up_text.specs.Lists.{is_comma}
use Rattle.up_script_lines.specs.ScriptLines.{users_named}
use Rattle.up_script_lines.proofs.UserListLemmas.{UsersGoing}
use Rattle.up_script_lines.proofs.script_lines.users_named.Given as goal

abbrev pub invariant-loop-word : goal.invariant-loop-word
invariant-loop-word l =
    UsersGoing (users_named (slice_split is_comma l.fn.list)) l.users (drop (length l.yielded) (slice_split is_comma l.fn.list))
