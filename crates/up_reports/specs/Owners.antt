-- Whose tree a text names. This project's own.
use Rattle.std.specs.Prelude.{if◌then◌else◌, Option, Some, None}
use Rattle.std.specs.Result.{result_ok}
use Rattle.up_command.specs.Words.{◌>>=◌}
use Rattle.up_names.specs.Texts.{Text, UserName}
use Rattle.up_names.specs.UserNames.{user_of}
use Rattle.up_policy.specs.Trees.{owns_snapshots}

-- a user, where it may own a tree: no snapshot user
abbrev pub if_owner : UserName → Option UserName
if_owner user = if owns_snapshots user then None else Some user

-- the owner that a text names; it stands for itself, and nothing in it is coded
abbrev pub owner_in : Text → Option UserName
owner_in text = result_ok (user_of text) >>= if_owner
