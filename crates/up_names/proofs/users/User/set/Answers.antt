use Rattle.std.proofs.lemmas.Str.{IsUtf8-from_ascii}
use Rattle.up_names.proofs.UserLemmas.{IsAscii-user}
use Rattle.up_names.proofs.users.User.set.Goals as goal

pub unwrap-requires : goal.unwrap-requires
unwrap-requires c = c.from_utf8.ensures.succeeds (rw c.write_joined.ensures (IsUtf8-from_ascii _ (IsAscii-user _ c.requires)))
