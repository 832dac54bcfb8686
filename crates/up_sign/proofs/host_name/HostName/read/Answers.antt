-- A name has ASCII alone.
use Rattle.std.proofs.Common.{◌∙◌, sym}
use Rattle.std.proofs.lemmas.Str.{IsUtf8-from_ascii}
use Rattle.up_sign.proofs.HostNameLemmas.{IsAscii-host_name}
use Rattle.up_sign.proofs.host_name.HostName.read.Goals as goal

pub unwrap-requires : goal.unwrap-requires
unwrap-requires c = c.from_utf8.ensures.succeeds (rw c.in_ok-from_slice.ensures.items (IsUtf8-from_ascii _ (IsAscii-host_name c.args.word.now (sym c.is_host_name.ensures ∙ c.if-not-is_host_name.false))))
