use Rattle.std.proofs.Common.{rules}
use Rattle.std.proofs.lemmas.Str.{IsUtf8-from_ascii}
use Rattle.std.proofs.lemmas.Str.Ascii.{IsAscii-from_all}
use Rattle.up_names.proofs.UserLemmas.{domain-ascii}
use Rattle.up_names.proofs.domains.parse_domain.Goals as goal

pub unwrap-requires : goal.unwrap-requires
unwrap-requires c = c.from_utf8.ensures.succeeds (rw c.in_ok-lower.ensures (IsUtf8-from_ascii _ (IsAscii-from_all _ (domain-ascii _ (search rules)))))
