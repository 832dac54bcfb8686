use Rattle.std.proofs.Common.{◌≡◌, false, drop, length}
use Rattle.std.specs.Str.{chars}
use Rattle.up_pattern.specs.Elements.{prepended, tokens_behind}
use Rattle.up_pattern.proofs.tokens.Token.all_of.Given as goal

abbrev pub invariant-loop-character : goal.invariant-loop-character
invariant-loop-character l = prepended l.tokens.items (tokens_behind l.is_escaped (drop (length l.yielded) (chars l.text))) ≡ tokens_behind false (chars l.text)
