use Rattle.std.proofs.Common.{◌≡◌, ◌++◌}
use Rattle.std.specs.Prelude.{encode_utf8}
use Rattle.std.proofs.lemmas.Str.{chars_past_char}
use Rattle.up_pattern.proofs.matching.first_char.Goals as goal

pub returns : goal.returns
returns c =
    let step = c.in_ok-first.ensures.steps in
    let spelled : c.chars-chars.result.rest.now ≡ encode_utf8 c.in_ok-first.first ++ c.next.new.self.rest.now = step.0 in
    let whole : c.args.text.now ≡ encode_utf8 c.in_ok-first.first ++ c.as_str.result.now = cc in
    chars_past_char c.args.text.now c.as_str.result.now c.in_ok-first.first c.utf8.text whole
