use Rattle.std.proofs.Common.{ap, ◌∙◌}
use Rattle.std.specs.Map.{lookup}
use Rattle.std.specs.Str.{bytes_eq}
use Rattle.std.specs.String.{string_bytes}
use Rattle.up_policy.specs.Directories.{text_at}
use Rattle.up_policy.proofs.DirectoryLemmas.{found_by_text}
use Rattle.up_policy.proofs.directories.Directories.get.Goals as goal

pub returns : goal.returns
returns c =
    let texts = c.self.inside.texts.entries in
    let dir = c.args.dir.now in
    c.get.ensures.value
    ∙ ap (λ text. lookup (λ key. bytes_eq text (string_bytes key)) texts) c.as_str.ensures.text
    ∙ found_by_text texts c.self.invariant.canonical dir c.as_str.ensures.again
    ∙ ap (λ seen. text_at seen dir) c.self.view_is
