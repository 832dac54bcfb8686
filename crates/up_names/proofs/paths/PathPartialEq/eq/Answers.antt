use Rattle.std.proofs.Common.{ap, ◌∙◌, bytes_eq}
use Rattle.std.specs.String.{string_bytes}
use Rattle.up_names.specs.PathNames.{canonical}
use Rattle.up_names.proofs.PathEdits.{text_seen, proper_seen}
use Rattle.up_names.proofs.PathComparisons.{path_eq-canonical}
use Rattle.up_names.proofs.paths.PathPartialEq.eq.Goals as goal

pub returns : goal.returns
returns c =
    let p = c.args.self.now in
    let q = c.args.other.now in
    c.eq.ensures
    ∙ ap (λ text. bytes_eq text (string_bytes c.other.inside.text)) (text_seen c.self.invariant p c.self.view_is)
    ∙ ap (bytes_eq (canonical p)) (text_seen c.other.invariant q c.other.view_is)
    ∙ path_eq-canonical p q (proper_seen c.self.invariant p c.self.view_is) (proper_seen c.other.invariant q c.other.view_is)
