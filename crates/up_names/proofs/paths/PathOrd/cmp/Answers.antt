use Rattle.std.proofs.Common.{ap, ◌∙◌}
use Rattle.std.specs.String.{string_bytes}
use Rattle.std.specs.Ordering.{nat_cmp}
use Rattle.std.specs.Cmp.Lexicographic.{slice_cmp}
use Rattle.up_names.specs.PathNames.{canonical}
use Rattle.up_names.proofs.PathEdits.{text_seen, proper_seen}
use Rattle.up_names.proofs.PathComparisons.{path_cmp-canonical}
use Rattle.up_names.proofs.paths.PathOrd.cmp.Goals as goal

pub returns : goal.returns
returns c =
    let p = c.args.self.now in
    let q = c.args.other.now in
    c.cmp.ensures
    ∙ ap (λ text. slice_cmp nat_cmp text (string_bytes c.other.inside.text)) (text_seen c.self.invariant p c.self.view_is)
    ∙ ap (slice_cmp nat_cmp (canonical p)) (text_seen c.other.invariant q c.other.view_is)
    ∙ path_cmp-canonical p q (proper_seen c.self.invariant p c.self.view_is) (proper_seen c.other.invariant q c.other.view_is)
