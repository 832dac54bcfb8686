use Rattle.std.proofs.Common.{◌∙◌, ap, length}
use Rattle.up_names.specs.PathNames.{PathName}
use Rattle.up_names.proofs.PathEdits.{kept_len}
use Rattle.up_names.proofs.paths.Path.len.Goals as goal

pub returns : goal.returns
returns c = c.len.ensures.value ∙ kept_len c.self.invariant ∙ ap (λ (path : PathName). length path.elements) c.self.view_is
