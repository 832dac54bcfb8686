use Rattle.std.proofs.Common.{arith}
use Rattle.up_names.proofs.PathEdits.{length_with}
use Rattle.up_names.proofs.paths.Path.len_with.Goals as goal

pub returns : goal.returns
returns c =
    let is_root = c.is_empty.ensures in
    let len = length_with c.self.invariant c.args.self.now c.self.view_is c.args.element.now c.is_empty.result is_root in
    omega (arith, len, c.len.ensures, c.from.ensures, c.self.inside.text.bytes.ok.0)
