use Rattle.std.proofs.Common.{[], sym, ap, ◌∙◌}
use Rattle.std.specs.Option.{option_copied}
use Rattle.up_snap.proofs.ReadLemmas.{index_none}
use Rattle.up_snap.proofs.written.element_at.Goals as goal

pub returns-in-None : goal.returns-in-None
returns-in-None c = index_none c.args.path.now.elements c.args.i [] (sym c.element.ensures ∙ ap option_copied c.in-None.is)
