use Rattle.std.proofs.Common.{ap, sym, ◌∙◌, arith}
use Rattle.std.specs.Option.{option_copied}
use Rattle.up_policy.specs.Directories.{text_at}
use Rattle.up_policy.proofs.GovernorLemmas.{first_text_above}
use Rattle.up_policy.proofs.directories.Directories.nearest.Goals as goal

pub loop-text-preserved : goal.loop-text-preserved
loop-text-preserved c =
    let none = sym c.at.ensures ∙ ap option_copied c.in_default.is in (
      omega (arith, c.loop-text.invariant.0),
      sym (first_text_above (text_at c.args.self.now) c.args.path.now c.loop-text.len (omega arith) none) ∙ c.loop-text.invariant.1,
    )
