use Rattle.std.proofs.Common.{◌≡◌, sym, subst, ap, ◌∙◌, refl}
use Rattle.std.specs.Option.{option_copied}
use Rattle.up_cache.proofs.Keeping.{not_recalled, promoted_kept, recalled}
use Rattle.up_cache.proofs.block_cache.BlockCache.recall.Goals as goal

pub returns-in-None : goal.returns-in-None
returns-in-None c = not_recalled _ c.args.reference.now _ c.args.self.now c.self.view_is (sym c.peek.ensures ∙ ap option_copied c.in-None.is)

pub invariant_of-self : goal.invariant_of-self
invariant_of-self c = promoted_kept c.args.reference.now _ c.promote.new.self c.promote.ensures.entries c.self.invariant.0 c.self.invariant.1 c.self.invariant.2

pub returns : goal.returns
returns c =
    recalled c.args.reference.now _ c.args.self.now c.self.view_is c.in-Some.bytes.now c.copy_of-copy.result c.promote.new.self
    (sym c.peek.ensures ∙ ap option_copied c.in-Some.is) (rw (sym c.as_slice.ensures) c.copy_of-copy.ensures) c.promote.ensures.entries
