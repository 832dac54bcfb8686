use Rattle.up_cache.proofs.Keeping.{keeps_none, keeps_other, named_so, put_are, put_keeps}
use Rattle.up_cache.proofs.block_cache.BlockCache.keep.Goals as goal

pub invariant_of-self : goal.invariant_of-self
invariant_of-self c =
    put_are c.args.reference c.args.bytes.now _ c.args.self.now c.self.view_is c.self.invariant.1 c.requires
    (named_so c.of.result c.args.reference c.args.bytes.now c.ne.result c.of.ensures c.ne.ensures c.if-ne.false)
    c.put-put.result c.in-Ok.copy c.put-put.new.self c.in-Ok.ensures c.self.invariant.0 c.self.invariant.2 c.put-put.ensures.entries c.put-put.ensures.err

pub returns-in-Ok : goal.returns-in-Ok
returns-in-Ok c =
    put_keeps c.args.reference c.args.bytes.now _ c.args.self.now c.self.view_is c.self.invariant.1 c.requires
    (named_so c.of.result c.args.reference c.args.bytes.now c.ne.result c.of.ensures c.ne.ensures c.if-ne.false)
    c.put-put.result c.in-Ok.copy c.put-put.new.self c.in-Ok.ensures c.put-put.ensures.entries c.put-put.ensures.err
