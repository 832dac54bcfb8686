use Rattle.std.proofs.Common.{◌∙◌, arith}
use Rattle.std.specs.Map.{keys_of}
use Rattle.up_share.proofs.LoopLemmas.{keys_long, names_are, names_end, names_step}
use Rattle.up_share.proofs.readers.names_told.Goals as goal

pub loop-i-preserved : goal.loop-i-preserved
loop-i-preserved c = names_step c.loop-i.names c.add_copy.new.names _ (keys_of c.args.paths.now.entries) c.loop-i.i c.in-Some.path.now c.in-Some.ensures c.in_ok-add_copy.ensures c.loop-i.invariant

pub returns : goal.returns
returns c =
    let long = keys_long c.args.paths.now.entries in
    names_end c.loop-i.names _ (keys_of c.args.paths.now.entries) c.loop-i.i (omega (arith, long, c.loop-i-test.false, c.len-i-end.ensures)) c.loop-i.invariant
    ∙ names_are c.args.paths.now.entries c.requires
