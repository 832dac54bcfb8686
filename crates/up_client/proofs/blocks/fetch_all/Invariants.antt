-- what is held from here on is held from the start on
use Rattle.std.proofs.Common.{◌≡◌, [], drop}
use Rattle.up_client.specs.Getting.{fetching}
use Rattle.up_client.proofs.Fetching.{GoesOn}
use Rattle.up_client.proofs.blocks.fetch_all.Given as goal

abbrev pub invariant-loop-block : goal.invariant-loop-block
invariant-loop-block g l = record {
  at : l.i ≡ l.block-index;
  on : GoesOn g.A.Ask (fetching 0 l.blocks []) l.fn.ask (fetching l.i (drop l.block-index l.blocks) l.read.items) l.ask;
}
