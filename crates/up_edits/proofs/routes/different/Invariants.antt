use Rattle.std.proofs.Common.{◌≡◌, drop, fold, map}
use Rattle.up_answers.specs.Routes.{locations_of, with_location}
use Rattle.up_edits.specs.Places.{AreKnown}
use Rattle.up_edits.proofs.routes.different.Given as goal

-- with the locations of what is left, and the set has what the list has
abbrev pub invariant-loop-block : goal.invariant-loop-block
invariant-loop-block l = record {
  rest : fold with_location l.locations (map (λ block. block.location) (drop l.block-index l.blocks)) ≡ locations_of l.blocks;
  known : AreKnown l.known.keys l.locations;
}
