-- What a Watch looks at after its path, by its sequence.
use Rattle.std.specs.Prelude.{zero, suc, ℤ, pos, negsuc}
use Rattle.up_foreign.specs.declared.needed.Watched.{Watched}
use Rattle.up_foreign.specs.declared.needed.Watched.TheVariants.{Above, Items, Nothing}

-- from 0 on the records above it, at -1 the items that there are, at -2 nothing
abbrev pub watched_by : ℤ → Watched
watched_by (pos n) = Above n
watched_by (negsuc zero) = Items
watched_by (negsuc (suc n)) = Nothing
