-- Lists joined by what stands between two.
use Rattle.std.proofs.Common.{List, [], ◌∷◌}

-- what stands between a joined list and one item more
abbrev pub before_next : {X A : Type 0} → List A → List X → List A
before_next sep [] = []
before_next sep (x ∷ xs) = sep
