-- What holds of each caller so far holds of one more.
use Rattle.std.proofs.Common.{◌≡◌, List, [], ◌∷◌, ◌++◌, sym, subst}
use Rattle.std.specs.Prelude.{All}
use Rattle.std.proofs.lemmas.List.Elements.{All-nil, All-push}

pub none_each : {X : Type 0} (P : X → Type 0) → All P []
none_each P = All-nil P

pub each_more : {X : Type 0} (P : X → Type 0) (before after : List X) (x : X) → after ≡ before ++ x ∷ [] → All P before → P x → All P after
each_more P before after x whole each one = subst (All P) (sym whole) (All-push P before x each one)
