use Rattle.std.proofs.Common.{◌≡◌, ◌≢◌, List, ◌++◌, ℕ, MatchOption, Option, Some, None}
use Rattle.std.specs.Prelude.{IfSome}
use Rattle.std.specs.Borrow.{Bor}
use Rattle.std.proofs.lemmas.Bool.Decides.{Decides-eqb}
use Rattle.std.proofs.lemmas.Slice.Eq.{strip_prefix_is}
use Rattle.up_names.proofs.path_parts.behind.Goals as goal

found : (text front : List ℕ) (r : Option (Bor (List ℕ))) → MatchOption r ((rest : List ℕ) → text ≢ front ++ rest) (λ rest. text ≡ front ++ rest.now) → IfSome r (λ rest. text ≡ front ++ rest.now)
found text front None h = tt
found text front (Some rest) h = h

pub returns : goal.returns
returns c =
    found c.args.text.now c.args.front.now c.strip_prefix.result
    (strip_prefix_is Decides-eqb c.args.text.now c.args.front.now c.strip_prefix.result c.strip_prefix.ensures.cases)
