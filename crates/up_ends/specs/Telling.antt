-- What a party tells of itself: what it will still give, or what was asked of it. A party that tells nothing has None,
-- before a call and after it. This project's own.
use Rattle.std.specs.Prelude.{◌≡◌, List, [], ◌∷◌, ◌++◌, drop, Option, option_map, IfSome}

-- what is still to come, and what comes for good after that
pub record Coming (A : Type 0) : Type 0 where
  pub first : List A
  pub after : A

-- the next: the first of the list, or the one for good where the list is empty
abbrev pub next_from : {A : Type 0} → List A → A → A
next_from [] after = after
next_from (answer ∷ rest) after = answer

-- what the next call gives
abbrev pub next_of : {A : Type 0} → Coming A → A
next_of coming = next_from coming.first coming.after

-- what is to come after the next call
abbrev pub after_next : {A : Type 0} → Coming A → Coming A
after_next coming = record coming { first = drop 1 coming.first }

-- where it is told, a call gave the next and took it off
pub record Gives {A : Type 0} (old : Option (Coming A)) (given : A) (new : Option (Coming A)) : Type 0 where
  pub next : IfSome old (λ coming. given ≡ next_of coming)
  pub taken : new ≡ option_map after_next old

-- where it is told, what was asked grew by these at its end
abbrev pub Grew : {A : Type 0} → Option (List A) → Option (List A) → List A → Type 0
Grew old new items = new ≡ option_map (λ told. told ++ items) old
