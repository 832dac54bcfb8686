-- Loading goes in rounds: all that is missing, in order, and then again. This project's own.
use Rattle.std.specs.Prelude.{◌≡◌, ◌≢◌, ◌⊎◌, ◌<◌, ◌≤◌, ◌-◌, ℕ, List, [], ◌∷◌, ◌++◌, length, map, take, Contains, None}
use Rattle.std.specs.List.{flat_map}
use Rattle.up_calls.specs.Loads.{Pair}
use Rattle.up_names.specs.PathNames.{PathName}
use Rattle.up_policy.specs.Loadings.{Loading, answer_for}

-- the number of names that one call may load
abbrev pub bound : ℕ
bound = 1024

-- wanted of a list of names: not loaded yet
abbrev pub IsMissing : List PathName → Loading → PathName → Type 0
IsMissing names so_far name = Contains names name × (answer_for so_far name ≡ None)

-- none of these names has an answer yet
pub record AreNew (names : List PathName) (loaded : Loading) : Type 0 where
  pub new : (name : PathName) → Contains names name → answer_for loaded name ≡ None

-- a whole loading: nothing is missing, or the bound is reached
pub record IsWhole (missing : List PathName) (loaded : Loading) : Type 0 where
  pub enough : (missing ≡ []) ⊎ (length loaded ≡ bound)

-- ---- one round

-- what one round loads of these names: all of them, in order, as far as the bound allows
abbrev pub AreRound : List PathName → Loading → Loading → Type 0
AreRound names before round = map (λ (pair : Pair). pair.0) round ≡ take (bound - length before) names

-- one round of these names was loaded, and stands after what was loaded before
pub record LoadsRound (names : List PathName) (before after : Loading) : Type 0 where
  pub round : Loading
  pub whole : after ≡ before ++ round
  pub names_are : AreRound names before round

-- A round: something is missing and the bound is not reached, and all that is missing is loaded.
pub record IsRound (missing : List PathName) (before round : Loading) : Type 0 where
  pub some : missing ≢ []
  pub room : length before < bound
  pub names_are : AreRound missing before round

-- the first names of a list were loaded behind what was loaded before
pub record LoadsFirst (count : ℕ) (names : List PathName) (before after : Loading) : Type 0 where
  pub more : Loading
  pub whole : after ≡ before ++ more
  pub long : length more ≡ count
  pub names_are : map (λ (pair : Pair). pair.0) more ≡ take count names

-- ---- rounds, where nobody else writes

-- Round after round, each for what is missing after those before it, until nothing is missing or the bound is reached.
abbrev pub AreRounds : (Loading → List PathName) → Loading → List Loading → Type 0
AreRounds missing before [] = IsWhole (missing before) before
AreRounds missing before (round ∷ rounds) = IsRound (missing before) before round × AreRounds missing (before ++ round) rounds

-- more was loaded, round by round, and stands after what was loaded before
pub record InRounds (missing : Loading → List PathName) (before after : Loading) : Type 0 where
  pub rounds : List Loading
  pub whole : after ≡ before ++ flat_map (λ (round : Loading). round) rounds
  pub each : AreRounds missing before rounds

-- ---- rounds, while others may write

-- what one round loaded, and the number of records over which it was missing
pub record RoundMade : Type 0 where
  pub position : ℕ
  pub round : Loading

-- A round was loaded over no fewer records than the one before it. `missing n loaded` is what is missing over the first n records.
pub record IsRoundOver (missing : ℕ → Loading → List PathName) (from : ℕ) (before : Loading) (made : RoundMade) : Type 0 where
  pub not_before : from ≤ made.position
  pub is_round : IsRound (missing made.position before) before made.round

-- rounds were loaded, one after the other, each over no fewer records than the one before it
abbrev pub AreRoundsOver : (ℕ → Loading → List PathName) → ℕ → ℕ → Loading → List RoundMade → Loading → Type 0
AreRoundsOver missing from to before [] after = (from ≤ to) × (after ≡ before)
AreRoundsOver missing from to before (made ∷ rounds) after =
    IsRoundOver missing from before made × AreRoundsOver missing made.position to (before ++ made.round) rounds after

-- Rounds over a log to which others may write, each over some first records of it, and never over fewer than the one before.
pub record InRoundsOver (missing : ℕ → Loading → List PathName) (from to : ℕ) (before after : Loading) : Type 0 where
  pub rounds : List RoundMade
  pub made : AreRoundsOver missing from to before rounds after

-- All that was loaded came in rounds: at the end nothing is missing, or the bound is reached.
pub record LoadedInRounds (missing : ℕ → Loading → List PathName) (from to : ℕ) (loaded : Loading) : Type 0 where
  pub rounds : InRoundsOver missing from to [] loaded
  pub whole : IsWhole (missing to loaded) loaded
