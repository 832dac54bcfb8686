-- How far a text is written to a sink, where the sink tells what it holds. This project's own.
use Rattle.std.specs.Prelude.{◌≡◌, ℕ, List, ◌++◌}
use Rattle.std.specs.Io.KnownBytes.{Appends}
use Rattle.std.specs.declared.option.Option.{Option}

-- of all that is to be written, the front was added to what the sink held, and the rest is to come
pub record Going (old now : Option (List ℕ)) (rest all : List ℕ) : Type 0 where
  pub front : List ℕ
  pub written : Appends old now front
  pub whole : front ++ rest ≡ all

-- a front of all that is to be written was added, and nothing else
abbrev pub WritesPart : Option (List ℕ) → Option (List ℕ) → List ℕ → Type 0
WritesPart old now all = (rest : List ℕ) × Going old now rest all
