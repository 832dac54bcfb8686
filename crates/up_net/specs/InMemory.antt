-- What stands in memory for a machine. This project's own.
use Rattle.std.specs.Prelude.{◌≡◌, ◌⊎◌, ℕ, List, [], ◌∷◌, ◌++◌, replicate, ℤ, Option, Some, None}
use Rattle.std.specs.declared.time.Duration.{Duration}
use Rattle.up_net.specs.declared.programs.ProgramRun.{ProgramRun}

-- a program that always comes to the same, and its runs so far
pub record SameRuns : Type 0 where
  pub status : Option ℤ
  pub printed : List ℕ
  pub runs : List ProgramRun

-- it ran and its run is noted, or it did not run, for want of memory for that
abbrev pub RunsAlike : SameRuns → ProgramRun → SameRuns → Type 0
RunsAlike old run new =
    ((new ≡ record old { runs = old.runs ++ run ∷ [] }) × (run.status ≡ old.status))
    ⊎ ((new ≡ old) × (run.status ≡ None))

-- a clock that stands still reads what it reads
abbrev pub ReadsStill : Option Duration → Option Duration → Option Duration → Type 0
ReadsStill old reading new = (reading ≡ old) × (new ≡ old)

-- a source that gives one byte over and over, or always fails
abbrev pub GivesSame : Option ℕ → Option (List ℕ) → Option ℕ → Type 0
GivesSame (Some byte) (Some bytes) new = (new ≡ Some byte) × ((n : ℕ) × (bytes ≡ replicate n byte))
GivesSame None None new = new ≡ None
GivesSame _ _ _ = ⊥

-- of a machine's programs nothing is told: any run may come
abbrev pub AnyRun : {M : Type 0} → M → ProgramRun → M → Type 0
AnyRun old run new = Unit {0}

-- of a machine's clock nothing is told: any reading may come
abbrev pub AnyReading : {M : Type 0} → M → Option Duration → M → Type 0
AnyReading old reading new = Unit {0}

-- of a machine's random source nothing is told: any bytes may come
abbrev pub AnyBytes : {M : Type 0} → M → Option (List ℕ) → M → Type 0
AnyBytes old bytes new = Unit {0}
