-- What a helper is asked, and what its status and its line say. This project's own.
use Rattle.std.specs.Prelude.{◌≡◌, ◌⊎◌, ℕ, ◌-◌, ◌==◌, if◌then◌else◌, List, [], ◌∷◌, length, take, drop, codes, ℤ, pos, Option, Some, None}
use Rattle.std.specs.Str.{bytes_eq}
use Rattle.up_ends.specs.declared.verifier.Verdict.{Verdict}
use Rattle.up_ends.specs.declared.verifier.Verdict.TheVariants.{Yes, No}
use Rattle.up_helper.specs.HelperWords.{bytes_in, hex_word}
use Rattle.up_net.specs.declared.programs.ProgramRun.{ProgramRun}

-- the words behind the helper's path: `verify KEY MESSAGE SIGNATURE`
abbrev pub question_of : List ℕ → List ℕ → List ℕ → List (List ℕ)
question_of key message signature = codes "verify" ∷ hex_word key ∷ hex_word message ∷ hex_word signature ∷ []

-- the words by which a user's signature is asked for: `sign USER MESSAGE`
abbrev pub asked_to_sign : List ℕ → List ℕ → List (List ℕ)
asked_to_sign user message = codes "sign" ∷ user ∷ hex_word message ∷ []

-- a helper by its path, what runs it, and how many questions to it got no verdict
pub record AskedHelper (P : Type 0) : Type 0 where
  pub programs : P
  pub helper : List ℕ
  pub faults : ℕ

-- the verdict of a status; none of one that is neither 0 nor 1, or where no status came
abbrev pub verdict_of_code : Option ℤ → Option Verdict
verdict_of_code (Some (pos n)) = if n == 0 then Some Yes else if n == 1 then Some No else None
verdict_of_code _ = None

-- one run of a program whose output is dropped
abbrev pub silent_run : List ℕ → List (List ℕ) → Option ℤ → ProgramRun
silent_run program words status = record { program = program; words = words; status = status; printed = [] }

-- a program ran once with these words, and its status is the verdict
pub record RunsOnce {P : Type 0} (runs : P → ProgramRun → P → Type 0) (program : List ℕ)
    (words : List (List ℕ)) (old : P) (verdict : Option Verdict) (new : P) : Type 0 where
  pub status : Option ℤ
  pub ran : runs old (silent_run program words status) new
  pub says : verdict ≡ verdict_of_code status

-- one run, and no more; or none at all and no verdict, for want of memory for the words
abbrev pub AsksOnce : {P : Type 0} → (P → ProgramRun → P → Type 0) → List ℕ → List (List ℕ) → P → Option Verdict → P → Type 0
AsksOnce runs program words old verdict new = RunsOnce runs program words old verdict new ⊎ ((verdict ≡ None) × (new ≡ old))

-- the signature that a helper has printed: none but in one line of digits, the LF at its end among it
unfoldable pub signature_in : List ℕ → Option (List ℕ)
signature_in printed =
    let size = length printed - 1 in
    if bytes_eq (drop size printed) (codes "\n") then bytes_in (take size printed) else None

-- the signature by what a helper's run came to: none where its status is not 0
unfoldable pub signature_of_run : Option ℤ → List ℕ → Option (List ℕ)
signature_of_run (Some (pos n)) printed = if n == 0 then signature_in printed else None
signature_of_run _ printed = None

-- a helper ran once with these words, and what it came to is the signature
pub record SignsOnce {P : Type 0} (runs : P → ProgramRun → P → Type 0) (program : List ℕ)
    (words : List (List ℕ)) (old : P) (signature : Option (List ℕ)) (new : P) : Type 0 where
  pub status : Option ℤ
  pub printed : List ℕ
  pub ran : runs old (record { program = program; words = words; status = status; printed = printed }) new
  pub says : signature ≡ signature_of_run status printed
