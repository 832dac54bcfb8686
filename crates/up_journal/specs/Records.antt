-- What the records of a journal stand for, whatever they are: a reader above it says what a state is, and what a payload makes
-- of one. This project's own.
use Rattle.std.specs.Prelude.{◌≡◌, ◌⊎◌, ◌+◌, ℕ, List, [], ◌∷◌, length, drop, Option, Some, None, option_and_then, option_map, IsSome}
use Rattle.std.specs.Prelude.{Result, Ok, Err}
use Rattle.up_disk.specs.Disk.{LeavesOnly}
use Rattle.up_disk.specs.declared.disk.Disk.{Ghosts}
use Rattle.up_journal.specs.Damages.{Damage, Damaged}
use Rattle.up_journal.specs.Format2.{head_size, log_of}
use Rattle.up_journal.specs.Gates.{first_gate}
use Rattle.up_journal.specs.Journal.{State, StandsFor}

-- the state after a payload, where it decodes and its record fits the state
abbrev pub by_record : {S R : Type 0} → (List ℕ → Option R) → (S → R → Option S) → S → List ℕ → Option S
by_record decode fits state payload = option_and_then (fits state) (decode payload)

-- what comes of the state after a record, or damage at its gate where there is none
abbrev pub or_place : {S T : Type 0} → ℕ → Option S → (S → Result T Damage) → Result T Damage
or_place gate None rest = Err (Damaged gate)
or_place gate (Some state) rest = rest state

-- The state after the payloads of a log whose first gate stands at that place; or damage at the gate of the first one that does
-- not decode or does not fit the state so far.
abbrev pub replay_from : {S : Type 0} → (S → List ℕ → Option S) → ℕ → S → List (List ℕ) → Result S Damage
replay_from step gate state [] = Ok state
replay_from step gate state (payload ∷ log) =
    or_place gate (step state payload) (λ next. replay_from step (gate + head_size + length payload) next log)

-- the state to which a whole log leads, or its damage
abbrev pub replay : {S : Type 0} → (S → List ℕ → Option S) → S → List (List ℕ) → Result S Damage
replay step start log = replay_from step first_gate start log

-- the records to which payloads decode, where each does
abbrev pub records_of : {R : Type 0} → (List ℕ → Option R) → List (List ℕ) → Option (List R)
records_of decode [] = Some []
records_of decode (payload ∷ log) =
    option_and_then (λ first. option_map (λ others. first ∷ others) (records_of decode log)) (decode payload)

-- the state after records, where each fits the state so far
abbrev pub state_after : {S R : Type 0} → (S → R → Option S) → S → List R → Option S
state_after fits state [] = Some state
state_after fits state (first ∷ others) = option_and_then (λ next. state_after fits next others) (fits state first)

-- the payloads of the log decode to these records, which lead to that state
pub record LeadsTo {S R : Type 0} (decode : List ℕ → Option R) (fits : S → R → Option S)
    (start : S) (log : List (List ℕ)) (state : S) : Type 0 where
  pub records : List R
  pub decoded : records_of decode log ≡ Some records
  pub fitted : state_after fits start records ≡ Some state

-- what comes of a log, or the damage of its image
abbrev pub of_log : {S : Type 0} → Result (List (List ℕ)) Damage → (List (List ℕ) → Result S Damage) → Result S Damage
of_log (Ok log) rest = rest log
of_log (Err damage) rest = Err damage

-- The state that an image stands for; or its damage; or, where all gates are good, damage at the gate of the first record that
-- does not decode or does not fit.
unfoldable pub state_of : {S : Type 0} → (S → List ℕ → Option S) → S → ℕ → List ℕ → Result S Damage
state_of step start largest image = of_log (log_of largest image) (replay step start)

-- the further record is there and fits the state, and the image stands for the state after it
pub record HasNext {S : Type 0} (step : S → List ℕ → Option S) (start : S) (largest : ℕ)
    (state : S) (further : Option (List ℕ)) (image : List ℕ) : Type 0 where
  pub payload : List ℕ
  pub held : further ≡ Some payload
  pub next : S
  pub fits : step state payload ≡ Some next
  pub read : state_of step start largest image ≡ Ok next

-- the image stands for the state, or for the state after the further record
abbrev pub StandsForState : {S : Type 0} → (S → List ℕ → Option S) → S → ℕ → S → Option (List ℕ) → List ℕ → Type 0
StandsForState step start largest state further image =
    (state_of step start largest image ≡ Ok state) ⊎ HasNext step start largest state further image

-- the image stands for the state, or for the state after the further record or after that payload
abbrev pub MayHaveState : {S : Type 0} → (S → List ℕ → Option S) → S → ℕ → S → Option (List ℕ) → List ℕ → List ℕ → Type 0
MayHaveState step start largest state further payload image =
    StandsForState step start largest state further image ⊎ HasNext step start largest state (Some payload) image

-- the content is told, and the image stands for what the content stands for
pub record IsReadAlike {S : Type 0} (step : S → List ℕ → Option S) (start : S)
    (largest : ℕ) (content : Option (List ℕ)) (image : List ℕ) : Type 0 where
  pub bytes : List ℕ
  pub told : content ≡ Some bytes
  pub same : state_of step start largest image ≡ state_of step start largest bytes

-- the log leads to the state, and the further record fits it, both where they are told
pub record Replays {S : Type 0} (step : S → List ℕ → Option S) (start : S)
    (log : Option (List (List ℕ))) (further : Option (List ℕ)) (state : S) : Type 0 where
  pub whole : (payloads : List (List ℕ)) → log ≡ Some payloads → replay step start payloads ≡ Ok state
  pub fits : (payload : List ℕ) → further ≡ Some payload → IsSome (step state payload)

-- The log, where it is told, was read up to its record of that number, from 0, whose gate stands at that place, and has led to
-- the state so far.
pub record ReadUpTo {S : Type 0} (step : S → List ℕ → Option S) (start : S)
    (log : Option (List (List ℕ))) (n gate : ℕ) (state : S) : Type 0 where
  pub rest : (payloads : List (List ℕ)) → log ≡ Some payloads → replay step start payloads ≡ replay_from step gate state (drop n payloads)

-- Payloads were read, and nothing else: the journal is as before but for its disk, which tells what it told, and of which a
-- crash leaves what it might have left before.
pub record OnlyPayloads {D : Type 0} (disks : Ghosts D) (old new : State D) : Type 0 where
  pub unchanged : new ≡ record old { disk = new.disk }
  pub same : disks.content new.disk ≡ disks.content old.disk
  pub fewer : (image : List ℕ) → disks.may_leave new.disk image → disks.may_leave old.disk image
  pub run : LeavesOnly disks.moment disks.left_since old.disk new.disk (StandsFor old.limits.largest old.log old.further)
