-- What contracts see of a journal, and what its images stand for. This project's own.
use Rattle.std.specs.Prelude.{◌≡◌, ◌⊎◌, ◌<◌, ◌≤◌, ◌^◌, ◌+◌, ◌||◌, ℕ, Bool, false, nat_le, nat_lt, List, [], ◌∷◌, ◌++◌, length, sum_by}
use Rattle.std.specs.Prelude.{Option, Some, None, Ok}
use Rattle.up_journal.specs.Format2.{head_size, log_of}
use Rattle.up_journal.specs.Gates.{first_gate}
use Rattle.up_journal.specs.declared.limits.Limits.{Limits}

-- A disk; the limits; the sizes of the payloads of the log; the link that the next record will carry; these payloads, where the
-- disk tells its content; whether a record is doubtful, and its payload, where the disk tells its content.
pub record State (D : Type 0) : Type 0 where
  pub disk : D
  pub limits : Limits
  pub sizes : List ℕ
  pub head : List ℕ
  pub log : Option (List (List ℕ))
  pub doubtful : Bool
  pub further : Option (List ℕ)

-- no record is doubtful
pub record IsSettled {D : Type 0} (journal : State D) : Type 0 where
  pub settled : journal.doubtful ≡ false
  pub nothing : journal.further ≡ None

-- the place of the gate after payloads of these sizes
abbrev pub gate_behind : List ℕ → ℕ
gate_behind sizes = first_gate + sum_by (λ size. size + head_size) sizes

-- the bytes of a device with payloads of these sizes, up to and with the closed gate: 9, and of each its size and 37
abbrev pub bytes_of : List ℕ → ℕ
bytes_of sizes = gate_behind sizes + 1

-- with a record of that size more, the log would pass the limits
abbrev pub is_full : Limits → List ℕ → ℕ → Bool
is_full limits sizes size = nat_le limits.records (length sizes) || nat_lt limits.device (bytes_of sizes + size + head_size)

-- the limits that a journal takes
pub record AreLimits (limits : Limits) : Type 0 where
  pub largest : limits.largest < 2 ^ 32
  pub device : limits.device ≤ 2 ^ 62

-- the log with one further record
abbrev pub with_further : Option (List (List ℕ)) → Option (List ℕ) → Option (List (List ℕ))
with_further (Some log) (Some payload) = Some (log ++ payload ∷ [])
with_further log further = None

-- the log is told, and is that of the image
pub record HasLog (largest : ℕ) (log : Option (List (List ℕ))) (image : List ℕ) : Type 0 where
  pub payloads : List (List ℕ)
  pub told : log ≡ Some payloads
  pub read : log_of largest image ≡ Ok payloads

-- the image has the log, or the log with the further record
abbrev pub StandsFor : ℕ → Option (List (List ℕ)) → Option (List ℕ) → List ℕ → Type 0
StandsFor largest log further image = HasLog largest log image ⊎ HasLog largest (with_further log further) image

-- the image has the log, or the log with the further record or with that payload
abbrev pub MayHave : ℕ → Option (List (List ℕ)) → Option (List ℕ) → List ℕ → List ℕ → Type 0
MayHave largest log further payload image = StandsFor largest log further image ⊎ HasLog largest (with_further log (Some payload)) image

-- the content is told, and the image is read as the content is
pub record IsReadAs (largest : ℕ) (content : Option (List ℕ)) (image : List ℕ) : Type 0 where
  pub bytes : List ℕ
  pub told : content ≡ Some bytes
  pub same : log_of largest image ≡ log_of largest bytes
