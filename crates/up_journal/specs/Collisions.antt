-- What equal heads say of two logs. This project's own; digests are SHA-256 (FIPS 180-4).
use Rattle.std.specs.Prelude.{◌≡◌, ◌≢◌, ◌⊎◌, ℕ, List, Option, IfSome}
use Rattle.std.specs.List.{Contains}
use Rattle.up_refs.specs.Sha256.{sha256}
use Rattle.up_journal.specs.Format2.{format2}
use Rattle.up_journal.specs.Gates.{record_list}

-- the records of a log as their bytes stand: of each the length, the link and the payload
abbrev pub records_in : List (List ℕ) → List (List ℕ)
records_in log = record_list format2 format2.first_link log

-- two different byte strings, a record of each log, have one digest
pub record HaveCollision (one other : List (List ℕ)) : Type 0 where
  pub first : List ℕ
  pub second : List ℕ
  pub of_one : Contains (records_in one) first
  pub of_other : Contains (records_in other) second
  pub differ : first ≢ second
  pub digest : sha256 first ≡ sha256 second

-- the logs are equal, or two different records among theirs have one digest
abbrev pub AreSame : List (List ℕ) → List (List ℕ) → Type 0
AreSame one other = (one ≡ other) ⊎ HaveCollision one other

-- two logs that are told are the same, or have records with one digest
abbrev pub AreSameTold : Option (List (List ℕ)) → Option (List (List ℕ)) → Type 0
AreSameTold one other = IfSome one (λ log. IfSome other (AreSame log))
