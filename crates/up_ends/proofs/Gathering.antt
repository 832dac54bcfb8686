-- How the bytes of a source are gathered read by read.
use Rattle.std.proofs.Common.{◌≡◌, ℕ, ◌≤◌, List, [], length, Option, refl, arith}
use Rattle.std.proofs.KnownBytes.{Consumes-nil}
use Rattle.std.specs.Io.KnownBytes.{Consumes}
use Rattle.up_lists.specs.Counts.{count_after}

-- the bytes so far are those that the source lost and counted, and no more than the limit
pub record Gathered (left now : Option (List ℕ)) (given given_now faults faults_now limit : ℕ) (bytes : List ℕ) : Type 0 where
  pub lost : Consumes left now bytes
  pub counted : given_now ≡ count_after given (length bytes)
  pub quiet : faults_now ≡ faults
  pub within : length bytes ≤ limit

-- nothing is gathered yet
pub Gathered-none : (left : Option (List ℕ)) (given faults limit : ℕ) → Gathered left left given given faults faults limit []
Gathered-none left given faults limit =
    record { lost = Consumes-nil left; counted = omega arith; quiet = refl; within = omega arith }
