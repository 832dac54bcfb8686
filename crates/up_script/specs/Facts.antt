-- What every line of a script keeps, whatever it does. This project's own.
use Rattle.std.specs.Prelude.{◌≡◌, ◌≤◌, ℕ, Bool, true, false, Ok, Err}
use Rattle.up_lists.specs.Counts.{Rose}
use Rattle.up_sessions.specs.Fitting.{IsFit}
use Rattle.up_sessions.specs.Keeping.{AllStayIn}
use Rattle.up_sessions.specs.Worlds.{Parties, RosePerIo, World, faults_in, faults_of}
use Rattle.up_script.specs.Scripts.{LineResult, io_in}
use Rattle.up_script.specs.declared.stop.LineStop.TheVariants as stop

-- how many lines `io` came
abbrev pub io_came : LineResult → ℕ
io_came (Ok did) = io_in did
io_came (Err why) = 0

-- whether something was done
abbrev pub is_done : LineResult → Bool
is_done (Ok did) = true
is_done (Err why) = false

-- Counts never fall, and rose for what failed; each disk stays in its place; and what was fit for the next line is so still, where the
-- line was done.
pub record Facts {D P V C N : Type 0} (who : Parties D P V C N)
    (a : World D P V C N) (came : LineResult) (b : World D P V C N) : Type 0 where
  pub io : RosePerIo (faults_of who a) (faults_of who b) (io_came came)
  pub disks : faults_in who.disks a.state ≤ faults_in who.disks b.state
  pub helper : who.verifiers.faults a.around.verifier ≤ who.verifiers.faults b.around.verifier
  pub disk_rose : came ≡ Err stop.DiskFault → Rose (faults_in who.disks a.state) (faults_in who.disks b.state)
  pub helper_rose : came ≡ Err stop.HelperFault → Rose (who.verifiers.faults a.around.verifier) (who.verifiers.faults b.around.verifier)
  pub stays : AllStayIn who.disks a.state b.state
  pub fits : is_done came ≡ true → IsFit who.disks a.state → IsFit who.disks b.state
