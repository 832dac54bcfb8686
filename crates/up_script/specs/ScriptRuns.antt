-- What a whole script means: from one world to another, what each line did there, what is printed, and how it ends. This project's own.
use Rattle.std.specs.Prelude.{◌≡◌, ◌<◌, ◌-◌, ◌^◌, ◌≤◌, ◌⊎◌, ℕ, ◌+◌, false, List, [], ◌∷◌, ◌++◌, length, Option, Result}
use Rattle.std.specs.Prelude.{Ok, Err}
use Rattle.std.specs.List.{AllByRecursion, flat_map, sum_by}
use Rattle.std.specs.Io.KnownBytes.{Appends}
use Rattle.up_disk.specs.Leaving.{IsBlank}
use Rattle.up_ends.specs.Writing.{WritesPart}
use Rattle.up_lists.specs.Counts.{Rose}
use Rattle.up_lists.specs.Runs.{Run}
use Rattle.up_journal.specs.declared.limits.Limits.{Limits}
use Rattle.up_names.specs.Texts.{Text}
use Rattle.up_sessions.specs.Keeping.{AllStayIn}
use Rattle.up_sessions.specs.Worlds.{Parties, World, faults_in, faults_of}
use Rattle.up_command.specs.Printed.{bad_line}
use Rattle.up_command.specs.Statuses.{is_cut}
use Rattle.up_script.specs.Scripts.{LineResult, LineDid, LineCame, io_in, did_text}
use Rattle.up_script.specs.declared.stop.LineStop.{LineStop}
use Rattle.up_script.specs.declared.stop.LineStop.TheVariants as stop

-- what is printed of all that lines did, in order
abbrev pub printed : List LineDid → Text
printed dids = flat_map did_text dids

-- how many lines `io` are printed of all that lines did
abbrev pub io_lines : List LineDid → ℕ
io_lines dids = sum_by io_in dids

-- the status of a run that ends at a line that was not done
abbrev pub stop_code : LineStop → ℕ
stop_code stop.Malformed = 1
stop_code stop.HelperFault = 5
stop_code stop.DiskFault = 6
stop_code stop.OutOfMemory = 4

-- the text that a run writes last, where a line was not done: a malformed line is named by its number, and of all else nothing is said
abbrev pub stop_text : ℕ → LineStop → Text
stop_text number stop.Malformed = bad_line number
stop_text number why = []

module _ {D P V C N : Type 0} (who : Parties D P V C N) (limits : Limits) where
  -- a line did something, and did not end the run
  abbrev pub LineDoes : World D P V C N → Text → LineDid → World D P V C N → Type 0
  LineDoes a line did b = LineCame who limits a line (Ok did) b

  -- How a run ends behind the lines that it did, by the lines that are left and the number of the next one, with the text that is written
  -- last, and the status: there is no line left; or the next one was not done; or no more could be written.
  pub data Ends (last : World D P V C N) (number : ℕ) : List Text → Text → ℕ → World D P V C N → Type 0 where
    at_end : Ends last number [] [] 0 last
    stopped : {line : Text} {more : List Text} {b : World D P V C N} (why : LineStop)
        → LineCame who limits last line (Err why) b → Ends last number (line ∷ more) (stop_text number why) (stop_code why) b
    unwritten : {left : List Text} → Ends last number left [] 3 last

  -- From one world to another: the lines that were done, each with what it did, how that ended, and what was written. The text is written
  -- whole, and the status is that of the end; but where a write fault or want of memory cut it short, a front of the text is written.
  pub record Scripted (old new : Option Text) (a : World D P V C N) (lines : List Text) (status : ℕ) (b : World D P V C N) : Type 0 where
    pub done : List Text
    pub left : List Text
    pub cut : done ++ left ≡ lines
    pub dids : List LineDid
    pub last : World D P V C N
    pub run : Run LineDoes a done dids last
    pub tail : Text
    pub code : ℕ
    pub ends : Ends last (length done + 1) left tail code b
    pub status_is : is_cut status ≡ false → status ≡ code
    pub whole : is_cut status ≡ false → Appends old new (printed dids ++ tail)
    pub part : WritesPart old new (printed dids ++ tail)
    -- the lines `io` are at most as many as disks and peers failed together, unless their counts stand at their end
    pub few : faults_of who b < 2 ^ 64 - 1 → faults_of who a + io_lines dids ≤ faults_of who b
    -- a fault of the verifier or of a disk has its cause
    pub helper : status ≡ 5 → Rose (who.verifiers.faults a.around.verifier) (who.verifiers.faults b.around.verifier)
    pub disk : status ≡ 6 → Rose (faults_in who.disks a.state) (faults_in who.disks b.state)
    -- each disk stays in its place, tells its content as before, and is settled, or its count rose
    pub stays : AllStayIn who.disks a.state b.state
    -- behind the lines that were done the disks that no host has are blank
    pub blank : AllByRecursion (IsBlank who.disks) last.state.free

-- ---- what comes of a call

-- A call did something, and its text stands behind what was gathered; or it stopped, and gathered nothing; or there was no memory, also
-- for the text of what it did.
abbrev pub LineGathered : (LineResult → Type 0) → Text → Result (Unit {0}) LineStop → Text → Type 0
LineGathered came old (Ok done) new = (did : LineDid) × (came (Ok did) × (new ≡ old ++ did_text did))
LineGathered came old (Err stop.OutOfMemory) new = came (Err stop.OutOfMemory) ⊎ ((did : LineDid) × came (Ok did))
LineGathered came old (Err why) new = came (Err why) × (new ≡ old)
