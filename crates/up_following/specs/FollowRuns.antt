-- What a whole input means: what each line did, one after the other, what is printed, and how it ends. This project's own.
use Rattle.std.specs.Prelude.{◌≡◌, ℕ, ◌+◌, false, List, [], ◌∷◌, ◌++◌, length, Option, IfSome, Ok, Err}
use Rattle.std.specs.List.{flat_map}
use Rattle.std.specs.Io.KnownBytes.{Appends}
use Rattle.up_command.specs.Printed.{bad_line}
use Rattle.up_command.specs.Statuses.{is_cut}
use Rattle.up_disk.specs.declared.disk.Disk as disk
use Rattle.up_ends.specs.Growing.{OnlyGrows}
use Rattle.up_ends.specs.Writing.{WritesPart}
use Rattle.up_follow.specs.Feeds.{Follows, OnlyLonger}
use Rattle.up_follow.specs.declared.feed.Feed as feed
use Rattle.up_lists.specs.Runs.{Run}
use Rattle.up_names.specs.Texts.{Text}
use Rattle.up_tree.specs.States.{State, entries_of, fixed_of}
use Rattle.up_following.specs.FollowTurns.{LineDid, LineCame, World, did_text}
use Rattle.up_following.specs.declared.stop.LineStop.{LineStop}
use Rattle.up_following.specs.declared.stop.LineStop.TheVariants as stop

-- what is printed of all that lines did, in order
abbrev pub printed : List LineDid → Text
printed dids = flat_map did_text dids

-- the status of a run that ends at a line that was not done
abbrev pub stop_code : LineStop → ℕ
stop_code stop.Malformed = 1
stop_code stop.OutOfMemory = 4

-- the text that a run writes last, where a line was not done: a malformed line is named by its number, and of all else nothing is said
abbrev pub stop_text : ℕ → LineStop → Text
stop_text number stop.Malformed = bad_line number
stop_text number stop.OutOfMemory = []

module _ {D F : Type 0} (disks : disk.Ghosts D) (feeds : feed.Ghosts F) where
  -- a line did something, and did not end the run
  abbrev pub LineDoes : World D F → Text → LineDid → World D F → Type 0
  LineDoes a line did b = LineCame disks feeds a line (Ok did) b

  -- What lines leave: what stood in the log stands there, and so does what stood in the leader's, where it is told; and a log that
  -- followed the leader's follows it.
  pub record Stays (a b : World D F) : Type 0 where
    pub grows : OnlyGrows entries_of (λ (state : State D). disks.faults state.disk) fixed_of a.state b.state
    pub feed_grows : OnlyLonger (feeds.leader a.feed) (feeds.leader b.feed)
    pub follows : IfSome (feeds.leader a.feed) (λ before. Follows a.state.log before → IfSome (feeds.leader b.feed) (Follows b.state.log))

  -- How a run ends behind the lines that it did, by the lines that are left and the number of the next one, with the text that is written
  -- last, and the status: there is no line left; or the next one was not done; or no more could be written.
  pub data Ends (last : World D F) (number : ℕ) : List Text → Text → ℕ → World D F → Type 0 where
    at_end : Ends last number [] [] 0 last
    stopped : {line : Text} {more : List Text} {b : World D F} (why : LineStop) → LineCame disks feeds last line (Err why) b
        → Ends last number (line ∷ more) (stop_text number why) (stop_code why) b
    unwritten : {left : List Text} → Ends last number left [] 3 last

  -- From one state to another: the lines that were done, each with what it did, how that ended, and what was written. The text is written
  -- whole, and the status is that of the end; but where a write fault or want of memory cut it short, a front of the text is written.
  pub record Followed (old new : Option Text) (a : World D F) (lines : List Text) (status : ℕ) (b : World D F) : Type 0 where
    pub done : List Text
    pub left : List Text
    pub cut : done ++ left ≡ lines
    pub dids : List LineDid
    pub last : World D F
    pub run : Run LineDoes a done dids last
    pub tail : Text
    pub code : ℕ
    pub ends : Ends last (length done + 1) left tail code b
    pub status_is : is_cut status ≡ false → status ≡ code
    pub whole : is_cut status ≡ false → Appends old new (printed dids ++ tail)
    pub part : WritesPart old new (printed dids ++ tail)
    pub stays : Stays a b
