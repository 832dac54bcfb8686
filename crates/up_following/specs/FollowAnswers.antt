-- What `upspin follow` leaves behind, and answers. This project's own.
use Rattle.std.specs.Prelude.{◌≡◌, ◌⊎◌, ℕ, List, [], ◌∷◌, Option, IfSome}
use Rattle.up_command.specs.Statuses.{IsOneOf}
use Rattle.up_disk.specs.Leaving.{LeavesNow}
use Rattle.up_disk.specs.declared.disk.Disk as disk
use Rattle.up_follow.specs.declared.feed.Feed as feed
use Rattle.up_journal.specs.Crashes.{IsOpened}
use Rattle.up_journal.specs.Logs.{RefusesLog, StandsForLog}
use Rattle.up_journal.specs.declared.fault.OpenFault.{OpenFault}
use Rattle.up_journal.specs.declared.fault.OpenWhy.TheVariants as why
use Rattle.up_journal.specs.declared.limits.Limits.{Limits}
use Rattle.up_lists.specs.Counts.{HasCause}
use Rattle.up_names.specs.Texts.{Text, UserName}
use Rattle.up_reports.specs.Telling.{AnswersOne, refused_by}
use Rattle.up_text.specs.Lines.{script_lines}
use Rattle.up_tree.specs.States.{Opens, State, records_in}
use Rattle.up_following.specs.FollowRuns.{Followed}
use Rattle.up_following.specs.FollowTurns.{world}

-- the limits of a follower's log: those of a server's trees
abbrev pub follow_limits : Limits
follow_limits = record { records = 1048576; device = 1073741824; largest = 131072 }

module _ {D F : Type 0} (disks : disk.Ghosts D) (feeds : feed.Ghosts F) (limits : Limits) (owner : UserName)
    (input : Text) (old new : Option Text) (given back : List D) (before after : F) (status : ℕ) where
  -- The disk was opened as the owner's log, and the lines were done. The disk is back, and a crash now leaves on it the log, or the log
  -- with its doubtful record.
  pub record RunsLines : Type 0 where
    pub disk : D
    pub opened : State D
    pub last : State D
    pub given_is : given ≡ disk ∷ []
    pub opens : Opens disks owner limits disk opened
    pub counts : HasCause (disks.faults disk) (disks.faults opened.disk) ⊥
    pub code : IsOneOf (0 ∷ 1 ∷ 3 ∷ 4 ∷ []) status
    pub followed : Followed disks feeds old new (world opened before) (script_lines input) status (world last after)
    pub back_is : back ≡ last.disk ∷ []
    pub safe : LeavesNow disks last.disk (StandsForLog (records_in owner limits.largest) last.log last.further)

  -- The disk was refused, and is back. No line was done; what is printed tells of the log where it does not open for its content.
  pub record RefusesDisk : Type 0 where
    pub disk : D
    pub fault : OpenFault D
    pub given_is : given ≡ disk ∷ []
    pub refuses : RefusesLog disks (records_in owner) limits disk fault
    pub opened : IsOpened disks limits.largest disk fault.disk (fault.why ≡ why.Fault)
    pub counts : HasCause (disks.faults disk) (disks.faults fault.disk) (fault.why ≡ why.Fault)
    pub answers : AnswersOne old new (refused_by 0 fault.why) status
    pub back_is : back ≡ fault.disk ∷ []
    pub feed_is : after ≡ before

  -- of an input that was read whole the lines were done, or the disk was refused
  abbrev pub FollowsInput : Type 0
  FollowsInput = RunsLines ⊎ RefusesDisk

-- An input was followed, which is what the source had left where it tells that.
pub record FollowsSource {D F : Type 0} (disks : disk.Ghosts D) (feeds : feed.Ghosts F) (limits : Limits)
    (owner : UserName) (left old new : Option Text) (given back : List D) (before after : F) (status : ℕ) : Type 0 where
  pub input : Text
  pub told : IfSome left (λ bytes. input ≡ bytes)
  pub follows : FollowsInput disks feeds limits owner input old new given back before after status

-- There was no memory before a line was done.
pub record FollowsNothing {D F : Type 0} (old new : Option Text) (given back : List D) (before after : F) (status : ℕ) : Type 0 where
  pub wanting : status ≡ 4
  pub sink : new ≡ old
  pub disks : back ≡ given
  pub feed : after ≡ before

-- what a run means: the lines of its source were followed, or nothing was done for want of memory
abbrev pub Means : {D F : Type 0} → disk.Ghosts D → feed.Ghosts F → Limits → UserName
    → Option Text → Option Text → Option Text → List D → List D → F → F → ℕ → Type 0
Means disks feeds limits owner left old new given back before after status =
    FollowsSource disks feeds limits owner left old new given back before after status
    ⊎ FollowsNothing old new given back before after status
