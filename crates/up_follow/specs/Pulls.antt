-- What a pull does to a follower's log. This project's own.
use Rattle.std.specs.Prelude.{◌≡◌, ◌≢◌, ◌⊎◌, ◌+◌, ◌<◌, ◌≤◌, ◌↔◌, ℕ, Bool, true, false, ⊤, List, [], ◌∷◌, ◌++◌, length, drop}
use Rattle.std.specs.Prelude.{Option, Some, None, Result, Ok, Err, IfOk, IfSome, IsOk}
use Rattle.up_dir.specs.Crashes.{image_log}
use Rattle.up_disk.specs.Disk.{LeavesOnly}
use Rattle.up_disk.specs.Leaving.{LeavesNow}
use Rattle.up_disk.specs.declared.disk.Disk.{Ghosts}
use Rattle.up_entry.specs.declared.records.Rec.{Rec}
use Rattle.up_follow.specs.Feeds.{AreFirst, batch_limit}
use Rattle.up_follow.specs.Taking.{fitting_in, passes_limits}
use Rattle.up_follow.specs.declared.fault.FollowWhy.{FollowWhy}
use Rattle.up_follow.specs.declared.fault.FollowWhy.TheVariants as why
use Rattle.up_journal.specs.Logs.{StandsForLog}
use Rattle.up_journal.specs.Records.{records_of}
use Rattle.up_lists.specs.Begins.{Begins}
use Rattle.up_tree.specs.States.{State, record_in}

module _ {D : Type 0} where
  -- The next of the texts spells no record, or one that does not fit; it would have stood at this position.
  pub record IsStrange (state : State D) (left : List (List ℕ)) (position : ℕ) : Type 0 where
    pub text : List ℕ
    pub more : List (List ℕ)
    pub next : left ≡ text ∷ more
    pub strange : fitting_in state.owner state.log text ≡ None
    pub place : position ≡ length state.log + 1

  -- The next of the texts spells a record that fits, and that would pass the limits, or would not.
  pub record HasNext (state : State D) (left : List (List ℕ)) (passes : Bool) : Type 0 where
    pub text : List ℕ
    pub more : List (List ℕ)
    pub next : left ≡ text ∷ more
    pub rec : Rec
    pub fits : fitting_in state.owner state.log text ≡ Some rec
    pub limits : passes_limits state.limits state.log rec ≡ passes

  -- Why no more of a batch was added, by the texts of it that are left: there is none; or the next one is strange, or there is no room
  -- for it, or the disk failed; or memory was wanting.
  abbrev pub StopsAt : State D → List (List ℕ) → Result ℕ FollowWhy → Type 0
  StopsAt state left (Ok count) = left ≡ []
  StopsAt state left (Err why.Failed) = left ≡ []
  StopsAt state left (Err (why.Strange position)) = IsStrange state left position
  StopsAt state left (Err (why.Full records)) = HasNext state left true × (records ≡ length state.log)
  StopsAt state left (Err why.Io) = HasNext state left false
  StopsAt state left (Err why.OutOfMemory) = ⊤

  -- An image has the log of before with some first records of the batch.
  pub record HasSome (old : State D) (batch : List (List ℕ)) (image : List ℕ) : Type 0 where
    pub some : List Rec
    pub first : AreFirst some batch
    pub has : image_log old image ≡ Ok (old.log ++ some)

  -- an image has the log of before, or that log with its doubtful record, or with some first records of the batch
  abbrev pub MayHaveSome : State D → List (List ℕ) → List ℕ → Type 0
  MayHaveSome old batch image = StandsForLog (image_log old) old.log old.further image ⊎ HasSome old batch image

module _ {D : Type 0} (disks : Ghosts D) where
  -- Of a batch the records of some first texts were added, in their order, and no other; and what is left was not, for this reason. Ok is
  -- the number of all. A crash at any moment left the log of before, or it with its doubtful record or with some first records of the
  -- batch; and records that were added are there after each crash now, unless the disk failed.
  pub record Takes (batch : List (List ℕ)) (old new : State D) (result : Result ℕ FollowWhy) : Type 0 where
    pub added : List Rec
    pub taken : List (List ℕ)
    pub left : List (List ℕ)
    pub cut : taken ++ left ≡ batch
    pub spelled : records_of record_in taken ≡ Some added
    pub log : new.log ≡ old.log ++ added
    pub count : IfOk result (λ n. n ≡ length batch)
    pub stops : StopsAt new left result
    pub any_moment : LeavesOnly disks.moment disks.left_since old.disk new.disk (MayHaveSome old batch)
    pub acknowledged : result ≢ Err why.Io → 0 < length added → LeavesNow disks new.disk (λ image. image_log new image ≡ Ok new.log)

  -- A batch came, which is one of the leader's log from the follower's last record on, where that log is told; and this came of it. Where
  -- none came, it is as if an empty one had.
  pub record Pulls (leader : Option (List (List ℕ))) (old new : State D) (result : Result ℕ FollowWhy) : Type 0 where
    pub batch : List (List ℕ)
    pub few : length batch ≤ batch_limit
    pub behind : IfSome leader (λ log. Begins batch (drop (length old.log) log))
    pub none : IsOk result → IfSome leader (λ log. (batch ≡ []) ↔ (length log ≤ length old.log))
    pub takes : Takes batch old new result
