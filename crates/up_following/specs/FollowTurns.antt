-- What comes of each line over a follower and its feed, and what it prints. This project's own.
use Rattle.std.specs.Prelude.{◌≡◌, ◌⊎◌, ℕ, [], ◌++◌, codes, decimal, Option, Some, None, is_some, IfSome, Result, Ok, Err}
use Rattle.std.specs.List.{flat_map}
use Rattle.up_commit.specs.Steps.{IsTold}
use Rattle.up_answers.specs.Answers.{answer}
use Rattle.up_command.specs.Printed.{ended}
use Rattle.up_disk.specs.declared.disk.Disk as disk
use Rattle.up_ends.specs.Growing.{OnlyGrows}
use Rattle.up_follow.specs.Feeds.{OnlyLonger}
use Rattle.up_follow.specs.Pulls.{Pulls}
use Rattle.up_follow.specs.Reads.{is_read}
use Rattle.up_follow.specs.declared.fault.FollowWhy.{FollowWhy}
use Rattle.up_follow.specs.declared.fault.FollowWhy.TheVariants as why
use Rattle.up_follow.specs.declared.feed.Feed as feed
use Rattle.up_lists.specs.Counts.{HasCause}
use Rattle.up_names.specs.Texts.{Text, UserName}
use Rattle.up_text.specs.Replies.{reply_lines}
use Rattle.up_tree.specs.States.{State, entries_of, fixed_of, log_of}
use Rattle.up_wire.specs.declared.replies.Reply.{Reply}
use Rattle.up_wire.specs.declared.replies.Reply.TheVariants as reply
use Rattle.up_wire.specs.declared.requests.Request.{Request}
use Rattle.up_following.specs.FollowLines.{line_of}
use Rattle.up_following.specs.declared.line.FollowLine.{FollowLine}
use Rattle.up_following.specs.declared.line.FollowLine.TheVariants as lines
use Rattle.up_following.specs.declared.stop.LineStop.{LineStop}
use Rattle.up_following.specs.declared.stop.LineStop.TheVariants as stop

-- ---- what a line did, and the text that it prints

-- what a line did: of a pull, how many records it took or why it took none; of a request, its reply, or that it does not only look
pub data LineDid : Type 0 where
  Nothing : LineDid
  Pulled : ℕ → LineDid
  FeedFailed : LineDid
  Strange : ℕ → LineDid
  Full : ℕ → LineDid
  DiskFailed : LineDid
  ReadOnly : LineDid
  Replied : Reply → LineDid

-- the text that is printed of what a line did
abbrev pub did_text : LineDid → Text
did_text LineDid.Nothing = []
did_text (LineDid.Pulled count) = ended (codes "pulled " ++ decimal count)
did_text LineDid.FeedFailed = ended (codes "failed")
did_text (LineDid.Strange position) = ended (codes "strange " ++ decimal position)
did_text (LineDid.Full records) = ended (codes "full " ++ decimal records)
did_text LineDid.DiskFailed = ended (codes "io")
did_text LineDid.ReadOnly = ended (codes "readonly")
did_text (LineDid.Replied given) = flat_map ended (reply_lines given)

-- what came of a line: what it did, or why it was not done
abbrev pub LineResult : Type 0
LineResult = Result LineDid LineStop

-- the result of a line that pulls; want of memory ends the run
abbrev pub result_of_pull : Result ℕ FollowWhy → LineResult
result_of_pull (Ok count) = Ok (LineDid.Pulled count)
result_of_pull (Err why.Failed) = Ok LineDid.FeedFailed
result_of_pull (Err (why.Strange position)) = Ok (LineDid.Strange position)
result_of_pull (Err (why.Full records)) = Ok (LineDid.Full records)
result_of_pull (Err why.Io) = Ok LineDid.DiskFailed
result_of_pull (Err why.OutOfMemory) = Err stop.OutOfMemory

-- the result of a line that got a reply; want of memory ends the run
abbrev pub result_of_reply : Reply → LineResult
result_of_reply reply.OutOfMemory = Err stop.OutOfMemory
result_of_reply given = Ok (LineDid.Replied given)

-- the result of a line that asks, which gets no answer where the request does not only look
abbrev pub result_of_answer : Option Reply → LineResult
result_of_answer None = Ok LineDid.ReadOnly
result_of_answer (Some given) = result_of_reply given

-- ---- where it happens

-- a follower, and its feed
pub record World (D F : Type 0) : Type 0 where
  pub state : State D
  pub feed : F

-- this follower, and this feed
abbrev pub world : {D F : Type 0} → State D → F → World D F
world state feed = record { state = state; feed = feed }

module _ {D : Type 0} where
  -- A user asks: the reply is the answer over the follower's log with nothing loaded, or want of memory, exactly where the request only
  -- looks.
  pub record AskCame (user : UserName) (request : Request) (state : State D) (came : LineResult) : Type 0 where
    pub given : Option Reply
    pub answers : is_some given ≡ is_read request
    pub reply_is : IfSome given (IsTold (answer (log_of state) [] [] user request 0))
    pub came_is : came ≡ result_of_answer given

module _ {D F : Type 0} (disks : disk.Ghosts D) (feeds : feed.Ghosts F) where
  -- A batch is pulled. The feed failed, or the disk, only where its count rose; the log only grows, and so does the leader's.
  pub record PullCame (a : World D F) (came : LineResult) (b : World D F) : Type 0 where
    pub result : Result ℕ FollowWhy
    pub pulls : Pulls disks (feeds.leader b.feed) a.state b.state result
    pub disk_cause : HasCause (disks.faults a.state.disk) (disks.faults b.state.disk) (result ≡ Err why.Io)
    pub feed_cause : HasCause (feeds.faults a.feed) (feeds.faults b.feed) (result ≡ Err why.Failed)
    pub grows : OnlyGrows entries_of (λ (state : State D). disks.faults state.disk) fixed_of a.state b.state
    pub feed_grows : OnlyLonger (feeds.leader a.feed) (feeds.leader b.feed)
    pub came_is : came ≡ result_of_pull result

  -- ---- a line

  -- what came of what a line says
  abbrev pub SaysCame : World D F → FollowLine → LineResult → World D F → Type 0
  SaysCame a lines.Silent came b = (came ≡ Ok LineDid.Nothing) × (b ≡ a)
  SaysCame a lines.Pull came b = PullCame a came b
  SaysCame a (lines.Ask user request) came b = AskCame user request a.state came × (b ≡ a)

  -- What came of a line: it is malformed; or it says something, of which this came; or there was no memory to read it.
  pub data LineCame (a : World D F) (line : Text) : LineResult → World D F → Type 0 where
    malformed : line_of line ≡ None → LineCame a line (Err stop.Malformed) a
    says : {what : FollowLine} {came : LineResult} {b : World D F}
        → line_of line ≡ Some what → SaysCame a what came b → LineCame a line came b
    unread : LineCame a line (Err stop.OutOfMemory) a

-- ---- what comes of a call

-- A call did something, and its text stands behind what was gathered; or it stopped, and gathered nothing; or there was no memory, also
-- for the text of what it did.
abbrev pub LineGathered : (LineResult → Type 0) → Text → Result (Unit {0}) LineStop → Text → Type 0
LineGathered came old (Ok done) new = (did : LineDid) × (came (Ok did) × (new ≡ old ++ did_text did))
LineGathered came old (Err stop.OutOfMemory) new = came (Err stop.OutOfMemory) ⊎ ((did : LineDid) × came (Ok did))
LineGathered came old (Err stop.Malformed) new = came (Err stop.Malformed) × (new ≡ old)
