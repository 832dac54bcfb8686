-- The logs that the answers of one connection are over. This project's own.
use Rattle.std.specs.Prelude.{◌≡◌, ◌≤◌, ℕ, ⊤, List, [], ◌∷◌, length, take, Option, Some, None}
use Rattle.std.specs.List.{AllByRecursion}
use Rattle.up_ends.specs.declared.nonces.Nonces as nonces
use Rattle.up_ends.specs.declared.verifier.Verifier as verifier
use Rattle.up_entry.specs.declared.records.Rec.{Rec}
use Rattle.up_feed.specs.Feeding.{Leader, batch_in, leader_among}
use Rattle.up_feed.specs.declared.talking.Timeless.{Timeless}
use Rattle.up_feed_wire.specs.declared.ask.FeedAsk.{FeedAsk}
use Rattle.up_feed_wire.specs.declared.reply.FeedReply.{FeedReply}
use Rattle.up_feed_wire.specs.declared.reply.FeedReply.TheVariants as replies
use Rattle.up_lists.specs.Runs.{Run}
use Rattle.up_names.specs.Texts.{UserName}
use Rattle.up_shared.specs.Sharing.{seat_for}
use Rattle.up_shared.specs.declared.shared.TreeSeat.{TreeSeat}
use Rattle.up_talk.specs.Around.{Around}
use Rattle.up_talk.specs.Transcripts.{Answered}

-- a reply is that over a log: exactly the batch of it, or that there was no memory
abbrev pub IsOver : List Rec → FeedAsk → FeedReply → Type 0
IsOver log ask (replies.Records records) = records ≡ batch_in ask.from log
IsOver log ask replies.NoTree = ⊥
IsOver log ask replies.OutOfMemory = ⊤

-- Each reply is over the first so many records of a log; these numbers never fall, and the first is at least this one.
abbrev pub AreOver : List Rec → ℕ → List FeedAsk → List FeedReply → Type 0
AreOver log least [] [] = ⊤
AreOver log least (ask ∷ asks) (reply ∷ replies) =
    (n : ℕ) × ((least ≤ n) × (n ≤ length log) × IsOver (take n log) ask reply × AreOver log n asks replies)
AreOver log least [] (reply ∷ replies) = ⊥
AreOver log least (ask ∷ asks) [] = ⊥

-- By the seats of a user's tree before and after: the replies are over what was seen after, and none over less than what had been seen
-- before. Where there is no such tree, each reply says so.
abbrev pub AreFed : {D : Type 0} → Option (TreeSeat D) → Option (TreeSeat D) → List FeedAsk → List FeedReply → Type 0
AreFed (Some v) (Some w) asks answers = AreOver w.seat.seen (length v.seat.seen) asks answers
AreFed None None asks answers = AllByRecursion (λ reply. reply ≡ replies.NoTree) answers
AreFed (Some v) None asks answers = ⊥
AreFed None (Some w) asks answers = ⊥

-- the law of a feed: all that a user is answered on one connection, one question after the other, is over a log that never gets shorter
abbrev pub FeedsNeverFall : (D : Type 0) → {V N : Type 0} → verifier.Ghosts V → nonces.Ghosts N → Type 0
FeedsNeverFall D {V} {N} verifiers drawn =
    (user : UserName) (a b : Around (Leader D) V Timeless N) (asks : List FeedAsk) (answers : List FeedReply)
    → Run (Answered (leader_among verifiers drawn) user) a asks answers b
    → AreFed (seat_for a.answerer.seats.trees.items user) (seat_for b.answerer.seats.trees.items user) asks answers
