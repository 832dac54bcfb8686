-- One answer at one point of one log. This project's own.
use Rattle.std.specs.Prelude.{◌≡◌, ◌≤◌, ◌+◌, ℕ, List, [], ◌∷◌, ◌++◌, length, take, slice_get, Some}
use Rattle.up_lists.specs.Counts.{Rose}
use Rattle.up_calls.specs.Views.{Seen}
use Rattle.up_calls.specs.declared.event.Event.{Event}
use Rattle.up_wire.specs.declared.replies.Reply.{Reply}
use Rattle.up_wire.specs.declared.replies.Reply.TheVariants as reply

-- the record that an answer adds over n records is the next one, and an own one; where it adds none, no own one came
abbrev pub Recorded : {E F : Type 0} → Seen E F → Seen E F → ℕ → List E → Type 0
Recorded v w n [] = w.own ≡ v.own
Recorded v w n (rec ∷ []) = (slice_get w.seen n ≡ Some rec) × (w.own ≡ v.own ++ (n + 1) ∷ [])
Recorded v w n (rec ∷ more ∷ rest) = ⊥

-- The reply at one point of a log: not before what the caller had seen at the call's start, and seen at its end. `means` says which
-- reply with which added records is that over a list of records.
pub record IsReplied {E F : Type 0} (means : List E → Reply → List E → Type 0) (v w : Seen E F) (e : Event) : Type 0 where
  pub from : length v.seen ≤ e.position
  pub to : e.position ≤ length w.seen
  pub added : List E
  pub reply : means (take e.position w.seen) e.reply added
  pub recorded : Recorded v w e.position added

-- The log's disk failed: its count rose, no record was added, and over all that was seen the disk was needed.
pub record IsFailed {E F : Type 0} (needed : List E → Type 0) (v w : Seen E F) (e : Event) : Type 0 where
  pub io : e.reply ≡ reply.Io
  pub rose : Rose v.failed w.failed
  pub own : w.own ≡ v.own
  pub needs : needed w.seen
