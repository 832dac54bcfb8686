-- What one turn of one log tells whoever has the logs of a host. This project's own.
use Rattle.std.specs.Prelude.{◌≡◌, ◌≢◌, ◌≤◌, ◌⊎◌, ℕ, Bool, true, false, List, [], length, Some}
use Rattle.up_answers.specs.Fetching.{Fetched}
use Rattle.up_calls.specs.Calls.{TreeNeedsDisk, TreeSays}
use Rattle.up_calls.specs.Gathered.{missing_over}
use Rattle.up_calls.specs.Rounds.{bound}
use Rattle.up_calls.specs.Routes.{Question}
use Rattle.up_calls.specs.Turns.{IsFailed, IsReplied}
use Rattle.up_calls.specs.Views.{Seen, SeenTree, Views}
use Rattle.up_calls.specs.declared.event.Event.{Event}
use Rattle.up_calls.specs.declared.logs.Turn.{Turn}
use Rattle.up_calls.specs.declared.logs.Turn.TheVariants as turn
use Rattle.up_names.specs.PathNames.{PathName}
use Rattle.up_names.specs.Texts.{UserName}
use Rattle.up_policy.specs.Loadings.{Loading}
use Rattle.up_wire.specs.declared.replies.Reply.{Reply}
use Rattle.up_wire.specs.declared.replies.Reply.TheVariants as reply

-- Over n records, between what the caller had seen and what it has seen, these groups are needed, and fewer names are loaded than one
-- call may load.
pub record Misses (v w : SeenTree) (q : Question) (loaded : Loading) (names : List PathName) : Type 0 where
  pub position : ℕ
  pub from : length v.seen ≤ position
  pub to : position ≤ length w.seen
  pub needed : names ≡ missing_over w q position loaded
  pub some : names ≢ []
  pub few : length loaded ≢ bound

-- The disk failed: the answer over all that was seen would have been a record's position. `rises` says how whoever has the logs
-- counts that.
pub record IsSaidToFail (rises : Type 0) (v w : SeenTree) (q : Question) (e : Event) : Type 0 where
  pub failed : IsFailed (TreeNeedsDisk w q e) v w e
  pub from : length v.seen ≤ e.position
  pub at_end : e.position ≡ length w.seen
  pub rose : rises

-- Over n records nothing is needed, or as many names are loaded as one call may load; and the reply is that over them, or the disk
-- failed.
pub record IsSaid (rises : Type 0) (v w : SeenTree) (q : Question) (e : Event) : Type 0 where
  pub enough : (missing_over w q e.position e.loaded ≡ []) ⊎ (length e.loaded ≡ bound)
  pub said : IsReplied (TreeSays w q e) v w e ⊎ IsSaidToFail rises v w q e

-- what one turn of a tree told
abbrev pub TurnTold : Type 0 → SeenTree → SeenTree → Question → Loading → Fetched → ℕ → Turn → Type 0
TurnTold rises v w q loaded fetched now (turn.Missing names) = Misses v w q loaded names × (w.own ≡ v.own)
TurnTold rises v w q loaded fetched now (turn.Said answer position) =
    (answer ≢ reply.OutOfMemory)
    × IsSaid rises v w q (record { reply = answer; position = position; loaded = loaded; fetched = fetched; moment = now })
TurnTold rises v w q loaded fetched now turn.Wanting = w.own ≡ v.own

-- One turn of the tree of an owner, and of no other log: what was missing for it, or the reply, or want of memory.
pub record TreeTold (rises : Type 0) (a b : Views) (owner : UserName) (q : Question)
    (loaded : Loading) (fetched : Fetched) (now : ℕ) (came : Turn) : Type 0 where
  pub v : SeenTree
  pub w : SeenTree
  pub before : a.tree owner ≡ Some v
  pub after : b.tree owner ≡ Some w
  pub told : TurnTold rises v w q loaded fetched now came

-- what holds of the position of a reply, if there is one
abbrev pub answered_at : Turn → (ℕ → Type 0) → Type 0
answered_at (turn.Said answer position) holds = holds position
answered_at (turn.Missing names) holds = Unit {0}
answered_at turn.Wanting holds = Unit {0}

-- a turn of a tree replied Io
abbrev pub tells_io : Turn → Bool
tells_io (turn.Said reply.Io position) = true
tells_io other = false

-- One turn of the store or the keys: `turn` says which event is one of it. It replied, or its disk failed, or memory was wanting.
pub record LogTold {E F : Type 0} (turn : Event → Type 0) (rises : Type 0) (v w : Seen E F) (said : Reply) (position : ℕ) : Type 0 where
  pub told : (e : Event) → e.reply ≡ said → e.position ≡ position → said ≢ reply.OutOfMemory → turn e
  pub rose : said ≡ reply.Io → rises
  pub wanting : said ≡ reply.OutOfMemory → w.own ≡ v.own
