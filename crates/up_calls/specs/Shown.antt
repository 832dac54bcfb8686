-- Where an event shows that the disk of a log failed. This project's own.
use Rattle.std.specs.Prelude.{◌≡◌, ◌≢◌, ℕ, true, Option, Some}
use Rattle.std.specs.List.{list_any}
use Rattle.std.specs.Option.{option_map}
use Rattle.up_answers.specs.Fetching.{Fetched}
use Rattle.up_calls.specs.Blocks.{Got}
use Rattle.up_calls.specs.Gathered.{own_failed}
use Rattle.up_calls.specs.Routes.{LogName, Question, log_asked}
use Rattle.up_calls.specs.Views.{SeenTree, Views}
use Rattle.up_calls.specs.declared.event.Event.{Event}
use Rattle.up_names.specs.Texts.{UserName}
use Rattle.up_wire.specs.declared.replies.Reply.TheVariants as reply

-- ---- one call

-- a block of the host's own store could not be read
abbrev pub IsUnread : Fetched → Type 0
IsUnread fetched = list_any (λ (got : Got). own_failed got.0.endpoint got.1) fetched ≡ true

-- The event of a question shows that the disk of this log failed: the log was asked, and the reply is Io; or a block of the host's own
-- store could not be read. One for want of memory has nothing fetched: a block that was read for a tree may have failed before it.
pub data Shows (q : Question) (e : Event) (log : LogName) : Type 0 where
  ByReply : log_asked q ≡ Some log → e.reply ≡ reply.Io → Shows q e log
  ByBlock : log ≡ LogName.OfStore → IsUnread e.fetched → Shows q e log
  ByWant : (owner : UserName) → log_asked q ≡ Some (LogName.OfTree owner) → e.reply ≡ reply.OutOfMemory
      → log ≡ LogName.OfStore → Shows q e log

-- The disk of a log failed only where the event shows it: `quiet` says how whoever has the logs counts that it did not fail.
pub record FailsAsShown (quiet : LogName → Type 0) (q : Question) (e : Event) : Type 0 where
  pub stays : (log : LogName) → (Shows q e log → ⊥) → quiet log

-- how often the disk of a log failed who has these views of the logs; none where the host lacks the tree
abbrev pub failures : Views → LogName → Option ℕ
failures a (LogName.OfTree owner) = option_map (λ (v : SeenTree). v.failed) (a.tree owner)
failures a LogName.OfStore = Some a.store.failed
failures a LogName.OfKeys = Some a.keys.failed

-- ---- a part of a call

-- no disk failed
pub record AllQuiet (quiet : LogName → Type 0) : Type 0 where
  pub all : (log : LogName) → quiet log

-- no disk failed but perhaps that of this log
pub record QuietApart (quiet : LogName → Type 0) (but : LogName) : Type 0 where
  pub others : (log : LogName) → log ≢ but → quiet log

-- no disk failed but that of this log, and that one only where there was this fault
pub record QuietBut (quiet : LogName → Type 0) (but : LogName) (fault : Type 0) : Type 0 where
  pub stays : (log : LogName) → (log ≡ but → fault → ⊥) → quiet log

-- A tree answered: its disk failed only where the reply is Io, that of the store only where a block could not be read, and no other.
pub record TreeQuiet (quiet : LogName → Type 0) (owner : UserName) (e : Event) : Type 0 where
  pub stays : (log : LogName) → (log ≡ LogName.OfTree owner → e.reply ≡ reply.Io → ⊥)
      → (log ≡ LogName.OfStore → IsUnread e.fetched → ⊥) → quiet log
