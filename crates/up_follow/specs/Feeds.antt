-- The log that a feed tells, and when a follower's log follows it. A record stands in it as its bytes. This project's own.
use Rattle.std.specs.Prelude.{◌≡◌, ◌≤◌, ◌↔◌, ℕ, ⊤, List, [], ◌++◌, length, drop, Option, Some, None}
use Rattle.up_entry.specs.declared.records.Rec.{Rec}
use Rattle.up_journal.specs.Logs.{EachFits}
use Rattle.up_journal.specs.Records.{records_of}
use Rattle.up_lists.specs.Begins.{Begins}
use Rattle.up_names.specs.Texts.{UserName}
use Rattle.up_log_tree.specs.Fits.{fits}
use Rattle.up_tree.specs.States.{record_in}

-- how many records a feed gives at once, at most
abbrev pub batch_limit : ℕ
batch_limit = 64

-- A log that is told stays told and grows at its end; one that is not told stays so.
abbrev pub OnlyLonger : {X : Type 0} → Option (List X) → Option (List X) → Type 0
OnlyLonger (Some log) (Some later) = Begins log later
OnlyLonger None None = ⊤
OnlyLonger (Some log) None = ⊥
OnlyLonger None (Some later) = ⊥

-- A batch from a position on: texts that stand directly after so many of the leader's log, and none exactly where it has no more.
pub record IsBatch (from : ℕ) (batch leader : List (List ℕ)) : Type 0 where
  pub behind : Begins batch (drop from leader)
  pub none : (batch ≡ []) ↔ (length leader ≤ from)

-- Texts begin with those that spell these records, in their order.
pub record AreFirst (records : List Rec) (texts : List (List ℕ)) : Type 0 where
  pub front : List (List ℕ)
  pub rest : List (List ℕ)
  pub cut : front ++ rest ≡ texts
  pub spelled : records_of record_in front ≡ Some records

-- A follower's log follows a leader's where it is a front of it.
abbrev pub Follows : List Rec → List (List ℕ) → Type 0
Follows log leader = AreFirst log leader

-- a log is the whole of the leader's, whose texts spell its records
abbrev pub IsAllOf : List Rec → List (List ℕ) → Type 0
IsAllOf log leader = records_of record_in leader ≡ Some log

-- The leader's log is that of a tree of this owner: each of its records decodes and fits those before it.
pub record IsTreeLog (owner : UserName) (leader : List (List ℕ)) : Type 0 where
  pub records : List Rec
  pub decoded : records_of record_in leader ≡ Some records
  pub fitting : EachFits (fits owner) records
