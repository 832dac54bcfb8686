-- A feed over records in memory. This project's own.
use Rattle.std.specs.Prelude.{ℕ, List, take, drop}
use Rattle.up_follow.specs.Feeds.{batch_limit}
use Rattle.up_lists.specs.Calls.{CallPlan, after_call, fails_next}

-- the records, each as its bytes, and the pulls that fail
pub record ListLog : Type 0 where
  pub records : List (List ℕ)
  pub calls : CallPlan

-- what it gives from a position on: the next 64, or all that are left
abbrev pub batch_of : ℕ → List (List ℕ) → List (List ℕ)
batch_of from records = take batch_limit (drop from records)

-- after a pull
abbrev pub after_pull : ListLog → ListLog
after_pull feed = record feed { calls = after_call feed.calls (fails_next feed.calls) }
