-- The log of a tree. This project's own.
use Rattle.std.specs.Prelude.{ℕ, ◌+◌, List}
use Rattle.std.specs.List.{sum_by}
use Rattle.up_entry.specs.declared.records.Rec.{Rec}
use Rattle.up_names.specs.Texts.{UserName}
use Rattle.up_log_tree.specs.Sizes.{size_of}
pub use Rattle.up_journal.specs.declared.limits.Limits.{Limits}

-- a log: its records, and what never changes, the tree's owner and limits
pub record Log : Type 0 where
  pub owner : UserName
  pub limits : Limits
  pub records : List Rec

-- how many bytes a log has: 9, and with each record its own and 37
abbrev pub bytes_of : List Rec → ℕ
bytes_of records = 9 + sum_by (λ rec. size_of rec + 37) records
