-- The snapshots of a log by their times. This project's own.
use Rattle.std.specs.Prelude.{ℕ, suc, List, [], fold, Option, option_map}
use Rattle.std.specs.FinMap.Entries as entries
use Rattle.std.specs.List.{enumerate_from, position}
use Rattle.std.specs.Ordering.{nat_cmp}
use Rattle.up_entry.specs.declared.records.Rec.{Rec}
use Rattle.up_entry.specs.declared.records.Rec.TheVariants.{Put, Delete, Snap}
use Rattle.up_log_tree.specs.Fits.{is_snap_at}

-- the position of the Snap of a time
unfoldable pub snap_at : List Rec → ℕ → Option ℕ
snap_at records time = option_map suc (position (is_snap_at time) records)

-- the times of snapshots with their positions, in order of times, after one more record at that position
abbrev pub with_snap : List (ℕ × ℕ) → ℕ → Rec → List (ℕ × ℕ)
with_snap snaps at (Put entry text) = snaps
with_snap snaps at (Delete path) = snaps
with_snap snaps at (Snap time) = entries.put nat_cmp time at snaps

-- the times of all snapshots with their positions, in order of times
unfoldable pub snapshots_of : List Rec → List (ℕ × ℕ)
snapshots_of records = fold (λ snaps numbered. with_snap snaps numbered.0 numbered.1) [] (enumerate_from 1 records)
