-- The first of the snapshots that bear on a path, as it is found among their moments. (That it is the first is proved; nothing
-- outside rests on these definitions.)
use Rattle.std.specs.Prelude.{ℕ, nat_le, if◌then◌else◌, List, fold, Option, Some, None, option_map, ⊤}
use Rattle.up_ends.specs.Moments.{IsMoment}
use Rattle.up_names.specs.Texts.{UserName}
use Rattle.up_names.specs.PathNames.{PathName}
use Rattle.up_entry.specs.declared.records.Rec.{Rec}
use Rattle.up_log_tree.specs.Snapshots.{snap_at}
use Rattle.up_snap.specs.Shown.{bears_on}
use Rattle.up_snap.specs.declared.shown.Shown.{Shown}
use Rattle.up_snap.specs.declared.standing.Standing.{Standing}
use Rattle.up_snap.specs.declared.standing.Standing.TheVariants.{Kept, MadeUp}

-- the one of two that was taken first
abbrev pub sooner : Option Shown → Option Shown → Option Shown
sooner None other = other
sooner (Some one) None = Some one
sooner (Some one) (Some two) = if nat_le one.position two.position then Some one else Some two

-- the snapshot of a moment, where it bears on a path
abbrev pub bearing_at : UserName → List Rec → PathName → ℕ → Option Shown
bearing_at snap_user records path time =
    if bears_on snap_user path time then option_map (λ position. record { position = position; time = time }) (snap_at records time)
    else None

-- the first among those of these moments
unfoldable pub least_to : UserName → List Rec → PathName → List ℕ → Option Shown
least_to snap_user records path times = fold (λ first time. sooner first (bearing_at snap_user records path time)) None times

-- what is made up has such a moment
abbrev pub IsTimed : Standing → Type 0
IsTimed (Kept old) = ⊤
IsTimed (MadeUp shown) = IsMoment shown.time
