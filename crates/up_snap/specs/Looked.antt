-- A user before the snapshot tree of a log.
use Rattle.std.specs.Prelude.{◌≡◌, ℕ, true, false, List, [], length, find, Option}
use Rattle.std.specs.Option.{option_map}
use Rattle.std.specs.Str.{bytes_eq}
use Rattle.up_names.specs.Texts.{Text, UserName}
use Rattle.up_names.specs.UserNames.{base_of}
use Rattle.up_policy.specs.Trees.{owns_snapshots}
use Rattle.up_rights.specs.RightSets.{Rights}
use Rattle.up_entry.specs.declared.entries.Entry.{Entry}
use Rattle.up_entry.specs.declared.records.Rec.{Rec}
use Rattle.up_log_tree.specs.Fits.{snapshot_user}
use Rattle.up_list.specs.Founds.{entry_found}
use Rattle.up_list.specs.Looks.{Look}
use Rattle.up_list.specs.Seen.{has_name}
use Rattle.up_list.specs.declared.found.Found.{Found}
use Rattle.up_answers.specs.SnapshotTrees.{snapshots_to}

-- the snapshot tree of these records, as a user meets it
abbrev pub look_at : UserName → List Rec → UserName → Look
look_at owner records user =
    record { owner = snapshot_user owner; tree = snapshots_to owner records (length records); loaded = []; user = user }

-- the user whose tree shows the snapshots of an owner's
pub record IsSnapUser (owner snap_user : UserName) : Type 0 where
  pub named : snap_user ≡ snapshot_user owner
  pub owns : owns_snapshots snap_user ≡ true
  pub base : base_of snap_user ≡ owner

-- the rights of a user on the snapshot tree of an owner's: read and list for the owner, and none for anyone else
abbrev pub held_by : UserName → UserName → Rights
held_by user owner =
    let looks = bytes_eq user owner in
    record { read = looks; write = false; list = looks; create = false; delete = false }

-- the first of some items that has this name as the element of its path at a place
abbrev pub first_named : ℕ → Text → List Found → Option Entry
first_named at name found = option_map entry_found (find (λ one. has_name at name (entry_found one)) found)
