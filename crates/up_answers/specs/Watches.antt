-- The reply to Watch: what happened under a path, or what there is (Upspin overview; batches and sequences are this project's
-- own).
use Rattle.std.specs.Prelude.{ℕ, zero, suc, ℤ, pos, negsuc, int_le, Bool, false, not, ◌&&◌, nat_lt, if◌then◌else◌}
use Rattle.std.specs.Prelude.{List, [], length, take, filter, slice_get, Option, Some, None, unwrap_or}
use Rattle.std.specs.Option.{option_map}
use Rattle.std.specs.Map.{values_of}
use Rattle.up_names.specs.Texts.{UserName}
use Rattle.up_names.specs.PathNames.{PathName, is_under}
use Rattle.up_entry.specs.declared.what.What.TheVariants as what
use Rattle.up_policy.specs.Loadings.{Loading}
use Rattle.up_wire.specs.declared.replies.WatchEvent.{WatchEvent}
use Rattle.up_wire.specs.declared.replies.Reply.{Reply}
use Rattle.up_wire.specs.declared.replies.Reply.TheVariants.{Ok, Invalid}
use Rattle.up_wire.specs.declared.replies.Done.TheVariants as done
use Rattle.up_log_tree.specs.Trees.{made_of}
use Rattle.up_log_tree.specs.Logs.{Log}
use Rattle.up_list.specs.Looks.{Look, has_some, shown, look_now}
use Rattle.up_list.specs.Checks.{check, ways}
use Rattle.up_answers.specs.Events.{events}

-- whether an event is of a record above a sequence, on a path under the watched one
abbrev pub is_watched : ℕ → PathName → WatchEvent → Bool
is_watched sequence path event = nat_lt sequence event.position && is_under event.entry.name path

-- the position of the event at a place, from 0
abbrev pub position_at : List WatchEvent → ℕ → Option ℕ
position_at found i = option_map (λ (event : WatchEvent). event.position) (slice_get found i)

-- the first 256 events, and the sequence to go on from: the position of the 256th where there are more, else the log's length
unfoldable pub batch : ℕ → List WatchEvent → Reply
batch records found =
    Ok (done.Events (take 256 found) (if nat_lt 256 (length found) then unwrap_or (position_at found 255) records else records))

-- the items under a path on which the user has any right, each as a Put at its sequence, in order of paths
unfoldable pub items_under : Look → PathName → List WatchEvent
items_under look path =
    values_of (made_of (λ name node. if is_under name path && has_some look name
    then Some (record { position = node.entry.sequence; delete = false; entry = shown look node.entry }) else None) look.tree)

-- What is told of a path, by the sequence. From 0 on: the events above it, but Invalid(Sequence) where it is above the log's
-- length. At -1: the items as they are now. At -2: nothing but the log's length.
unfoldable pub watched : Log → Loading → UserName → PathName → ℤ → Reply
watched log loaded user path (pos sequence) =
    if nat_lt (length log.records) sequence then Invalid what.Sequence
    else batch (length log.records) (filter (is_watched sequence path) (events log loaded user))
watched log loaded user path (negsuc zero) = Ok (done.Events (items_under (look_now log loaded user) path) (length log.records))
watched log loaded user path (negsuc (suc n)) = Ok (done.Events [] (length log.records))

-- Watch: a sequence below -2 is Invalid(Sequence) whatever the tree. Then any right; the item need not be there. Then what is told.
unfoldable pub watch_reply : Log → Loading → UserName → PathName → ℤ → Reply
watch_reply log loaded user path sequence =
    if not (int_le (negsuc 1) sequence) then Invalid what.Sequence
    else unwrap_or (check (look_now log loaded user) (ways path) path None) (watched log loaded user path sequence)
