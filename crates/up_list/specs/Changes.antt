-- What a change is answered, and the record that it adds (this project's own limits and order).
use Rattle.std.specs.Prelude.{ℕ, ◌+◌, Bool, ◌||◌, nat_lt, nat_le, ⊤, if◌then◌else◌, List, [], ◌∷◌, length, Option, Some, None, Result}
use Rattle.std.specs.Prelude as std
use Rattle.up_rights.specs.declared.Right.{Right}
use Rattle.up_rights.specs.declared.Right.TheVariants as right
use Rattle.up_entry.specs.declared.records.Rec.{Rec}
use Rattle.up_wire.specs.declared.replies.Reply.{Reply}
use Rattle.up_wire.specs.declared.replies.Reply.TheVariants as reply
use Rattle.up_wire.specs.declared.replies.Done.TheVariants as done
use Rattle.up_wire.specs.Bounds.{bounded}
use Rattle.up_log_tree.specs.declared.node.Node.{Node}
use Rattle.up_log_tree.specs.Sizes.{size_of}
use Rattle.up_log_tree.specs.Logs.{Log, bytes_of}

-- ---- one test after another, up to the first refusal

infixl 10 ◌>>=◌
-- the next test, where the first refused nothing; the first refusal is the reply
abbrev pub ◌>>=◌ : {A B : Type 0} → Result A Reply → (A → Result B Reply) → Result B Reply
(std.Ok x) >>= f = f x
(std.Err refusal) >>= f = std.Err refusal

-- a refusal, where there is one
abbrev pub unless : Option Reply → Result ⊤ Reply
unless None = std.Ok tt
unless (Some refusal) = std.Err refusal

-- a refusal where a test holds
abbrev pub refuse : Bool → Reply → Result ⊤ Reply
refuse holds refusal = if holds then std.Err refusal else std.Ok tt

-- the right that a Put needs, by what stands there
abbrev pub right_to_put : Option Node → Right
right_to_put None = right.Create
right_to_put (Some node) = right.Write

-- ---- what a request leads to: a record that is to be added (Ok), or else a reply (Err)

-- the log holds as many records as it may, or more; or it would have too many bytes with one of this size
abbrev pub is_full : Log → ℕ → Bool
is_full log size = nat_le log.limits.records (length log.records) || nat_lt log.limits.device (bytes_of log.records + size + 37)

-- What is answered: the reply, or TooLarge where it is an Ok above the bound of replies; for a record that is to be added TooLarge
-- where it is above the bound of records, Full exactly at the limits of the log, else its position.
unfoldable pub answer_of : Log → Result Rec Reply → Reply
answer_of log (std.Err reply') = bounded reply'
answer_of log (std.Ok rec) =
    if nat_lt log.limits.largest (size_of rec) then reply.TooLarge (size_of rec)
    else if is_full log (size_of rec) then reply.Full (length log.records)
    else reply.Ok (done.Changed (length log.records + 1))

-- the records that are added: the one that is answered by its position, or none
unfoldable pub added_by : Log → Result Rec Reply → List Rec
added_by log (std.Err reply') = []
added_by log (std.Ok rec) = if nat_lt log.limits.largest (size_of rec) || is_full log (size_of rec) then [] else rec ∷ []
