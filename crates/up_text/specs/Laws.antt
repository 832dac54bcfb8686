-- Laws of the lines that tell replies: which bytes stand in a line, and which replies have the same lines. This project's own.
use Rattle.std.specs.Prelude.{◌≡◌, ◌↔◌, ℕ, ◌<◌, Bool, false, nat_le, if◌then◌else◌, List, length, map, codes, bytes_eq, ⊤}
use Rattle.std.specs.Prelude.{Option, Some, None}
use Rattle.std.specs.List.{list_any, AllByRecursion}
use Rattle.up_bytes.specs.Spelling.{IsByte}
use Rattle.up_names.specs.Texts.{Text}
use Rattle.up_entry.specs.declared.entries.Endpoint.{Endpoint}
use Rattle.up_entry.specs.declared.entries.Endpoint.TheVariants.{Local, Address}
use Rattle.up_entry.specs.declared.entries.Entry.{Entry}
use Rattle.up_wire.specs.declared.keys.KeyRecord.{KeyRecord}
use Rattle.up_wire.specs.declared.replies.Done.{Done}
use Rattle.up_wire.specs.declared.replies.Done.TheVariants as done
use Rattle.up_wire.specs.declared.replies.Reply.{Reply}
use Rattle.up_wire.specs.declared.replies.Reply.TheVariants as reply
use Rattle.up_wire.specs.Spelling.{IsReply, IsSpelledReply}
use Rattle.up_text.specs.Lines.{line_words}
use Rattle.up_text.specs.Replies.{reply_lines}

-- ---- which replies are meant

-- each of these numbers is a byte
abbrev pub IsBytes : List ℕ → Type 0
IsBytes = AllByRecursion IsByte

-- the reference of each block of an entry is of bytes
abbrev pub AreOfBytes : Entry → Type 0
AreOfBytes e = AllByRecursion (λ b. IsBytes b.location.reference) e.blocks

-- the references of an entry, where there is one, are bytes
abbrev pub IsOfBytes : Option Entry → Type 0
IsOfBytes None = ⊤
IsOfBytes (Some e) = AreOfBytes e

-- each reference of what was done is of bytes
abbrev pub HasByteReferences : Done → Type 0
HasByteReferences (done.Entry e) = AreOfBytes e
HasByteReferences (done.Rows rows) = AllByRecursion (λ row. AreOfBytes row.entry) rows
HasByteReferences (done.Access found) = IsOfBytes found
HasByteReferences (done.Events events next) = AllByRecursion (λ event. AreOfBytes event.entry) events
HasByteReferences (done.Reference reference) = IsBytes reference
HasByteReferences _ = ⊤

-- each reference of a reply is of bytes
abbrev pub ReferencesAreBytes : Reply → Type 0
ReferencesAreBytes (reply.Ok d) = HasByteReferences d
ReferencesAreBytes (reply.FollowLink e) = AreOfBytes e
ReferencesAreBytes (reply.BadBlock reference) = IsBytes reference
ReferencesAreBytes _ = ⊤

-- what each reply of the program is, by its types
abbrev pub IsTold : Reply → Type 0
IsTold given = IsReply given × ReferencesAreBytes given

-- ---- a line is words, parted by single spaces

-- a byte up to 0x20, a space and LF among them
abbrev pub is_blank : ℕ → Bool
is_blank b = nat_le b 32

-- a word of output is not empty, and has no byte up to 0x20
abbrev pub IsWord : Text → Type 0
IsWord word = (0 < length word) × (list_any is_blank word ≡ false)

-- a line cut at each of its spaces gives words alone: so single spaces part them, and no other byte up to 0x20 stands there
abbrev pub IsLine : Text → Type 0
IsLine line = AllByRecursion IsWord (line_words line)

-- The law of lines: those of each reply that is meant, cut at each of their spaces, give words alone. So single spaces part them, and no
-- other byte up to 0x20 stands there.
abbrev pub LinesAreWords : Type 0
LinesAreWords = (given : Reply) → IsTold given → AllByRecursion IsLine (reply_lines given)

-- ---- different replies have different lines

-- in a list of endpoints the host's own store and the address `local` are printed alike
abbrev pub endpoint_told : Endpoint → Endpoint
endpoint_told Local = Local
endpoint_told (Address address) = if bytes_eq address (codes "local") then Local else Address address

-- a key record as it is printed, where the host's own store and the address `local` are alike
abbrev pub key_told : KeyRecord → KeyRecord
key_told known = record known {
  dirs = map (λ endpoint. endpoint_told endpoint) known.dirs;
  stores = map (λ endpoint. endpoint_told endpoint) known.stores;
}

-- what was done as it is printed
abbrev pub done_told : Done → Done
done_told (done.Key known) = done.Key (key_told known)
done_told d = d

-- a reply as its lines tell it: its lists of endpoints aside, exactly what it is
abbrev pub told : Reply → Reply
told (reply.Ok d) = reply.Ok (done_told d)
told given = given

-- replies that are printed alike
abbrev pub AreAlike : Reply → Reply → Type 0
AreAlike one other = told one ≡ told other

-- two replies that have a spelling, in which no address is empty, have the same lines exactly where they are alike
abbrev pub LinesTellReplies : Type 0
LinesTellReplies = (one other : Reply) → IsTold one → IsTold other → IsSpelledReply one → IsSpelledReply other →
    (reply_lines one ≡ reply_lines other) ↔ AreAlike one other
