-- What it is to get a file. This project's own.
use Rattle.std.specs.Prelude.{ℕ, ◌+◌, ◌==◌, not, if◌then◌else◌, List, [], ◌∷◌, ◌++◌, length, Result, Ok, Err}
use Rattle.std.specs.List.{concat}
use Rattle.std.specs.Str.{bytes_eq}
use Rattle.sha2.specs.Sha256.{sha256}
use Rattle.up_refs.specs.References.{text_of}
use Rattle.up_names.specs.PathNames.{PathName, canonical}
use Rattle.up_entry.specs.declared.entries.Block.{Block}
use Rattle.up_entry.specs.declared.entries.Endpoint.{Endpoint}
use Rattle.up_entry.specs.declared.entries.Endpoint.TheVariants as endpoints
use Rattle.up_entry.specs.declared.entries.Entry.{Entry}
use Rattle.up_entry.specs.declared.entries.Kind.{Kind}
use Rattle.up_entry.specs.declared.entries.Kind.TheVariants as kinds
use Rattle.up_wire.specs.declared.requests.Request.{Request}
use Rattle.up_wire.specs.declared.requests.Request.TheVariants as requests
use Rattle.up_wire.specs.declared.replies.Done.{Done}
use Rattle.up_wire.specs.declared.replies.Done.TheVariants as dones
use Rattle.up_wire.specs.declared.replies.Reply.{Reply}
use Rattle.up_client.specs.declared.fault.ClientFault.{ClientFault}
use Rattle.up_client.specs.declared.fault.ClientFault.TheVariants.{IsDir, NoRead, Opaque, Elsewhere, BadSize, Corrupt, Odd}
use Rattle.up_client.specs.Links.{following}
use Rattle.up_client.specs.Replies.{◌>>=◌, bytes_in, outcome}
use Rattle.up_client.specs.Talks.{Talking, done, and_then, reply_to}

-- the request for the entry at a path
abbrev pub look_up_at : PathName → Request
look_up_at path = requests.Lookup (canonical path)

-- the blocks of a file that may be read, or the first reason against it that fits
abbrev pub file_blocks : Kind → Entry → Result (List Block) ClientFault
file_blocks kinds.Link entry = Err Odd
file_blocks kinds.Directory entry = Err IsDir
file_blocks kinds.File entry =
    if entry.attr.incomplete then Err NoRead
    else if not (entry.packing == 1) then Err (Opaque entry.packing)
    else Ok entry.blocks

-- the blocks that are to be read of what was looked up
abbrev pub blocks_in : Done → Result (List Block) ClientFault
blocks_in (dones.Entry entry) = file_blocks entry.attr.kind entry
blocks_in d = Err Odd

-- bytes that have the size and the reference of block i
abbrev pub fitting : ℕ → Block → List ℕ → Result (List ℕ) ClientFault
fitting i block bytes =
    if not (length bytes == block.size) then Err (BadSize i block.size (length bytes))
    else if not (bytes_eq (sha256 bytes) block.location.reference) then Err (Corrupt block.location.reference (sha256 bytes))
    else Ok bytes

-- the bytes of block i, by the reply to the request for it
abbrev pub block_from : ℕ → Block → Reply → Result (List ℕ) ClientFault
block_from i block reply = do
  d ← outcome reply
  bytes ← bytes_in d
  fitting i block bytes

-- block i is asked for where it is kept beside the entry, and nowhere else
abbrev pub fetched_at : Endpoint → ℕ → Block → Talking (List ℕ)
fetched_at endpoints.Local i block =
    and_then (reply_to (requests.Get (text_of block.location.reference))) (λ reply. done (block_from i block reply))
fetched_at (endpoints.Address address) i block = done (Err (Elsewhere i))

-- these blocks, of which the first is block i, are read in order; before them the others were
abbrev pub fetching : ℕ → List Block → List (List ℕ) → Talking (List (List ℕ))
fetching i [] read = done (Ok read)
fetching i (block ∷ blocks) read =
    and_then (fetched_at block.location.endpoint i block) (λ bytes. fetching (i + 1) blocks (read ++ bytes ∷ []))

-- blocks are read in order, and then joined
abbrev pub joined_blocks : List Block → Talking (List ℕ)
joined_blocks blocks = and_then (fetching 0 blocks []) (λ read. done (Ok (concat read)))

-- what was looked up is read
abbrev pub reading : Done → Talking (List ℕ)
reading d = and_then (done (blocks_in d)) joined_blocks

-- The file at a path: its entry is looked up, through at most 20 links, and then its blocks are read.
abbrev pub get_talk : PathName → Talking (List ℕ)
get_talk path = and_then (following look_up_at 20 path) reading
