-- What it is to put a file. The size of a block is this project's own.
use Rattle.std.specs.Prelude.{ℕ, ℤ, zero, suc, ◌+◌, if◌then◌else◌, List, [], ◌∷◌, ◌++◌, length, take, drop, Result, Ok, Err}
use Rattle.std.specs.Str.{bytes_eq}
use Rattle.sha2.specs.Sha256.{sha256}
use Rattle.up_names.specs.PathNames.{PathName, canonical}
use Rattle.up_entry.specs.declared.entries.Block.{Block}
use Rattle.up_entry.specs.declared.entries.Endpoint.TheVariants as endpoints
use Rattle.up_wire.specs.declared.requests.Request.{Request}
use Rattle.up_wire.specs.declared.requests.Request.TheVariants as requests
use Rattle.up_wire.specs.declared.replies.Reply.{Reply}
use Rattle.up_client.specs.declared.fault.ClientFault.{ClientFault}
use Rattle.up_client.specs.declared.fault.ClientFault.TheVariants.{Corrupt}
use Rattle.up_client.specs.Links.{following}
use Rattle.up_client.specs.Replies.{◌>>=◌, outcome, position_in, reference_in}
use Rattle.up_client.specs.Talks.{Talking, done, and_then, reply_to}

-- the greatest size of a block
abbrev pub block_size : ℕ
block_size = 1048576

-- pieces of the greatest size, and what is left as the last one; at most so many
abbrev pub pieces_in : ℕ → List ℕ → List (List ℕ)
pieces_in zero bytes = []
pieces_in (suc most) [] = []
pieces_in (suc most) (b ∷ bytes) = take block_size (b ∷ bytes) ∷ pieces_in most (drop block_size (b ∷ bytes))

-- all pieces of some bytes, one after the other: no bytes give no piece, and any piece has a byte
abbrev pub pieces_of : List ℕ → List (List ℕ)
pieces_of bytes = pieces_in (length bytes) bytes

-- the reference that a store gave of a piece, which has to be that of its bytes
abbrev pub reference_from : List ℕ → Reply → Result (List ℕ) ClientFault
reference_from piece reply = do
  d ← outcome reply
  given ← reference_in d
  if bytes_eq given (sha256 piece) then Ok given else Err (Corrupt (sha256 piece) given)

-- a piece is kept, and what comes of it is its reference
abbrev pub stored : List ℕ → Talking (List ℕ)
stored piece = and_then (reply_to (requests.StorePut piece)) (λ reply. done (reference_from piece reply))

-- the block of a piece of this size, at this place of the file
abbrev pub block_at : ℕ → ℕ → List ℕ → Block
block_at offset size reference = record {
  location = record { endpoint = endpoints.Local; reference = reference };
  offset = offset;
  size = size;
  packdata = [];
}

-- these pieces are kept in order, of which the first stands at this place of the file; before them others were, as these blocks
abbrev pub storing : ℕ → List (List ℕ) → List Block → Talking (List Block)
storing offset [] blocks = done (Ok blocks)
storing offset (piece ∷ pieces) blocks =
    and_then (stored piece) (λ reference.
    storing (offset + length piece) pieces (blocks ++ block_at offset (length piece) reference ∷ []))

-- the request to put a plain file of these blocks at a path
abbrev pub put_file_at : List ℕ → ℤ → ℤ → List Block → PathName → Request
put_file_at user time sequence blocks path = requests.Put (record {
  signed_name = canonical path;
  packing = 1;
  time = time;
  blocks = blocks;
  packdata = [];
  link = [];
  writer = user;
  name = canonical path;
  attr = 0;
  sequence = sequence;
})

-- the entry of a file of these blocks is put, through at most 20 links
abbrev pub entering : List ℕ → ℤ → ℤ → PathName → List Block → Talking ℕ
entering user time sequence path blocks = and_then (following (put_file_at user time sequence blocks) 20 path) (λ d. done (position_in d))

-- A file is put at a path: its bytes are kept as blocks, in order, and then its entry is put.
abbrev pub put_talk : List ℕ → PathName → ℤ → ℤ → List ℕ → Talking ℕ
put_talk user path time sequence bytes = and_then (storing 0 (pieces_of bytes) []) (entering user time sequence path)
