-- The bytes of the blocks of a control file (this project's own).
use Rattle.std.specs.Prelude.{List, ℕ, ◌++◌, if◌then◌else◌, Result, Ok, Err}
use Rattle.std.specs.List.{list_any}
use Rattle.up_names.specs.Texts.{Text}
use Rattle.up_entry.specs.declared.entries.Block.{Block}
use Rattle.up_wire.specs.declared.replies.Reply.{Reply}
use Rattle.up_wire.specs.declared.replies.Reply.TheVariants as reply
use Rattle.up_list.specs.Changes.{◌>>=◌}
use Rattle.up_answers.specs.Fetching.{Fetched, fetch_for, is_failed, joined_bytes}

-- bytes, with others after them, unless those are refused
abbrev pub behind : List ℕ → Result (List ℕ) Reply → Result (List ℕ) Reply
behind front rest = rest >>= λ more. Ok (front ++ more)

-- the bytes of all blocks, or Io where the fetch of one failed
unfoldable pub bytes_of_all : Fetched → List Block → Result Text Reply
bytes_of_all fetched blocks =
    if list_any (λ block. is_failed (fetch_for fetched block)) blocks then Err reply.Io else joined_bytes fetched blocks
