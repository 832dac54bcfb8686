-- Whoever is asked through a cache of blocks. This project's own.
use Rattle.std.specs.Prelude.{◌≡◌, ◌⊎◌, ℕ, Bool, true, false, List, [], Option, Some, None, Result, Ok, Err, if◌then◌else◌}
use Rattle.std.specs.Str.{bytes_eq}
use Rattle.sha2.specs.Sha256.{sha256}
use Rattle.up_lists.specs.Counts.{count_after}
use Rattle.up_refs.specs.References.{reference_in}
use Rattle.up_wire.specs.declared.replies.Done.TheVariants as dones
use Rattle.up_wire.specs.declared.replies.Reply.{Reply}
use Rattle.up_wire.specs.declared.replies.Reply.TheVariants as replies
use Rattle.up_wire.specs.declared.requests.Request.{Request}
use Rattle.up_wire.specs.declared.requests.Request.TheVariants as requests
use Rattle.up_cache.specs.Blocks.{Block, BlockCache, held, in_front, with_block}

-- whoever is asked, the blocks that are held, and how many requests for blocks were passed on, and answered from here
pub record Caching (S : Type 0) : Type 0 where
  pub ask : S
  pub cache : BlockCache
  pub asked : ℕ
  pub kept : ℕ

-- a cache with no block, over whoever is asked, of which nothing was asked yet
abbrev pub caching : {S : Type 0} → S → ℕ → Caching S
caching ask capacity = record { ask = ask; cache = record { blocks = []; capacity = capacity }; asked = 0; kept = 0 }

-- a count after one more, which stays at 2^64 - 1 once it stands there
abbrev pub one_more : ℕ → ℕ
one_more count = count_after count 1

-- whether a request is for a block
abbrev pub is_get : Request → Bool
is_get (requests.Get text) = true
is_get request = false

-- the reference that a request for a block has; none of any other request, and none where the text is no reference
abbrev pub wanted : Request → Option (List ℕ)
wanted (requests.Get text) = reference_in text
wanted request = None

-- the block that is held for a request
abbrev pub held_for : List Block → Option (List ℕ) → Option Block
held_for blocks None = None
held_for blocks (Some reference) = held blocks reference

-- the block of these bytes, where their reference is the wanted one
abbrev pub block_of : List ℕ → List ℕ → Option Block
block_of reference bytes = if bytes_eq (sha256 bytes) reference then Some (reference, bytes) else None

-- the block that a reply brings
abbrev pub brought : Option (List ℕ) → Option Reply → Option Block
brought (Some reference) (Some (replies.Ok (dones.Bytes bytes))) = block_of reference bytes
brought reference given = None

-- A block that is brought is put at the front, or is not for want of memory. Else all stays as it was.
abbrev pub Keeps : BlockCache → Option Block → BlockCache → Type 0
Keeps old (Some block) new = (new ≡ with_block block old) ⊎ (new ≡ old)
Keeps old None new = new ≡ old

-- A request for a block that is held is answered from here: with its bytes, or by want of memory. Nobody else is asked.
pub record FromHere {S : Type 0} (block : Block) (old : Caching S) (given : Option Reply) (new : Caching S) : Type 0 where
  pub reply : (given ≡ Some (replies.Ok (dones.Bytes block.1))) ⊎ (given ≡ Some replies.OutOfMemory)
  pub ask_stays : new.ask ≡ old.ask
  pub to_front : new.cache ≡ in_front block old.cache
  pub asked : new.asked ≡ old.asked
  pub kept : new.kept ≡ one_more old.kept

-- what is answered with a copy of the bytes, or where there was no memory for one
abbrev pub reply_of : {E : Type 0} → Result (List ℕ) E → Reply
reply_of (Ok bytes) = replies.Ok (dones.Bytes bytes)
reply_of (Err wanting) = replies.OutOfMemory

-- What comes of looking among the blocks alone: the answer from here, or nothing where none is held.
abbrev pub RecalledReply : {S : Type 0} → Option Block → Caching S → Option Reply → Caching S → Type 0
RecalledReply (Some block) old (Some reply) new = FromHere block old (Some reply) new
RecalledReply None old None new = new ≡ old
RecalledReply block old given new = ⊥

-- Any other request is passed on once, and its reply is given.
pub record PassedOn {S : Type 0} (answers : S → Request → Option Reply → S → Type 0)
    (old : Caching S) (request : Request) (given : Option Reply) (new : Caching S) : Type 0 where
  pub answered : answers old.ask request given new.ask
  pub cache : Keeps old.cache (brought (wanted request) given) new.cache
  pub asked : new.asked ≡ (if is_get request then one_more old.asked else old.asked)
  pub kept : new.kept ≡ old.kept

module _ {S : Type 0} (answers : S → Request → Option Reply → S → Type 0) where
  -- a request is answered from here where its block is held, and else passed on
  abbrev pub AnsweredBy : Option Block → Caching S → Request → Option Reply → Caching S → Type 0
  AnsweredBy (Some block) old request given new = FromHere block old given new
  AnsweredBy None old request given new = PassedOn answers old request given new

  -- a request is asked of a cache over somebody who answers by this relation
  abbrev pub CachedAnswers : Caching S → Request → Option Reply → Caching S → Type 0
  CachedAnswers old request given new = AnsweredBy (held_for old.cache.blocks (wanted request)) old request given new
