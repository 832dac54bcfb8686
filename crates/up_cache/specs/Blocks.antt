-- Blocks that are held, the one used last first. This project's own.
use Rattle.std.specs.Prelude.{◌≡◌, ◌≤◌, ℕ, List, [], ◌∷◌, length, take, Option, Some, None, Result, IfOk}
use Rattle.std.specs.List.{AllByRecursion}
use Rattle.std.specs.Map.{lookup_entry, remove_entry}
use Rattle.std.specs.Str.{bytes_eq}
use Rattle.sha2.specs.Sha256.{sha256}

-- a block: a reference, and the bytes that are held for it
abbrev pub Block : Type 0
Block = List ℕ × List ℕ

-- blocks, the one used last first, and how many of them there may be
pub record BlockCache : Type 0 where
  pub blocks : List Block
  pub capacity : ℕ

-- the block that is held with a reference
abbrev pub held : List Block → List ℕ → Option Block
held blocks reference = lookup_entry (bytes_eq reference) blocks

-- a block that is held comes to the front
abbrev pub in_front : Block → BlockCache → BlockCache
in_front block cache = record cache { blocks = block ∷ remove_entry (bytes_eq block.0) cache.blocks }

-- a block is put at the front, and of too many the last one is let go
abbrev pub with_block : Block → BlockCache → BlockCache
with_block block cache = record cache { blocks = take cache.capacity (block ∷ cache.blocks) }

-- A block is recalled: a copy of its bytes comes, or there is no memory for one, and the block comes to the front. Of one that is not held
-- nothing comes, and all is as it was.
abbrev pub Recalled : {E : Type 0} → BlockCache → Option Block → Option (Result (List ℕ) E) → BlockCache → Type 0
Recalled old (Some block) (Some copy) new = IfOk copy (λ bytes. bytes ≡ block.1) × (new ≡ in_front block old)
Recalled old None None new = new ≡ old
Recalled old block copy new = ⊥

-- a block is held beside its reference, the SHA-256 of its bytes
abbrev pub IsBlock : Block → Type 0
IsBlock block = sha256 block.1 ≡ block.0

-- each of these blocks is held beside its reference
abbrev pub AreBlocks : List Block → Type 0
AreBlocks = AllByRecursion IsBlock

-- Of 1 to 1,024 blocks that there may be no more are held, and each is bytes and their reference.
pub record IsBlockCache (cache : BlockCache) : Type 0 where
  pub least : 1 ≤ cache.capacity
  pub most : cache.capacity ≤ 1024
  pub room : length cache.blocks ≤ cache.capacity
  pub named : AreBlocks cache.blocks
