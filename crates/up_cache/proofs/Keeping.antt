-- Blocks that are kept in the entries of a cache.
use Rattle.std.proofs.Common.{◌≡◌, ◌⊎◌, inl, inr, ◌≤◌, ◌-◌, ℕ, zero, suc, Bool, true, false, List, [], ◌∷◌, take, length, Option, Some, None, Result, Ok, Err, refl, sym, ap, subst, ◌∙◌, arith}
use Rattle.std.specs.Prelude.{IfOk, IfSome, OnOk, OnErr, cond, not, if◌then◌else◌}
use Rattle.std.proofs.lemmas.Slice.Eq.{bytes_eq-Decides}
use Rattle.std.specs.List.{AllByRecursion}
use Rattle.std.specs.Map.{lookup, lookup_entry, remove_entry}
use Rattle.std.specs.Str.{bytes_eq}
use Rattle.sha2.specs.Sha256.{sha256}
use Rattle.lru.specs.LruCache.{LruCache, lru_cache, promoted, put_entries}
use Rattle.up_cache.specs.Blocks.{AreBlocks, Block, BlockCache, IsBlock, Recalled, held, in_front, with_block}
use Rattle.up_cache.specs.Caching.{Keeps, block_of}

-- the bytes of a block, where there is one
abbrev pub found_bytes : Option Block → Option (List ℕ)
found_bytes None = None
found_bytes (Some block) = Some block.1

-- what holds of all blocks holds of fewer of them
module _ (P : Block → Type 0) where
  pub all_taken : (n : ℕ) (blocks : List Block) → AllByRecursion P blocks → AllByRecursion P (take n blocks)
  all_taken zero blocks are = tt
  all_taken (suc n) [] are = tt
  all_taken (suc n) (b ∷ blocks) are = (are.0, all_taken n blocks are.1)

  without_one : (t : Bool) (b : Block) (blocks less : List Block) → AllByRecursion P (b ∷ blocks) → AllByRecursion P less → AllByRecursion P (cond t blocks (b ∷ less))
  without_one true b blocks less are rest = are.1
  without_one false b blocks less are rest = (are.0, rest)

  all_without : (test : List ℕ → Bool) (blocks : List Block) → AllByRecursion P blocks → AllByRecursion P (remove_entry test blocks)
  all_without test [] are = tt
  all_without test (b ∷ blocks) are = without_one (test b.0) b blocks (remove_entry test blocks) are (all_without test blocks are.1)

  first_is : (t : Bool) (b block : Block) (more : Option Block) → P b → (more ≡ Some block → P block) → cond t (Some b) more ≡ Some block → P block
  first_is true b block more one other e = let same : b ≡ block = cc in subst P same one
  first_is false b block more one other e = other e

  pub found_is : (test : List ℕ → Bool) (blocks : List Block) (block : Block) → AllByRecursion P blocks → lookup_entry test blocks ≡ Some block → P block
  found_is test [] block are is = absurd (cc)
  found_is test (b ∷ blocks) block are is = first_is (test b.0) b block (lookup_entry test blocks) are.0 (λ e. found_is test blocks block are.1 e) is

  -- and of one of them that comes to the front
  pub all_in_front : (reference : List ℕ) (cache : BlockCache) (block : Block) → AllByRecursion P cache.blocks → held cache.blocks reference ≡ Some block → AllByRecursion P (in_front block cache).blocks
  all_in_front reference cache block are is = (found_is (bytes_eq reference) cache.blocks block are is, all_without (bytes_eq block.0) cache.blocks are)

first_passes : (test : List ℕ → Bool) (t : Bool) (b block : Block) (more : Option Block) → test b.0 ≡ t → (more ≡ Some block → test block.0 ≡ true) → cond t (Some b) more ≡ Some block → test block.0 ≡ true
first_passes test true b block more is other e = let same : b ≡ block = cc in subst (λ (x : Block). test x.0 ≡ true) same is
first_passes test false b block more is other e = other e

-- a block that is found passes the test
found_passes : (test : List ℕ → Bool) (blocks : List Block) (block : Block) → lookup_entry test blocks ≡ Some block → test block.0 ≡ true
found_passes test [] block is = absurd (cc)
found_passes test (b ∷ blocks) block is = first_passes test (test b.0) b block (lookup_entry test blocks) refl (λ e. found_passes test blocks block e) is

-- a block that is held with a reference has it
pub held_named : (blocks : List Block) (reference : List ℕ) (block : Block) → held blocks reference ≡ Some block → block.0 ≡ reference
held_named blocks reference block is = sym ((bytes_eq-Decides reference block.0).0 (found_passes (bytes_eq reference) blocks block is))

module _ (test : List ℕ → Bool) where
  first_value : (t : Bool) (b : Block) (value : Option (List ℕ)) (more : Option Block) → value ≡ found_bytes more → cond t (Some b.1) value ≡ found_bytes (cond t (Some b) more)
  first_value true b value more same = refl
  first_value false b value more same = same

  -- the value that is found is that of the block that is found
  found_value : (blocks : List Block) → lookup test blocks ≡ found_bytes (lookup_entry test blocks)
  found_value [] = refl
  found_value (b ∷ blocks) = first_value (test b.0) b (lookup test blocks) (lookup_entry test blocks) (found_value blocks)

  bytes_none : (found : Option Block) → found_bytes found ≡ None → found ≡ None
  bytes_none None is = refl
  bytes_none (Some block) is = absurd (cc)

  -- no value is found, and so no block
  pub none_found : (blocks : List Block) → lookup test blocks ≡ None → lookup_entry test blocks ≡ None
  none_found blocks is = bytes_none (lookup_entry test blocks) (sym (found_value blocks) ∙ is)

pub promoted_are : (reference : List ℕ) (blocks : List Block) → AreBlocks blocks → AreBlocks (promoted (bytes_eq reference) blocks)
promoted_are reference blocks are = by (lookup_entry (bytes_eq reference) blocks) refl
  where
    by : (found : Option Block) → lookup_entry (bytes_eq reference) blocks ≡ found → AreBlocks (promoted (bytes_eq reference) blocks)
    by None is = rw is are
    by (Some block) is = rw is (found_is IsBlock (bytes_eq reference) blocks block are is, all_without IsBlock (bytes_eq reference) blocks are)

abbrev seen : LruCache (List ℕ) (List ℕ) → BlockCache
seen c = record { blocks = c.entries; capacity = c.cap }

-- what came of a block by the value that was found for its reference
pub recalled : {E : Type 0} (reference : List ℕ) (old : LruCache (List ℕ) (List ℕ)) (self : BlockCache) (same : seen old ≡ self) (bytes : List ℕ) (copy : Result (List ℕ) E) (new : LruCache (List ℕ) (List ℕ))
    → lookup (bytes_eq reference) old.entries ≡ Some bytes → IfOk copy (λ b. b ≡ bytes) → new ≡ lru_cache (promoted (bytes_eq reference) old.entries) old.cap
    → Recalled self (held self.blocks reference) (Some copy) (seen new)
recalled {E} reference old self same bytes copy new is copied after =
    subst (λ (k : BlockCache). Recalled k (held k.blocks reference) (Some copy) (seen new)) same (by (lookup_entry (bytes_eq reference) old.entries) refl)
  where
    with_bytes : (given : List ℕ) → bytes ≡ given → IfOk copy (λ b. b ≡ given)
    with_bytes given e = subst (λ g. IfOk copy (λ b. b ≡ g)) e copied

    by : (found : Option Block) → lookup_entry (bytes_eq reference) old.entries ≡ found → Recalled (seen old) found (Some copy) (seen new)
    by None none = absurd (let e : None ≡ Some bytes = sym (ap found_bytes none) ∙ sym (found_value (bytes_eq reference) old.entries) ∙ is in cc)
    by (Some block) some =
        let e : Some block.1 ≡ Some bytes = sym (ap found_bytes some) ∙ sym (found_value (bytes_eq reference) old.entries) ∙ is in
        let name : block.0 ≡ reference = held_named old.entries reference block some in
        let front : promoted (bytes_eq reference) old.entries ≡ block ∷ remove_entry (bytes_eq reference) old.entries = rw some in
        let named_front : promoted (bytes_eq reference) old.entries ≡ block ∷ remove_entry (bytes_eq block.0) old.entries = front ∙ ap (λ r. block ∷ remove_entry (bytes_eq r) old.entries) (sym name) in
        (with_bytes block.1 (cc), ap seen (after ∙ ap (λ blocks. lru_cache blocks old.cap) named_front))

pub not_recalled : (E : Type 0) (reference : List ℕ) (old : LruCache (List ℕ) (List ℕ)) (self : BlockCache) (same : seen old ≡ self)
    → lookup (bytes_eq reference) old.entries ≡ None → Recalled {E = E} self (held self.blocks reference) None self
not_recalled E reference old self same none =
    let here : lookup_entry (bytes_eq reference) self.blocks ≡ None = subst (λ (k : BlockCache). lookup_entry (bytes_eq reference) k.blocks ≡ None) same (none_found (bytes_eq reference) old.entries none) in
    subst (λ (found : Option Block). Recalled {E = E} self found None self) (sym here) refl

pub promoted_kept : (reference : List ℕ) (old new : LruCache (List ℕ) (List ℕ)) → new ≡ lru_cache (promoted (bytes_eq reference) old.entries) old.cap → AreBlocks old.entries → 1 ≤ old.cap → old.cap ≤ 1024
    → AreBlocks new.entries × (1 ≤ new.cap) × (new.cap ≤ 1024)
promoted_kept reference old new after are least most = rw after (promoted_are reference old.entries are, least, most)

-- a block that was not held is put at the front
put_in_front : (reference bytes : List ℕ) (cache : BlockCache) → 1 ≤ cache.capacity → lookup_entry (bytes_eq reference) cache.blocks ≡ None
    → put_entries bytes_eq (lru_cache cache.blocks cache.capacity) reference bytes ≡ take cache.capacity ((reference, bytes) ∷ cache.blocks)
put_in_front reference bytes cache least none = rw none (by cache.capacity least)
  where
    by : (n : ℕ) → 1 ≤ n → (reference, bytes) ∷ take (n - 1) cache.blocks ≡ take n ((reference, bytes) ∷ cache.blocks)
    by zero le = absurd (omega (arith, le))
    by (suc n) le = let e : suc n - 1 ≡ n = omega arith in rw e

named_block : (reference bytes : List ℕ) → sha256 bytes ≡ reference → block_of reference bytes ≡ Some (reference, bytes)
named_block reference bytes named = rw ((bytes_eq-Decides (sha256 bytes) reference).1 named)

-- what is kept after a put that may have had no memory
module _ (reference bytes : List ℕ) (old : LruCache (List ℕ) (List ℕ)) (self : BlockCache) (same : seen old ≡ self)
    (least : 1 ≤ old.cap) (none : held self.blocks reference ≡ None) (named : sha256 bytes ≡ reference) where
  as_put : (copy : List ℕ) (new : LruCache (List ℕ) (List ℕ)) → copy ≡ bytes → new ≡ lru_cache (put_entries bytes_eq old reference copy) old.cap
      → new ≡ lru_cache (take old.cap ((reference, bytes) ∷ old.entries)) old.cap
  as_put copy new is put =
      let here : lookup_entry (bytes_eq reference) old.entries ≡ None = subst (λ (k : BlockCache). held k.blocks reference ≡ None) (sym same) none in
      put ∙ ap (λ b. lru_cache (put_entries bytes_eq old reference b) old.cap) is ∙ ap (λ blocks. lru_cache blocks old.cap) (put_in_front reference bytes (seen old) least here)

  put_by : {T E : Type 0} (result : Result T E) (copy : List ℕ) (new : LruCache (List ℕ) (List ℕ)) → copy ≡ bytes
      → OnOk result (new ≡ lru_cache (put_entries bytes_eq old reference copy) old.cap) → OnErr result (new ≡ old)
      → (seen new ≡ with_block (reference, bytes) self) ⊎ (seen new ≡ self)
  put_by (Ok done) copy new is ok err = inl (ap seen (as_put copy new is ok) ∙ ap (λ (k : BlockCache). with_block (reference, bytes) k) same)
  put_by (Err why) copy new is ok err = inr (ap seen err ∙ same)

  pub put_keeps : {T E : Type 0} (result : Result T E) (copy : List ℕ) (new : LruCache (List ℕ) (List ℕ)) → copy ≡ bytes
      → OnOk result (new ≡ lru_cache (put_entries bytes_eq old reference copy) old.cap) → OnErr result (new ≡ old) → Keeps self (block_of reference bytes) (seen new)
  put_keeps result copy new is ok err = subst (λ (found : Option Block). Keeps self found (seen new)) (sym (named_block reference bytes named)) (put_by result copy new is ok err)

  pub put_are : {T E : Type 0} (result : Result T E) (copy : List ℕ) (new : LruCache (List ℕ) (List ℕ)) → copy ≡ bytes → AreBlocks old.entries → old.cap ≤ 1024
      → OnOk result (new ≡ lru_cache (put_entries bytes_eq old reference copy) old.cap) → OnErr result (new ≡ old)
      → AreBlocks new.entries × (1 ≤ new.cap) × (new.cap ≤ 1024)
  put_are (Ok done) copy new is are most ok err =
      rw (as_put copy new is ok) (all_taken IsBlock old.cap ((reference, bytes) ∷ old.entries) (named, are), least, most)
  put_are (Err why) copy new is are most ok err = rw err (are, least, most)

-- bytes that have another reference, and bytes for which there was no memory
pub keeps_other : (reference bytes : List ℕ) (self : BlockCache) (other : Bool) → other ≡ not (bytes_eq (sha256 bytes) reference) → other ≡ true → Keeps self (block_of reference bytes) self
keeps_other reference bytes self other test one = by (bytes_eq (sha256 bytes) reference) (sym test ∙ one)
  where
    by : (t : Bool) → not t ≡ true → Keeps self (if t then Some (reference, bytes) else None) self
    by true e = absurd (cc)
    by false e = refl

pub keeps_none : (reference bytes : List ℕ) (self : BlockCache) → Keeps self (block_of reference bytes) self
keeps_none reference bytes self = by (bytes_eq (sha256 bytes) reference)
  where
    by : (t : Bool) → Keeps self (if t then Some (reference, bytes) else None) self
    by true = inr refl
    by false = refl

not_false : (t : Bool) → not t ≡ false → t ≡ true
not_false true e = refl
not_false false e = absurd (cc)

-- what a test for another reference says where it fails
pub named_so : (digest reference bytes : List ℕ) (other : Bool) → digest ≡ sha256 bytes → other ≡ not (bytes_eq digest reference) → other ≡ false → sha256 bytes ≡ reference
named_so digest reference bytes other is test one = sym is ∙ (bytes_eq-Decides digest reference).0 (not_false (bytes_eq digest reference) (sym test ∙ one))
