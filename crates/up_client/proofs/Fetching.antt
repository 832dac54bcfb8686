-- Blocks that are read in order.
use Rattle.std.proofs.Common.{◌≡◌, ℕ, ◌+◌, ◌<◌, ◌≤◌, List, [], ◌∷◌, ◌++◌, length, drop, get_or, Result, Ok, Err, sym, subst, ◌∙◌}
use Rattle.std.proofs.lemmas.List.{drop_all, drop_more}
use Rattle.up_entry.specs.declared.entries.Block.{Block}
use Rattle.up_client.specs.declared.ask.Ask.{Ghosts}
use Rattle.up_client.specs.declared.fault.ClientFault.{ClientFault}
use Rattle.up_client.specs.declared.fault.ClientFault.TheVariants as faults
use Rattle.up_client.specs.Getting.{fetched_at, fetching}
use Rattle.up_client.specs.Talks.{Talking, Talks, and_then, done}
use Rattle.up_client.proofs.Holding.{talks_done, talks_stop, talks_then, talks_wanting}

-- What is held from the one conversation on is held from the other on.
pub record GoesOn {S X : Type 0} (asked : Ghosts S) (from : Talking X) (a : S) (to : Talking X) (b : S) : Type 0 where
  pub goes : (result : Result X ClientFault) (c : S) → Talks asked to b result c → Talks asked from a result c

module _ {S : Type 0} (asked : Ghosts S) (same : (a : S) → asked.tied a a) (joined : (a b c : S) → asked.tied a b → asked.tied b c → asked.tied a c) where
  -- the first conversation of two ended well
  pub goes_then : {X Y : Type 0} (from : Talking Y) (talk : Talking X) (more : X → Talking Y) (a b c : S) (x : X)
      → GoesOn asked from a (and_then talk more) b → Talks asked talk b (Ok x) c → GoesOn asked from a (more x) c
  goes_then from talk more a b c x on first = record {
    goes = λ result d after. on.goes result d (talks_then asked same joined talk more b c d x result first after);
  }

  -- it ended with a fault
  pub goes_stop : {X Y : Type 0} (from : Talking Y) (talk : Talking X) (more : X → Talking Y) (a b c : S) (fault : ClientFault)
      → GoesOn asked from a (and_then talk more) b → Talks asked talk b (Err fault) c → Talks asked from a (Err fault) c
  goes_stop from talk more a b c fault on first = on.goes (Err fault) c (talks_stop asked same joined talk more b c fault first)

  -- memory was wanting
  pub goes_wanting : {X : Type 0} (from to : Talking X) (a b : S) → GoesOn asked from a to b → Talks asked from a (Err faults.OutOfMemory) b
  goes_wanting from to a b on = on.goes (Err faults.OutOfMemory) b (talks_wanting asked same joined to b)

  -- it is done
  pub goes_done : {X : Type 0} (from : Talking X) (a b : S) (x : X) → GoesOn asked from a (done (Ok x)) b → Talks asked from a (Ok x) b
  goes_done from a b x on = on.goes (Ok x) b (talks_done asked same joined (Ok x) b (λ failed. cc))

  -- block i was read, and the blocks behind it are
  pub fetch_more : (from : Talking (List (List ℕ))) (blocks : List Block) (i k : ℕ) (block : Block) (read : List (List ℕ)) (bytes : List ℕ) (a b c : S)
      → k < length blocks → block ≡ get_or blocks k block
      → GoesOn asked from a (fetching i (drop k blocks) read) b → Talks asked (fetched_at block.location.endpoint i block) b (Ok bytes) c
      → GoesOn asked from a (fetching (i + 1) (drop (k + 1) blocks) (read ++ bytes ∷ [])) c
  fetch_more from blocks i k block read bytes a b c below at on first =
      goes_then from (fetched_at block.location.endpoint i block) (λ bytes. fetching (i + 1) (drop (k + 1) blocks) (read ++ bytes ∷ [])) a b c bytes
      (next from blocks i k block read a b below at on) first
    where
      next : (from : Talking (List (List ℕ))) (blocks : List Block) (i k : ℕ) (block : Block) (read : List (List ℕ)) (a b : S)
          → k < length blocks → block ≡ get_or blocks k block
          → GoesOn asked from a (fetching i (drop k blocks) read) b → GoesOn asked from a (fetching i (block ∷ drop (k + 1) blocks) read) b
      next from blocks i k block read a b below at on =
          subst (λ (rest : List Block). GoesOn asked from a (fetching i rest read) b) (drop_more blocks k block below ∙ (λ j. sym at j ∷ drop (k + 1) blocks)) on

  -- block i was not read
  pub fetch_stop : (from : Talking (List (List ℕ))) (blocks : List Block) (i k : ℕ) (block : Block) (read : List (List ℕ)) (fault : ClientFault) (a b c : S)
      → k < length blocks → block ≡ get_or blocks k block
      → GoesOn asked from a (fetching i (drop k blocks) read) b → Talks asked (fetched_at block.location.endpoint i block) b (Err fault) c
      → Talks asked from a (Err fault) c
  fetch_stop from blocks i k block read fault a b c below at on first =
      goes_stop from (fetched_at block.location.endpoint i block) (λ bytes. fetching (i + 1) (drop (k + 1) blocks) (read ++ bytes ∷ [])) a b c fault
      (subst (λ (rest : List Block). GoesOn asked from a (fetching i rest read) b) (drop_more blocks k block below ∙ (λ j. sym at j ∷ drop (k + 1) blocks)) on) first

  -- no block is left
  pub fetch_end : (from : Talking (List (List ℕ))) (blocks : List Block) (i k : ℕ) (read : List (List ℕ)) (a b : S)
      → length blocks ≤ k → GoesOn asked from a (fetching i (drop k blocks) read) b → Talks asked from a (Ok read) b
  fetch_end from blocks i k read a b above on =
      goes_done from a b read (subst (λ (rest : List Block). GoesOn asked from a (fetching i rest read) b) (drop_all k blocks above) on)
