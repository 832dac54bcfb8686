-- Nonces drawn from a seed. This project's own.
use Rattle.std.specs.Prelude.{◌≡◌, ℕ, ◌+◌, ◌%◌, ◌^◌, List, ◌++◌, Option, Some, None, Result, Ok, Err}
use Rattle.std.specs.Int.{w64, to_be_bytes}
use Rattle.sha2.specs.Sha256.{sha256}

-- a seed, and how many nonces were drawn from it
pub record Seed : Type 0 where
  pub bytes : List ℕ
  pub drawn : ℕ

-- the next nonce: the SHA-256 of the seed and of how many were drawn, in eight bytes, high byte first
abbrev pub nonce_of : Seed → List ℕ
nonce_of seed = sha256 (seed.bytes ++ to_be_bytes w64 seed.drawn)

-- one more was drawn; after 2^64 of them they come again
abbrev pub after_nonce : Seed → Seed
after_nonce seed = record seed { drawn = (seed.drawn + 1) % 2 ^ 64 }

-- the bytes that a source of random bytes gave; none where it failed
abbrev pub given : {A E : Type 0} → Result A E → List ℕ → Option (List ℕ)
given (Ok done) bytes = Some bytes
given (Err e) bytes = None

-- one call of a source gave the whole seed, of which nothing is drawn; or it failed
abbrev pub SeededBy : {S E : Type 0} → (S → Option (List ℕ) → S → Type 0) → S → Result Seed E → S → Type 0
SeededBy gives old (Ok seed) new = gives old (Some seed.bytes) new × (seed.drawn ≡ 0)
SeededBy gives old (Err e) new = gives old None new
