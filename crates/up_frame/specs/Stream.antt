-- Frames on a stream of bytes, a form of this project's own, and how a stream reads.
use Rattle.std.specs.Prelude.{◌≡◌, ℕ, ◌+◌, ◌<◌, ◌≤◌, ◌^◌, ◌⊎◌, List, [], ◌++◌, length, take, Option, Some, None}
use Rattle.std.specs.Int.{w32, to_be_bytes, from_be_bytes}
use Rattle.std.specs.List.{flat_map, AllByRecursion}

-- a frame: four bytes of length, high byte first, and as many bytes of payload
unfoldable pub frame : List ℕ → List ℕ
frame payload = to_be_bytes w32 (length payload) ++ payload

-- what a frame may carry: one byte at least, at most the limit, and no more than four bytes count
pub record IsPayload (limit : ℕ) (payload : List ℕ) : Type 0 where
  pub some : 0 < length payload
  pub most : length payload ≤ limit
  pub counted : length payload < 2 ^ 32

-- the length that the first four bytes tell
unfoldable pub told : List ℕ → ℕ
told bytes = from_be_bytes w32 (take 4 bytes)

-- a good length, and fewer bytes after it than it tells
pub record IsBegun (limit : ℕ) (bytes : List ℕ) : Type 0 where
  pub some : 0 < told bytes
  pub most : told bytes ≤ limit
  pub wanting : length bytes < 4 + told bytes

-- less than a whole frame: fewer bytes than a length has, or a frame that is begun
abbrev pub IsPartial : ℕ → List ℕ → Type 0
IsPartial limit bytes = (length bytes < 4) ⊎ IsBegun limit bytes

-- a length that is 0 or over the limit: no frame begins here, whatever follows
abbrev pub IsBad : ℕ → List ℕ → Type 0
IsBad limit bytes = (4 ≤ length bytes) × ((told bytes ≡ 0) ⊎ (limit < told bytes))

-- the frames of these payloads, one after another
abbrev pub frames : List (List ℕ) → List ℕ
frames payloads = flat_map frame payloads

-- the stream is these frames, and then less than a whole one
pub record Splits (limit : ℕ) (stream : List ℕ) (payloads : List (List ℕ)) (rest : List ℕ) : Type 0 where
  pub whole : stream ≡ frames payloads ++ rest
  pub each : AllByRecursion (IsPayload limit) payloads
  pub partial : IsPartial limit rest

-- the stream is these frames, and then a bad one at this place
pub record Breaks (limit : ℕ) (stream : List ℕ) (payloads : List (List ℕ)) (place : ℕ) : Type 0 where
  pub tail : List ℕ
  pub whole : stream ≡ frames payloads ++ tail
  pub each : AllByRecursion (IsPayload limit) payloads
  pub bad : IsBad limit tail
  pub before : place ≡ length (frames payloads)

-- How a stream reads: its whole frames, the rest after them, and the place of a bad frame where there is one.
-- What stands from a bad frame on is no rest: it is dropped.
abbrev pub Reads : ℕ → List ℕ → List (List ℕ) → List ℕ → Option ℕ → Type 0
Reads limit stream payloads rest None = Splits limit stream payloads rest
Reads limit stream payloads rest (Some place) = Breaks limit stream payloads place × (rest ≡ [])
