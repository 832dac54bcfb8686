-- Which blocks were fetched for a Put of a control file, and who gave them. This project's own.
use Rattle.std.specs.Prelude.{◌≡◌, ◌≤◌, ◌⊎◌, ℕ, false, List, [], ◌∷◌, length, take, Option, Some}
use Rattle.std.specs.List.{AllByRecursion}
use Rattle.up_answers.specs.Fetching.{Fetched}
use Rattle.up_blocks.specs.Records.{holds}
use Rattle.up_blocks.specs.declared.record.BlockRecord.{BlockRecord}
use Rattle.up_entry.specs.declared.entries.Endpoint.{Endpoint}
use Rattle.up_entry.specs.declared.entries.Endpoint.TheVariants as endpoint
use Rattle.up_entry.specs.declared.entries.Location.{Location}
use Rattle.up_entry.specs.declared.fetch.Fetch.{Fetch}
use Rattle.up_entry.specs.declared.fetch.Fetch.TheVariants as fetch
use Rattle.up_lists.specs.Counts.{Rose}
use Rattle.up_calls.specs.Services.{IsBlock}
use Rattle.up_calls.specs.Views.{SeenStore}
use Rattle.up_peer.specs.Loading.{BlockQuestion}

-- a location with the answer for it
abbrev pub Got : Type 0
Got = Location × Fetch

-- what a store's log gives for a reference: the block's bytes, or Missing where it is not held
abbrev pub GivenBy : List BlockRecord → List ℕ → Fetch → Type 0
GivenBy log reference (fetch.Got bytes) = IsBlock log reference bytes
GivenBy log reference fetch.Missing = holds log reference ≡ false
GivenBy log reference fetch.Failed = ⊥

-- the host's own store gave it, at a position between what the caller had seen of it and what it has seen
pub record IsGiven (v w : SeenStore) (reference : List ℕ) (given : Fetch) : Type 0 where
  pub position : ℕ
  pub from : length v.seen ≤ position
  pub to : position ≤ length w.seen
  pub by : GivenBy (take position w.seen) reference given

-- the host's own store gave this for a block, or its disk failed
abbrev pub IsFromStore : SeenStore → SeenStore → List ℕ → Fetch → Type 0
IsFromStore v w reference given = IsGiven v w reference given ⊎ ((given ≡ fetch.Failed) × Rose v.failed w.failed)

-- what was fetched for a block of the host's own store came from there
abbrev pub OwnBlock : SeenStore → SeenStore → Endpoint → List ℕ → Fetch → Type 0
OwnBlock v w endpoint.Local reference given = IsFromStore v w reference given
OwnBlock v w (endpoint.Address address) reference given = Unit {0}

-- each block of the host's own store that was fetched came from there
abbrev pub OwnBlocks : SeenStore → SeenStore → Fetched → Type 0
OwnBlocks v w fetched = AllByRecursion (λ (got : Got). OwnBlock v w got.0.endpoint got.0.reference got.1) fetched

-- the loader is asked for those with an address
abbrev pub question_of : List ℕ → Endpoint → List BlockQuestion
question_of reference endpoint.Local = []
question_of reference (endpoint.Address address) = record { address = address; reference = reference } ∷ []

-- what the loader is asked of a block: nothing where it is of the host's own store
abbrev pub block_question : Got → List BlockQuestion
block_question got = question_of got.0.reference got.0.endpoint

-- the loader's answer for a block with an address; there is none for one of the host's own store
abbrev pub answer_at : Fetch → Endpoint → List (Option Fetch)
answer_at given endpoint.Local = []
answer_at given (endpoint.Address address) = Some given ∷ []

-- what the loader answered of a block: nothing where it was not asked
abbrev pub block_answer : Got → List (Option Fetch)
block_answer got = answer_at got.1 got.0.endpoint
