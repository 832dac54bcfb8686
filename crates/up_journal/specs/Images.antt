-- How the bytes of an image read, told by the bytes alone, in both formats: a name, records with their gates, and what ends them.
-- This project's own.
use Rattle.std.specs.Prelude.{◌≡◌, ◌≢◌, ◌⊎◌, ◌<◌, ◌≤◌, ◌+◌, ℕ, true, false, List, [], ◌∷◌, ◌++◌, length, drop, Result, Ok, Err}
use Rattle.std.specs.List.{AllByRecursion}
use Rattle.up_journal.specs.Damages.{Damage, Damaged, Chain, OldFormat}
use Rattle.up_journal.specs.Gates.{Format, behind_gates, first_gate, front_of, head_size_of, is_open, link_at}
use Rattle.up_journal.specs.Gates.{link_behind, record_list, size_at}

-- From a gate on, the bytes are the records of these payloads after open gates, of which the first carries that link, and then
-- the rest, from another gate on. Each payload keeps the limit.
pub record AreRecords (format : Format) (largest : ℕ) (link bytes : List ℕ) (log : List (List ℕ)) (rest : List ℕ) : Type 0 where
  pub whole : bytes ≡ behind_gates (record_list format link log) ++ rest
  pub fit : AllByRecursion (λ payload. length payload ≤ largest) log
  pub some : 0 < length rest

-- the place of the gate after these records, where their first gate stands at that place
abbrev pub place_behind : Format → ℕ → List ℕ → List (List ℕ) → ℕ
place_behind format gate link log = gate + length (behind_gates (record_list format link log))

-- an open gate, and no whole record after it: its length passes the limit, or its next gate does not lie within the bytes
pub record IsBroken (format : Format) (largest : ℕ) (bytes : List ℕ) : Type 0 where
  pub opened : is_open bytes ≡ true
  pub broken : (largest < size_at bytes) ⊎ (length bytes ≤ head_size_of format + size_at bytes)

-- an open gate, and a whole record after it that carries another link than this
pub record IsUnlinked (format : Format) (largest : ℕ) (link bytes : List ℕ) : Type 0 where
  pub opened : is_open bytes ≡ true
  pub fits : size_at bytes ≤ largest
  pub inside : head_size_of format + size_at bytes < length bytes
  pub other : link_at format bytes ≢ link

-- the bytes are these records, and then a closed gate
pub record IsLog (format : Format) (largest : ℕ) (link bytes : List ℕ) (log : List (List ℕ)) : Type 0 where
  pub rest : List ℕ
  pub records : AreRecords format largest link bytes log rest
  pub closed : is_open rest ≡ false

-- the bytes are some records, and then, at that place, an open gate without a whole record
pub record BreaksAt (format : Format) (largest gate : ℕ) (link bytes : List ℕ) (place : ℕ) : Type 0 where
  pub log : List (List ℕ)
  pub rest : List ℕ
  pub records : AreRecords format largest link bytes log rest
  pub broken : IsBroken format largest rest
  pub at : place ≡ place_behind format gate link log

-- the bytes are some records, and then, at that place, one that carries another link than the one that it has to carry
pub record UnlinksAt (format : Format) (largest gate : ℕ) (link bytes : List ℕ) (place : ℕ) (wanted got : List ℕ) : Type 0 where
  pub log : List (List ℕ)
  pub rest : List ℕ
  pub records : AreRecords format largest link bytes log rest
  pub unlinked : IsUnlinked format largest (link_behind format link log) rest
  pub at : place ≡ place_behind format gate link log
  pub has_to : wanted ≡ link_behind format link log
  pub carries : got ≡ link_at format rest

-- how bytes read from the gate on that stands at that place: as a log, or as one damage
abbrev pub Reads : Format → ℕ → ℕ → List ℕ → List ℕ → Result (List (List ℕ)) Damage → Type 0
Reads format largest gate link bytes (Ok log) = IsLog format largest link bytes log
Reads format largest gate link bytes (Err (Damaged place)) = BreaksAt format largest gate link bytes place
Reads format largest gate link bytes (Err (Chain place wanted got)) = UnlinksAt format largest gate link bytes place wanted got
Reads format largest gate link bytes (Err OldFormat) = ⊥

-- how an image with the format's name reads
abbrev pub ImageReads : Format → ℕ → List ℕ → Result (List (List ℕ)) Damage → Type 0
ImageReads format largest image answer = Reads format largest first_gate format.first_link (drop first_gate image) answer

-- the image that is made of a log: the name, its records after open gates, and a closed gate
abbrev pub image_of : Format → List (List ℕ) → List ℕ
image_of format log = front_of format log ++ 0 ∷ []
