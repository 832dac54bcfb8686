-- How many bytes records have. This project's own.
use Rattle.std.specs.Prelude.{ℕ, List, length, map}
use Rattle.up_entry.specs.declared.records.Rec.{Rec}
use Rattle.up_entry.specs.Spelling as spelling

-- how many bytes a record has
abbrev pub size_of : Rec → ℕ
size_of rec = length (spelling.rec rec)

-- how many bytes each of these records has
abbrev pub sizes_of : List Rec → List ℕ
sizes_of records = map size_of records
