-- What a journal keeps. This project's own.
use Rattle.std.specs.Prelude.{◌≡◌, ◌<◌, ◌≤◌, ◌^◌, ◌+◌, ℕ, List, [], ◌∷◌, length, map, take, Option, Some, None, option_map, IfSome}
use Rattle.std.specs.List.{AllByRecursion}
use Rattle.up_disk.specs.Disk.{part}
use Rattle.up_disk.specs.declared.disk.Disk.{Ghosts}
use Rattle.up_journal.specs.Cells.{Shape}
use Rattle.up_journal.specs.Format2.{format2, head_size}
use Rattle.up_journal.specs.Gates.{Format, behind_gate, first_gate, front_of, head_size_of, link_behind}
use Rattle.up_journal.specs.Journal.{AreLimits}
use Rattle.up_journal.specs.declared.limits.Limits.{Limits}
use Rattle.up_journal.specs.declared.limits.Span.{Span}

-- the payloads at these places
abbrev pub payloads_at : List Span → List ℕ → List (List ℕ)
payloads_at spans bytes = map (λ span. part span.at span.size bytes) spans

-- the payload ends before that place
abbrev pub EndsBy : ℕ → Span → Type 0
EndsBy place span = span.at + span.size ≤ place

-- the log, where the content is told
abbrev pub log_seen : Option (List ℕ) → List Span → Option (List (List ℕ))
log_seen content spans = option_map (payloads_at spans) content

-- the payload of the doubtful record after the gate, where there is one and the content is told
abbrev pub further_seen : Option (List ℕ) → ℕ → Option ℕ → Option (List ℕ)
further_seen content gate None = None
further_seen content gate (Some size) = option_map (part (gate + head_size) size) content

-- what stands after a gate for the further payload: its record with that link, and a closed gate
abbrev pub held_for : List ℕ → Option (List ℕ) → Option (List ℕ)
held_for link further = option_map (behind_gate link) further

-- from a gate on, payloads with so many bytes before each stand one after the other, and then the last gate
abbrev pub AreBehind : ℕ → ℕ → List Span → ℕ → Type 0
AreBehind head gate [] last = gate ≡ last
AreBehind head gate (span ∷ spans) last = (span.at ≡ gate + head) × AreBehind head (gate + head + span.size) spans last

-- the sizes of the payloads
abbrev pub sizes_of : List Span → List ℕ
sizes_of spans = map (λ span. span.size) spans

-- the front is the name and the records of these payloads, and the next one carries that link
pub record IsFront (format : Format) (front : List ℕ) (log : List (List ℕ)) (link : List ℕ) : Type 0 where
  pub is : front ≡ front_of format log
  pub linked : link ≡ link_behind format format.first_link log

-- the payloads at these places are those after the open gates up to the gate, as far as the content is told
pub record AreGates (format : Format) (largest : ℕ) (spans : List Span) (gate : ℕ)
    (link : List ℕ) (device : ℕ) (content : Option (List ℕ)) : Type 0 where
  pub placed : AreBehind (head_size_of format) first_gate spans gate
  pub fitting : AllByRecursion (λ size. size ≤ largest) (sizes_of spans)
  pub inside : gate < device
  pub long : length link ≡ format.link_size
  pub told : IfSome content (λ bytes. IsFront format (take gate bytes) (payloads_at spans bytes) link)

-- Facts about the fields of a journal. Of the disk they say what each crash image is.
pub record IsKept {D : Type 0} (disks : Ghosts D) (disk : D) (limits : Limits)
    (spans : List Span) (gate : ℕ) (head : List ℕ) (doubtful : Option ℕ) : Type 0 where
  pub good : AreLimits limits
  pub gates : AreGates format2 limits.largest spans gate head (disks.size_of disk) (disks.content disk)
  pub small : gate + 1 < 2 ^ 64
  pub doubt : (n : ℕ) → doubtful ≡ Some n
      → (gate + head_size + n < disks.size_of disk) × (gate + head_size + n < 2 ^ 62) × (n ≤ limits.largest)
  pub images : (bytes image : List ℕ) → disks.content disk ≡ Some bytes → disks.may_leave disk image
      → Shape (held_for head (further_seen (disks.content disk) gate doubtful)) (take gate bytes) image
