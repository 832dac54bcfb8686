-- Blank disks over which a host was to be opened, and was refused, have no record.
use Rattle.std.proofs.Common.{◌≡◌, ◌⊎◌, ◌≤◌, ◌+◌, ℕ, zero, suc, Bool, true, false, is_some, List, [], ◌∷◌, ◌++◌, length, drop, Some, Result, Ok, Err, inl, inr, refl, sym, ap, subst, ◌∙◌}
use Rattle.std.specs.List.{AllByRecursion}
use Rattle.std.specs.Prelude.{if◌then◌else◌, nat_le}
use Rattle.std.specs.Str.{bytes_eq}
use Rattle.up_disk.specs.Leaving.{IsBlank}
use Rattle.up_disk.specs.declared.disk.Disk.{Ghosts}
use Rattle.up_host.specs.Opens.{IsRefusedAs, RefusesHost, WasOpenedAs, WereOpened}
use Rattle.up_host.specs.Routes.{LogName}
use Rattle.up_host.specs.declared.fault.HostFault.{HostFault}
use Rattle.up_journal.specs.Crashes.{FailsFirst, IsOpened, SyncsFirst}
use Rattle.up_journal.specs.Damages.{Chain, Damage, Damaged, OldFormat}
use Rattle.up_journal.specs.Format1.{format1}
use Rattle.up_journal.specs.Format2.{format2, log_of}
use Rattle.up_journal.specs.Gates.{Format, after_payloads, first_gate, has_name, head_size_of, is_open, is_whole, link_at, log_from, new_size, next_gate, payload_at, record_at, size_at}
use Rattle.up_journal.specs.Journal.{IsReadAs}
use Rattle.up_journal.specs.declared.fault.OpenFault.{OpenFault}
use Rattle.up_journal.specs.declared.limits.Limits.{Limits}
use Rattle.up_names.specs.Texts.{UserName}
use Rattle.up_sessions.specs.Opening.{HasNoRecord}

-- ---- lists of which something holds

pub all_to : {X : Type 0} (P Q : X → Type 0) → ((x : X) → P x → Q x) → (xs : List X) → AllByRecursion P xs → AllByRecursion Q xs
all_to P Q each [] all = tt
all_to P Q each (x ∷ xs) all = (each x all.0, all_to P Q each xs all.1)

all_front : {X : Type 0} (P : X → Type 0) (xs ys : List X) → AllByRecursion P (xs ++ ys) → AllByRecursion P xs
all_front P [] ys all = tt
all_front P (x ∷ xs) ys all = (all.0, all_front P xs ys all.1)

pub all_back : {X : Type 0} (P : X → Type 0) (xs ys : List X) → AllByRecursion P (xs ++ ys) → AllByRecursion P ys
all_back P [] ys all = all
all_back P (x ∷ xs) ys all = all_back P xs ys all.1

all_join : {X : Type 0} (P : X → Type 0) (xs ys : List X) → AllByRecursion P xs → AllByRecursion P ys → AllByRecursion P (xs ++ ys)
all_join P [] ys one two = two
all_join P (x ∷ xs) ys one two = (one.0, all_join P xs ys one.1 two)

-- ---- an image that has no record with one limit has none with any other

abbrev Read : Type 0
Read = Result (List (List ℕ)) Damage

abbrev by_gate : Bool → Bool → Bool → List ℕ → Read → Damage → Damage → Read
by_gate opened whole linked payload rest chain short =
    if opened then (if whole then (if linked then after_payloads (payload ∷ []) rest else Err chain) else Err short) else Ok []

gate_closed : (opened whole also linked : Bool) (payload : List ℕ) (rest other : Read) (chain short : Damage)
    → by_gate opened whole linked payload rest chain short ≡ Ok [] → by_gate opened also linked payload other chain short ≡ Ok []
gate_closed false whole also linked payload rest other chain short none = refl
gate_closed true true also true payload (Ok payloads) other chain short none = absurd (cc)
gate_closed true true also true payload (Err damage) other chain short none = absurd (cc)
gate_closed true true also false payload rest other chain short none = absurd (cc)
gate_closed true false also linked payload rest other chain short none = absurd (cc)

from_gate : (format : Format) (most largest other gate : ℕ) (link bytes : List ℕ) → log_from format most largest gate link bytes ≡ Ok [] → log_from format most other gate link bytes ≡ Ok []
unfolding log_from
from_gate format zero largest other gate link bytes none = none
from_gate format (suc most) largest other gate link bytes none =
    gate_closed (is_open bytes) (is_whole (head_size_of format) largest bytes) (is_whole (head_size_of format) other bytes) (bytes_eq (link_at format bytes) link) (payload_at (head_size_of format) bytes)
    (log_from format most largest (gate + head_size_of format + size_at bytes) (format.next_link (record_at format bytes)) (next_gate (head_size_of format) bytes))
    (log_from format most other (gate + head_size_of format + size_at bytes) (format.next_link (record_at format bytes)) (next_gate (head_size_of format) bytes))
    (Chain gate link (link_at format bytes)) (Damaged gate) none

abbrev by_name : Bool → Bool → Bool → Read → Read
by_name short second first log = if short then Ok [] else (if second then log else (if first then Err OldFormat else Err (Damaged 0)))

named : (short second first : Bool) (one other : Read) → (one ≡ Ok [] → other ≡ Ok []) → by_name short second first one ≡ Ok [] → by_name short second first other ≡ Ok []
named true second first one other also none = refl
named false true first one other also none = also none
named false false true one other also none = none
named false false false one other also none = none

no_record : (largest other : ℕ) (image : List ℕ) → log_of largest image ≡ Ok [] → log_of other image ≡ Ok []
unfolding log_of
no_record largest other image none =
    named (nat_le (length image) new_size) (has_name format2 image) (has_name format1 image)
    (log_from format2 (length image) largest first_gate format2.first_link (drop first_gate image)) (log_from format2 (length image) other first_gate format2.first_link (drop first_gate image))
    (from_gate format2 (length image) largest other first_gate format2.first_link (drop first_gate image)) none

-- an empty image has none
none_in_empty : (largest : ℕ) → log_of largest [] ≡ Ok []
unfolding log_of
none_in_empty largest = refl

none_in : (largest : ℕ) (image : List ℕ) → image ≡ [] → log_of largest image ≡ Ok []
none_in largest image empty = ap (log_of largest) empty ∙ none_in_empty largest

same_bytes : (one other : List ℕ) → Some one ≡ Some other → one ≡ other
same_bytes one other same = cc

module _ {D : Type 0} (disks : Ghosts D) where
  -- a blank disk has no record
  pub blank_empty : (disk : D) → IsBlank disks disk → HasNoRecord disks disk
  blank_empty disk blank = record {
    told = ap is_some blank.empty;
    empty = record { each = λ image left largest. none_in largest image (blank.synced.each image left) };
  }

  pub all_empty : (xs : List D) → AllByRecursion (IsBlank disks) xs → AllByRecursion (HasNoRecord disks) xs
  all_empty xs all = all_to (IsBlank disks) (HasNoRecord disks) blank_empty xs all

  module _ (counts_now : (disk : D) (t : ℕ) (image : List ℕ) → t ≤ disks.moment disk → disks.may_leave disk image → disks.left_since disk t image) where
    -- what a crash leaves of a disk that was blank before a log was opened on it
    opened_leaves : (largest : ℕ) (old new : D) (fault : Type 0) → IsBlank disks old → FailsFirst disks old new fault ⊎ SyncsFirst disks old new (IsReadAs largest (disks.content old))
        → (image : List ℕ) → disks.may_leave new image → (other : ℕ) → log_of other image ≡ Ok []
    opened_leaves largest old new fault blank (inl fails) image left other =
        none_in other image (blank.synced.each image (fails.until.each image (counts_now new (disks.moment old) image fails.until.later left)))
    opened_leaves largest old new fault blank (inr syncs) image left other =
        let read = syncs.behind.each image (counts_now new (disks.moment syncs.synced) image syncs.behind.later left) in
        let none : read.bytes ≡ [] = same_bytes read.bytes [] (sym read.told ∙ blank.empty) in
        no_record largest other image (read.same ∙ none_in largest read.bytes none)

    opened_empty : (largest : ℕ) (old new : D) (fault : Type 0) → IsBlank disks old → IsOpened disks largest old new fault → HasNoRecord disks new
    opened_empty largest old new fault blank opened = record {
      told = opened.told ∙ ap is_some blank.empty;
      empty = record { each = opened_leaves largest old new fault blank opened.any_moment };
    }

    module _ (limits : Limits) where
      was_empty : (log : LogName) (disk after : D) → IsBlank disks disk → WasOpenedAs disks limits log disk after → HasNoRecord disks after
      was_empty (LogName.OfTree owner) disk after blank was = subst (HasNoRecord disks) was.disk_is (opened_empty _ disk was.log.disk _ blank was.opened.opened)
      was_empty LogName.OfStore disk after blank was = subst (HasNoRecord disks) was.disk_is (opened_empty _ disk was.log.disk _ blank was.opened.opened)
      was_empty LogName.OfKeys disk after blank was = subst (HasNoRecord disks) was.disk_is (opened_empty _ disk was.log.disk _ blank was.opened.opened)

      refused_empty : (log : LogName) (disk : D) (fault : OpenFault D) → IsBlank disks disk → IsRefusedAs disks limits log disk fault → HasNoRecord disks fault.disk
      refused_empty (LogName.OfTree owner) disk fault blank refused = opened_empty _ disk fault.disk _ blank refused.opened
      refused_empty LogName.OfStore disk fault blank refused = opened_empty _ disk fault.disk _ blank refused.opened
      refused_empty LogName.OfKeys disk fault blank refused = opened_empty _ disk fault.disk _ blank refused.opened

      were_empty : (logs : List LogName) (used opened : List D) → AllByRecursion (IsBlank disks) used → WereOpened disks limits logs used opened → AllByRecursion (HasNoRecord disks) opened
      were_empty [] [] [] blank all = tt
      were_empty (l ∷ ls) (d ∷ ds) (o ∷ os) blank all = (was_empty l d o blank.0 all.0, were_empty ls ds os blank.1 all.1)
      were_empty [] [] (o ∷ os) blank all = absurd all
      were_empty [] (d ∷ ds) [] blank all = absurd all
      were_empty [] (d ∷ ds) (o ∷ os) blank all = absurd all
      were_empty (l ∷ ls) [] [] blank all = absurd all
      were_empty (l ∷ ls) [] (o ∷ os) blank all = absurd all
      were_empty (l ∷ ls) (d ∷ ds) [] blank all = absurd all

      -- all that are handed back have none
      pub handed_empty : (owners : List UserName) (given : List D) (fault : HostFault D) → AllByRecursion (IsBlank disks) given → RefusesHost disks limits owners given fault → AllByRecursion (HasNoRecord disks) fault.disks.disks
      handed_empty owners given fault blank (inl none) = subst (AllByRecursion (HasNoRecord disks)) (sym none.handed) (all_empty given blank)
      handed_empty owners given fault blank (inr one) =
          let parts : AllByRecursion (IsBlank disks) (one.used ++ one.disk ∷ one.rest) = subst (AllByRecursion (IsBlank disks)) one.given_is blank in
          let back = all_back (IsBlank disks) one.used (one.disk ∷ one.rest) parts in
          subst (AllByRecursion (HasNoRecord disks)) (sym one.handed)
          (all_join (HasNoRecord disks) one.opened (one.refused.disk ∷ one.rest)
          (were_empty one.before one.used one.opened (all_front (IsBlank disks) one.used (one.disk ∷ one.rest) parts) one.were_opened)
          (refused_empty one.log one.disk one.refused back.0 one.was_refused, all_empty one.rest back.1))
