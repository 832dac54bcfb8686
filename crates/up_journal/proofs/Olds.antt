-- What is found on a device of the first format.
use Rattle.std.proofs.Common.{◌≡◌, ◌≤◌, ◌<◌, ◌+◌, ◌^◌, ℕ, true, false, nat_le, List, [], ◌∷◌, ◌++◌, length, take, drop, Option, Some, None, IfSome, Result, Ok, Err, refl, sym, ◌∙◌, ap, subst, arith, length-drop, length-take-le}
use Rattle.std.proofs.lemmas.List.{take-append-drop}
use Rattle.std.proofs.lemmas.Bool.Decides.{nat_tests}
use Rattle.std.specs.List.{AllByRecursion}
use Rattle.up_disk.specs.Disk.{part}
use Rattle.up_journal.specs.Damages.{Damage, Damaged}
use Rattle.up_journal.specs.Format1.{format1, old_log_of}
use Rattle.up_journal.specs.Gates.{front_of, has_name, is_open, length_bytes, log_behind_name}
use Rattle.up_journal.specs.Kept.{AreGates, EndsBy, IsFront, log_seen, payloads_at}
use Rattle.up_journal.specs.Moving.{IsOldLogOf}
use Rattle.up_journal.specs.Reading.{gate_at}
use Rattle.up_journal.specs.declared.fault.MoveWhy.{MoveWhy}
use Rattle.up_journal.specs.declared.fault.MoveWhy.TheVariants as why
use Rattle.up_journal.specs.declared.limits.Span.{Span}
use Rattle.up_journal.specs.declared.read.Gate.TheVariants as at_gate
use Rattle.up_journal.proofs.Gates.{AllFit, front_broken, front_closed, front_named}
use Rattle.up_journal.proofs.Kept.{gates_fit, is_format1}
use Rattle.up_journal.proofs.Opened.{broken_by, open_by}
use Rattle.up_journal.proofs.Reading.{IsRecordAt}
use Rattle.up_journal.proofs.Spans.{behind_within}

-- ---- names

pub old_log_new : (largest : ℕ) (image : List ℕ) → length image ≤ 9 → old_log_of largest image ≡ Ok []
unfolding old_log_of
old_log_new largest image short = let is : nat_le (length image) 9 ≡ true = grind (arith, nat_tests) in rw is

pub old_log_named : (largest : ℕ) (image : List ℕ) → 9 < length image → has_name format1 image ≡ true → old_log_of largest image ≡ log_behind_name format1 largest image
unfolding old_log_of
old_log_named largest image long named = let is : nat_le (length image) 9 ≡ false = grind (arith, nat_tests) in rw (is, named)

old_log_unnamed : (largest : ℕ) (image : List ℕ) → 9 < length image → has_name format1 image ≡ false → old_log_of largest image ≡ Err (Damaged 0)
unfolding old_log_of
old_log_unnamed largest image long other = let is : nat_le (length image) 9 ≡ false = grind (arith, nat_tests) in rw (is, other)

-- a new device has no record
pub new_old : (largest : ℕ) (content : Option (List ℕ)) (size : ℕ) → IfSome content (λ bytes. length bytes ≡ size) → size ≤ 9 → IsOldLogOf largest content (log_seen content [])
new_old largest None size sized short = refl
new_old largest (Some bytes) size sized short = ap Some (old_log_new largest bytes (omega (arith, sized, short)))

pub other_old : (largest size : ℕ) (content : Option (List ℕ)) → IfSome content (λ bytes. length bytes ≡ size) → 9 < size → IfSome content (λ bytes. has_name format1 bytes ≡ false) → IfSome content (λ bytes. old_log_of largest bytes ≡ Err (Damaged 0))
other_old largest size None sized long other = tt
other_old largest size (Some bytes) sized long other = old_log_unnamed largest bytes (omega (arith, sized, long)) other

-- ---- gates

some_left : (gate : ℕ) (bytes : List ℕ) → gate < length bytes → 0 < length (drop gate bytes)
some_left gate bytes inside = omega (arith, length-drop gate bytes)

-- what an image with this front says, as format 1 reads it
front_reads : (largest : ℕ) (bytes front rest : List ℕ) (answer : Result (List (List ℕ)) Damage) (log : List (List ℕ)) (link : List ℕ) → 9 < length bytes → bytes ≡ front ++ rest → IsFront format1 front log link
    → log_behind_name format1 largest (front_of format1 log ++ rest) ≡ answer → old_log_of largest bytes ≡ answer
front_reads largest bytes front rest answer log link long is front_is read =
    let whole : bytes ≡ front_of format1 log ++ rest = is ∙ ap (λ (l : List ℕ). l ++ rest) front_is.is in
    ap (λ (l : List ℕ). old_log_of largest l) whole
    ∙ old_log_named largest (front_of format1 log ++ rest) (omega (arith, long, ap length whole)) (front_named format1 is_format1 log rest) ∙ read

module _ (largest : ℕ) (small : largest < 2 ^ 32) (spans : List Span) (gate : ℕ) (link : List ℕ) (device : ℕ) where
  fit : (bytes : List ℕ) → length bytes ≡ device → AreGates format1 largest spans gate link device (Some bytes) → AllFit largest (payloads_at spans bytes)
  fit bytes sized gates = gates_fit format1 largest spans gate link bytes (subst (λ (n : ℕ). AreGates format1 largest spans gate link n (Some bytes)) (sym sized) gates)

  place : (bytes : List ℕ) → length bytes ≡ device → AreGates format1 largest spans gate link device (Some bytes) → length (front_of format1 (payloads_at spans bytes)) ≡ gate
  place bytes sized gates = ap length (sym gates.told.is) ∙ length-take-le gate bytes (omega (arith, gates.inside, sized))

  -- at the first closed gate the log is found
  pub old_closed : (content : Option (List ℕ)) → AreGates format1 largest spans gate link device content → IfSome content (λ bytes. length bytes ≡ device) → 9 < device
      → IfSome content (λ bytes. is_open (drop gate bytes) ≡ false) → IsOldLogOf largest content (log_seen content spans)
  old_closed None gates sized long closed = refl
  old_closed (Some bytes) gates sized long closed =
      ap Some (front_reads largest bytes (take gate bytes) (drop gate bytes) (Ok (payloads_at spans bytes)) (payloads_at spans bytes) link (omega (arith, sized, long)) (sym (take-append-drop gate bytes)) gates.told
      (front_closed format1 is_format1 largest small (payloads_at spans bytes) (fit bytes sized gates) (drop gate bytes) (some_left gate bytes (omega (arith, gates.inside, sized))) closed))

  -- at an open gate without a whole record it is damaged
  pub old_broken : (content : Option (List ℕ)) → AreGates format1 largest spans gate link device content → IfSome content (λ bytes. length bytes ≡ device) → 9 < device
      → IfSome content (λ bytes. at_gate.Broken ≡ gate_at 5 largest (drop gate bytes)) → IfSome content (λ bytes. old_log_of largest bytes ≡ Err (Damaged gate))
  old_broken None gates sized long broken = tt
  old_broken (Some bytes) gates sized long broken =
      let stands = broken_by 5 largest (drop gate bytes) broken in
      front_reads largest bytes (take gate bytes) (drop gate bytes) (Err (Damaged gate)) (payloads_at spans bytes) link (omega (arith, sized, long)) (sym (take-append-drop gate bytes)) gates.told
      (front_broken format1 is_format1 largest small (payloads_at spans bytes) (fit bytes sized gates) (drop gate bytes) (some_left gate bytes (omega (arith, gates.inside, sized))) stands.0 stands.1
      ∙ ap (λ (k : ℕ). Err (Damaged k)) (place bytes sized gates))

-- at any other the record is one more
pub old_record_at : (largest gate n : ℕ) (content : Option (List ℕ)) → IfSome content (λ bytes. at_gate.Open n ≡ gate_at 5 largest (drop gate bytes)) → IfSome content (λ bytes. part 1 4 (drop gate bytes) ≡ length_bytes n)
    → IfSome content (λ bytes. IsRecordAt format1 (drop gate bytes) n [])
old_record_at largest gate n None opened canonical = tt
old_record_at largest gate n (Some bytes) opened canonical = record {
  opened = (open_by 5 largest n (drop gate bytes) opened).0;
  canonical = canonical;
  linked = refl;
}

pub no_link : (gate n : ℕ) (content : Option (List ℕ)) → IfSome content (λ bytes. [] ≡ format1.next_link (part 1 (4 + format1.link_size + n) (drop gate bytes)))
no_link gate n None = tt
no_link gate n (Some bytes) = refl

-- payloads before a gate lie within the device
pub all_within : (gate device : ℕ) (spans : List Span) → gate ≤ device → AllByRecursion (EndsBy gate) spans → AllByRecursion (EndsBy device) spans
all_within gate device [] inside within = tt
all_within gate device (span ∷ spans) inside within = (omega (arith, inside, within.0), all_within gate device spans inside within.1)

pub gates_within : (largest : ℕ) (spans : List Span) (gate : ℕ) (link : List ℕ) (device : ℕ) (content : Option (List ℕ)) → AreGates format1 largest spans gate link device content → AllByRecursion (EndsBy device) spans
gates_within largest spans gate link device content gates = all_within gate device spans (omega (arith, gates.inside)) (behind_within 5 spans 8 gate gates.placed)

-- the damage that a refusal names
pub damage_at : {T : Type 0} (largest : ℕ) (content : Option (List ℕ)) (gate place : ℕ) → IfSome content (λ bytes. old_log_of largest bytes ≡ Err (Damaged gate)) → ◌≡◌ {A = Result T MoveWhy} (Err (why.Old gate)) (Err (why.Old place))
    → IfSome content (λ bytes. old_log_of largest bytes ≡ Err (Damaged place))
damage_at {T} largest content gate place damaged is = (let same : gate ≡ place = named gate place is in subst (λ (p : ℕ). IfSome content (λ bytes. old_log_of largest bytes ≡ Err (Damaged p))) same damaged)
  where
    named : (gate place : ℕ) → ◌≡◌ {A = Result T MoveWhy} (Err (why.Old gate)) (Err (why.Old place)) → gate ≡ place
    named gate place is = cc
