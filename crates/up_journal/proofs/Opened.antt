-- What is found on a device.
use Rattle.std.proofs.Common.{◌≡◌, ◌≤◌, ◌<◌, ◌+◌, ◌^◌, ℕ, Bool, true, false, cond, nat_le, List, [], ◌∷◌, ◌++◌, length, take, drop, Option, Some, None, is_some, IfSome, Result, Ok, Err, IfOk, refl, sym, ◌∙◌, ap, subst, ◌⊎◌, inl, inr, arith, length-drop, length-take-le}
use Rattle.std.proofs.lemmas.List.{take-append-drop, drop-drop}
use Rattle.std.proofs.lemmas.Bool.Decides.{nat_tests}
use Rattle.std.proofs.lemmas.Slice.Eq.{bytes_eq-Decides}
use Rattle.std.specs.Str.{bytes_eq}
use Rattle.up_refs.specs.Sha256.{sha256}
use Rattle.up_disk.specs.Disk.{Elapses, LeavesOnly, Only, Torn, part}
use Rattle.up_disk.proofs.Moments.{goes_on, joined, started, weaker}
use Rattle.up_disk.specs.declared.disk.Disk.{Ghosts}
use Rattle.up_journal.specs.Cells.{Closed, OnlyRead}
use Rattle.up_journal.specs.Crashes.{FailsFirst, IsOpened, SyncsFirst}
use Rattle.up_journal.specs.Damages.{Damage, Damaged, Chain, OldFormat}
use Rattle.up_journal.specs.Format1.{format1}
use Rattle.up_journal.specs.Format2.{format2, log_of}
use Rattle.up_journal.specs.Gates.{Format, first_gate, front_of, has_name, is_open, is_whole, length_bytes, link_at, link_behind, log_behind_name, size_at}
use Rattle.up_journal.specs.Journal.{AreLimits, IsReadAs}
use Rattle.up_journal.specs.Kept.{AreGates, IsFront, IsKept, log_seen, payloads_at}
use Rattle.up_journal.specs.Opened.{IsDamageOf, IsLogOf}
use Rattle.up_journal.specs.Reading.{gate_at}
use Rattle.up_journal.specs.declared.fault.OpenWhy.TheVariants as why
use Rattle.up_journal.specs.declared.limits.Limits.{Limits}
use Rattle.up_journal.specs.declared.limits.Span.{Span}
use Rattle.up_journal.specs.declared.read.Gate.TheVariants as at_gate
use Rattle.up_journal.proofs.Gates.{AllFit, front_broken, front_named, front_unlinked}
use Rattle.up_journal.proofs.Kept.{closed_log, gates_fit, is_format2, log_of_named, log_of_new}
use Rattle.up_journal.proofs.Reading.{IsRecordAt, link_read}

-- ---- a new device

-- whatever a crash leaves of its beginning, it is read as an empty log
pub new_torn : (largest : ℕ) (content : Option (List ℕ)) (size : ℕ) (old new : List ℕ → Type 0) → IfSome content (λ bytes. length bytes ≡ size) → size ≤ 9 → Only content old
    → ((image : List ℕ) → new image → (before : List ℕ) × old before × Torn 0 9 before image) → (image : List ℕ) → new image → IsReadAs largest content image
new_torn largest None size old new sized short only follows image left = absurd (let from = follows image left in let e = only from.0 from.1 in cc)
new_torn largest (Some bytes) size old new sized short only follows image left =
    let from = follows image left in
    let same : bytes ≡ from.0 = (let e = only from.0 from.1 in cc) in
    let before : length from.0 ≤ 9 = omega (arith, ap length same, sized, short) in
    record {
      bytes = bytes;
      told = refl;
      same = log_of_new largest image (omega (arith, from.2.no_longer, before)) ∙ sym (log_of_new largest bytes (omega (arith, sized, short)));
    }

pub new_same : (largest : ℕ) (content : Option (List ℕ)) (image : List ℕ) → content ≡ Some image → IsReadAs largest content image
new_same largest content image is = record { bytes = image; told = is; same = refl }

-- ---- names

pub log_of_old : (largest : ℕ) (image : List ℕ) → 9 < length image → has_name format2 image ≡ false → has_name format1 image ≡ true → log_of largest image ≡ Err OldFormat
unfolding log_of
log_of_old largest image long other old = let is : nat_le (length image) 9 ≡ false = grind (arith, nat_tests) in rw (is, other, old)

pub log_of_unnamed : (largest : ℕ) (image : List ℕ) → 9 < length image → has_name format2 image ≡ false → has_name format1 image ≡ false → log_of largest image ≡ Err (Damaged 0)
unfolding log_of
log_of_unnamed largest image long other unknown = let is : nat_le (length image) 9 ≡ false = grind (arith, nat_tests) in rw (is, other, unknown)

-- ---- damage, as a refusal says it

pub damaged_is : {A X : Type 0} (read : A → Result X Damage) (told : Option A) (gate : ℕ) → IfSome told (λ seen. read seen ≡ Err (Damaged gate)) → IsDamageOf read told (why.Damaged gate)
damaged_is read told gate damaged (Damaged other) is = (let same : gate ≡ other = cc in subst (λ (k : ℕ). IfSome told (λ seen. read seen ≡ Err (Damaged k))) same damaged)
damaged_is read told gate damaged (Chain other wanted got) is = absurd (cc)
damaged_is read told gate damaged OldFormat is = absurd (cc)

pub chain_is : {A X : Type 0} (read : A → Result X Damage) (told : Option A) (gate : ℕ) (wanted got : List ℕ) → IfSome told (λ seen. read seen ≡ Err (Chain gate wanted got)) → IsDamageOf read told (why.Chain gate wanted got)
chain_is read told gate wanted got damaged (Damaged other) is = absurd (cc)
chain_is read told gate wanted got damaged (Chain other want have) is = (let same : Chain gate wanted got ≡ Chain other want have = chained gate other wanted want got have is in subst (λ (d : Damage). IfSome told (λ seen. read seen ≡ Err d)) same damaged)
  where
    chained : (gate other : ℕ) (wanted want got have : List ℕ) → why.Chain gate wanted got ≡ why.Chain other want have → Chain gate wanted got ≡ Chain other want have
    chained gate other wanted want got have is = cc
chain_is read told gate wanted got damaged OldFormat is = absurd (cc)

pub old_is : {A X : Type 0} (read : A → Result X Damage) (told : Option A) → IfSome told (λ seen. read seen ≡ Err OldFormat) → IsDamageOf read told why.OldFormat
old_is read told damaged (Damaged other) is = absurd (cc)
old_is read told damaged (Chain other want have) is = absurd (cc)
old_is read told damaged OldFormat is = damaged

-- ---- the name of a device

-- the name that was read is this one, or another
pub named_as : (f : Format) (content : Option (List ℕ)) (name found stored : List ℕ) (answer : Bool) → IfSome content (λ bytes. name ≡ take first_gate bytes) → found ≡ name → stored ≡ f.name → answer ≡ bytes_eq found stored
    → IfSome content (λ bytes. has_name f bytes ≡ answer)
named_as f None name found stored answer read same is tested = tt
named_as f (Some bytes) name found stored answer read same is tested =
    ap (λ (l : List ℕ). bytes_eq l f.name) (sym (same ∙ read)) ∙ ap (λ (l : List ℕ). bytes_eq found l) (sym is) ∙ sym tested

pub unnamed : (largest device : ℕ) (content : Option (List ℕ)) → IfSome content (λ bytes. length bytes ≡ device) → 9 < device → IfSome content (λ bytes. has_name format2 bytes ≡ false) → IfSome content (λ bytes. has_name format1 bytes ≡ false)
    → IfSome content (λ bytes. log_of largest bytes ≡ Err (Damaged 0))
unnamed largest device None sized long other unknown = tt
unnamed largest device (Some bytes) sized long other unknown = log_of_unnamed largest bytes (omega (arith, sized, long)) other unknown

pub old_named : (largest device : ℕ) (content : Option (List ℕ)) → IfSome content (λ bytes. length bytes ≡ device) → 9 < device → IfSome content (λ bytes. has_name format2 bytes ≡ false) → IfSome content (λ bytes. has_name format1 bytes ≡ true)
    → IfSome content (λ bytes. log_of largest bytes ≡ Err OldFormat)
old_named largest device None sized long other old = tt
old_named largest device (Some bytes) sized long other old = log_of_old largest bytes (omega (arith, sized, long)) other old

-- ---- gates

-- what stands at a gate
gate_cases : (a b : Bool) (n m : ℕ) → at_gate.Open n ≡ cond a (cond b (at_gate.Open m) at_gate.Broken) at_gate.Closed → (a ≡ true) × (b ≡ true) × (m ≡ n)
gate_cases true true n m is = (refl, refl, cc)
gate_cases true false n m is = absurd (cc)
gate_cases false b n m is = absurd (cc)

broken_cases : (a b : Bool) (m : ℕ) → at_gate.Broken ≡ cond a (cond b (at_gate.Open m) at_gate.Broken) at_gate.Closed → (a ≡ true) × (b ≡ false)
broken_cases true true m is = absurd (cc)
broken_cases true false m is = (refl, refl)
broken_cases false b m is = absurd (cc)

pub open_by : (head largest n : ℕ) (bytes : List ℕ) → at_gate.Open n ≡ gate_at head largest bytes → (is_open bytes ≡ true) × (is_whole head largest bytes ≡ true) × (size_at bytes ≡ n)
open_by head largest n bytes is = gate_cases (is_open bytes) (is_whole head largest bytes) n (size_at bytes) is

pub broken_by : (head largest : ℕ) (bytes : List ℕ) → at_gate.Broken ≡ gate_at head largest bytes → (is_open bytes ≡ true) × (is_whole head largest bytes ≡ false)
broken_by head largest bytes is = broken_cases (is_open bytes) (is_whole head largest bytes) (size_at bytes) is

some_left : (gate : ℕ) (bytes : List ℕ) → gate < length bytes → 0 < length (drop gate bytes)
some_left gate bytes inside = omega (arith, length-drop gate bytes)

-- what an image with this front says, as format 2 reads it
pub front_reads : (largest : ℕ) (bytes front rest : List ℕ) (answer : Result (List (List ℕ)) Damage) (log : List (List ℕ)) (link : List ℕ) → 9 < length bytes → bytes ≡ front ++ rest → IsFront format2 front log link
    → log_behind_name format2 largest (front_of format2 log ++ rest) ≡ answer → log_of largest bytes ≡ answer
front_reads largest bytes front rest answer log link long is front_is read =
    let whole : bytes ≡ front_of format2 log ++ rest = is ∙ ap (λ (l : List ℕ). l ++ rest) front_is.is in
    ap (λ (l : List ℕ). log_of largest l) whole
    ∙ log_of_named largest (front_of format2 log ++ rest) (omega (arith, long, ap length whole)) (front_named format2 is_format2 log rest) ∙ read

module _ (largest : ℕ) (small : largest < 2 ^ 32) (spans : List Span) (gate : ℕ) (link : List ℕ) (device : ℕ) where
  fit : (bytes : List ℕ) → length bytes ≡ device → AreGates format2 largest spans gate link device (Some bytes) → AllFit largest (payloads_at spans bytes)
  fit bytes sized gates = gates_fit format2 largest spans gate link bytes (subst (λ (n : ℕ). AreGates format2 largest spans gate link n (Some bytes)) (sym sized) gates)

  place : (bytes : List ℕ) → length bytes ≡ device → AreGates format2 largest spans gate link device (Some bytes) → length (front_of format2 (payloads_at spans bytes)) ≡ gate
  place bytes sized gates = ap length (sym gates.told.is) ∙ length-take-le gate bytes (omega (arith, gates.inside, sized))

  -- at the first closed gate the log is found
  pub gates_closed : (content : Option (List ℕ)) → AreGates format2 largest spans gate link device content → IfSome content (λ bytes. length bytes ≡ device)
      → IfSome content (λ bytes. is_open (drop gate bytes) ≡ false) → IsLogOf largest content (log_seen content spans)
  gates_closed None gates sized closed = refl
  gates_closed (Some bytes) gates sized closed =
      ap Some (closed_log largest small (take gate bytes) bytes link (payloads_at spans bytes) gates.told (fit bytes sized gates)
      (record { rest = drop gate bytes; is = sym (take-append-drop gate bytes); some = some_left gate bytes (omega (arith, gates.inside, sized)); closed = closed }))

  -- at an open gate without a whole record it is damaged
  pub gates_broken : (content : Option (List ℕ)) → AreGates format2 largest spans gate link device content → IfSome content (λ bytes. length bytes ≡ device) → 9 < device
      → IfSome content (λ bytes. at_gate.Broken ≡ gate_at 37 largest (drop gate bytes)) → IfSome content (λ bytes. log_of largest bytes ≡ Err (Damaged gate))
  gates_broken None gates sized long broken = tt
  gates_broken (Some bytes) gates sized long broken =
      let stands = broken_by 37 largest (drop gate bytes) broken in
      front_reads largest bytes (take gate bytes) (drop gate bytes) (Err (Damaged gate)) (payloads_at spans bytes) link (omega (arith, sized, long)) (sym (take-append-drop gate bytes)) gates.told
      (front_broken format2 is_format2 largest small (payloads_at spans bytes) (fit bytes sized gates) (drop gate bytes) (some_left gate bytes (omega (arith, gates.inside, sized))) stands.0 stands.1
      ∙ ap (λ (k : ℕ). Err (Damaged k)) (place bytes sized gates))

  -- at one whose record carries another link the chain is broken
  pub gates_unlinked : (content : Option (List ℕ)) (n : ℕ) (buffer other : List ℕ) → AreGates format2 largest spans gate link device content → IfSome content (λ bytes. length bytes ≡ device) → 9 < device
      → IfSome content (λ bytes. at_gate.Open n ≡ gate_at 37 largest (drop gate bytes)) → IfSome content (λ bytes. buffer ≡ part (gate + 1) (36 + n) bytes) → other ≡ part 4 32 buffer → bytes_eq other link ≡ false
      → IfSome content (λ bytes. log_of largest bytes ≡ Err (Chain gate link other))
  gates_unlinked None n buffer other gates sized long opened read carried differs = tt
  gates_unlinked (Some bytes) n buffer other gates sized long opened read carried differs =
      let stands = open_by 37 largest n (drop gate bytes) opened in
      let got : link_at format2 (drop gate bytes) ≡ other = link_read gate n bytes ∙ ap (λ (l : List ℕ). part 4 32 l) (sym read) ∙ sym carried in
      front_reads largest bytes (take gate bytes) (drop gate bytes) (Err (Chain gate link other)) (payloads_at spans bytes) link (omega (arith, sized, long)) (sym (take-append-drop gate bytes)) gates.told
      (front_unlinked format2 is_format2 largest small (payloads_at spans bytes) (fit bytes sized gates) (drop gate bytes) (some_left gate bytes (omega (arith, gates.inside, sized))) stands.0 stands.1
      (ap (λ (l : List ℕ). bytes_eq l (link_behind format2 format2.first_link (payloads_at spans bytes))) got ∙ ap (λ (l : List ℕ). bytes_eq other l) (sym gates.told.linked) ∙ differs)
      ∙ ap (λ (k : ℕ). Err (Chain k (link_behind format2 format2.first_link (payloads_at spans bytes)) (link_at format2 (drop gate bytes)))) (place bytes sized gates)
      ∙ ap (λ (l : List ℕ). Err (Chain gate l (link_at format2 (drop gate bytes)))) (sym gates.told.linked) ∙ ap (λ (l : List ℕ). Err (Chain gate link l)) got)

-- at any other the record is one more
pub record_at : (largest gate n : ℕ) (link buffer : List ℕ) (content : Option (List ℕ)) → IfSome content (λ bytes. at_gate.Open n ≡ gate_at 37 largest (drop gate bytes)) → IfSome content (λ bytes. part 1 4 (drop gate bytes) ≡ length_bytes n)
    → IfSome content (λ bytes. buffer ≡ part (gate + 1) (36 + n) bytes) → bytes_eq (part 4 32 buffer) link ≡ true → IfSome content (λ bytes. IsRecordAt format2 (drop gate bytes) n link)
record_at largest gate n link buffer None opened canonical read same = tt
record_at largest gate n link buffer (Some bytes) opened canonical read same = record {
  opened = (open_by 37 largest n (drop gate bytes) opened).0;
  canonical = canonical;
  linked = link_read gate n bytes ∙ ap (λ (l : List ℕ). part 4 32 l) (sym read) ∙ (bytes_eq-Decides (part 4 32 buffer) link).0 same;
}

pub next_at : (gate n : ℕ) (next hashed buffer : List ℕ) (content : Option (List ℕ)) → next ≡ sha256 hashed → hashed ≡ buffer → IfSome content (λ bytes. buffer ≡ part (gate + 1) (36 + n) bytes)
    → IfSome content (λ bytes. next ≡ sha256 (part 1 (36 + n) (drop gate bytes)))
next_at gate n next hashed buffer None is same read = tt
next_at gate n next hashed buffer (Some bytes) is same read = is ∙ ap sha256 (same ∙ read ∙ ap (λ (l : List ℕ). take (36 + n) l) (sym (drop-drop 1 gate bytes)))

-- ---- what is kept of a device that was found good

told_at : (content : Option (List ℕ)) (P : List ℕ → Type 0) → IfSome content P → (bytes : List ℕ) → content ≡ Some bytes → P bytes
told_at None P holds bytes is = absurd (cc)
told_at (Some found) P holds bytes is = (let same : found ≡ bytes = cc in subst P same holds)

pub kept_new : {D : Type 0} (disks : Ghosts D) (disk : D) (limits : Limits) → AreLimits limits → 8 < disks.size_of disk → IfSome (disks.content disk) (λ bytes. bytes ≡ format2.name ++ 0 ∷ [])
    → Only (disks.content disk) (disks.may_leave disk) → IsKept disks disk limits [] 8 format2.first_link None
kept_new disks disk limits good inside begun only = record {
  good = good;
  gates = record { placed = refl; fitting = tt; inside = inside; long = is_format2.first; told = front (disks.content disk) begun };
  small = omega arith;
  doubt = λ n is. absurd (cc);
  images = λ bytes image is left. shape bytes image (is_same bytes image is (only image left)) (told_at (disks.content disk) (λ b. b ≡ format2.name ++ 0 ∷ []) begun bytes is);
}
  where
    front : (content : Option (List ℕ)) → IfSome content (λ bytes. bytes ≡ format2.name ++ 0 ∷ []) → IfSome content (λ bytes. IsFront format2 (take 8 bytes) (payloads_at [] bytes) format2.first_link)
    front None begun = tt
    front (Some bytes) begun = record { is = ap (λ (l : List ℕ). take 8 l) begun; linked = refl }

    is_same : (bytes image : List ℕ) → disks.content disk ≡ Some bytes → disks.content disk ≡ Some image → bytes ≡ image
    is_same bytes image first second = (let e = sym first ∙ second in cc)

    shape : (bytes image : List ℕ) → bytes ≡ image → bytes ≡ format2.name ++ 0 ∷ [] → Closed (take 8 bytes) image
    shape bytes image same is = record {
      rest = 0 ∷ [];
      is = sym same ∙ is ∙ ap (λ (l : List ℕ). l ++ 0 ∷ []) (sym (ap (λ (l : List ℕ). take 8 l) is));
      some = omega arith;
      closed = refl;
    }

pub log_new : (largest : ℕ) (was now : Option (List ℕ)) (size : ℕ) → IfSome was (λ bytes. length bytes ≡ size) → size ≤ 9 → is_some now ≡ is_some was → IsLogOf largest was (log_seen now [])
log_new largest None None size sized short told = refl
log_new largest None (Some now) size sized short told = absurd (cc)
log_new largest (Some bytes) None size sized short told = absurd (cc)
log_new largest (Some bytes) (Some now) size sized short told = ap Some (log_of_new largest bytes (omega (arith, sized, short)))

-- ---- the same of another content or size

pub sized_as : (content : Option (List ℕ)) (n m : ℕ) → m ≡ n → IfSome content (λ bytes. length bytes ≡ n) → IfSome content (λ bytes. length bytes ≡ m)
sized_as None n m same sized = tt
sized_as (Some bytes) n m same sized = sized ∙ sym same

pub read_as : (largest : ℕ) (was now : Option (List ℕ)) (image : List ℕ) → now ≡ was → IsReadAs largest now image → IsReadAs largest was image
read_as largest was now image same read = record { bytes = read.bytes; told = sym same ∙ read.told; same = read.same }

pub as_content : (was now : Option (List ℕ)) (P : List ℕ → Type 0) → now ≡ was → IfSome now P → IfSome was P
as_content was now P same holds = subst (λ (o : Option (List ℕ)). IfSome o P) same holds

pub if_ok_both : {T E : Type 0} (result : Result T E) (P Q R : T → Type 0) → ((x : T) → P x → Q x → R x) → IfOk result P → IfOk result Q → IfOk result R
if_ok_both (Ok x) P Q R both p q = both x p q
if_ok_both (Err e) P Q R both p q = tt

-- what becomes of a disk that is synced, and then read or begun
module _ {D : Type 0} (disks : Ghosts D) (only_now : (disk : D) (image : List ℕ) → disks.left_since disk (disks.moment disk) image → disks.may_leave disk image) (largest : ℕ) (disk mid : D)
    (same : disks.content mid ≡ disks.content disk) (fewer : (image : List ℕ) → disks.may_leave mid image → disks.may_leave disk image)
    (time : Elapses (disks.moment disk) (disks.moment mid) (disks.left_since disk) (disks.left_since mid) (disks.may_leave mid)) where
  until_sync : LeavesOnly disks.moment disks.left_since disk mid (disks.may_leave disk)
  until_sync = goes_on disks.moment disks.left_since disk disk mid (disks.may_leave disk) (disks.may_leave mid) (started disks.moment disks.left_since disk (disks.may_leave disk) (only_now disk)) time fewer

  -- the sync failed
  pub not_synced : (fault : Type 0) → fault → IsOpened disks largest disk mid fault
  not_synced fault failed = record { told = ap is_some same; unchanged = λ long. same; any_moment = inl (record { failed = failed; until = until_sync }) }

  -- behind it, what a crash leaves is read as the content
  synced_first : (new : D) → Only (disks.content mid) (disks.may_leave mid) → LeavesOnly disks.moment disks.left_since mid new (IsReadAs largest (disks.content mid)) → SyncsFirst disks disk new (IsReadAs largest (disks.content disk))
  synced_first new only run = record {
    synced = mid;
    until = until_sync;
    settled = λ image left. sym same ∙ only image left;
    behind = weaker disks.moment disks.left_since mid new (IsReadAs largest (disks.content mid)) (IsReadAs largest (disks.content disk)) run (λ image read. read_as largest (disks.content disk) (disks.content mid) image same read);
  }

  -- a device that is only read
  pub read_opened : (new : D) (fault : Type 0) → Only (disks.content mid) (disks.may_leave mid) → OnlyRead disks mid new → IsOpened disks largest disk new fault
  read_opened new fault only read = record {
    told = ap is_some (read.same ∙ same);
    unchanged = λ long. read.same ∙ same;
    any_moment = inr (synced_first new only (weaker disks.moment disks.left_since mid new (disks.may_leave mid) (IsReadAs largest (disks.content mid)) read.run (λ image left. new_same largest (disks.content mid) image (only image left))));
  }

  -- a new device, whether it was begun or not
  pub begun_opened : (new : D) (fault : Type 0) → disks.size_of disk ≤ 9 → is_some (disks.content new) ≡ is_some (disks.content mid) → Only (disks.content mid) (disks.may_leave mid)
      → LeavesOnly disks.moment disks.left_since mid new (IsReadAs largest (disks.content mid)) → IsOpened disks largest disk new fault
  begun_opened new fault short told only run = record {
    told = told ∙ ap is_some same;
    unchanged = λ long. absurd (omega (arith, long, short));
    any_moment = inr (synced_first new only run);
  }
