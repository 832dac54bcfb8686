-- Bytes from a gate on read in one way, and it is read gate by gate.
use Rattle.std.proofs.Common.{◌≡◌, ◌≢◌, ◌↔◌, ◌≤◌, ◌<◌, ◌^◌, ◌+◌, ◌-◌, ℕ, zero, suc, true, false, List, [], ◌∷◌, ◌++◌, length, take, drop, Result, Ok, Err, refl, sym, ◌∙◌, ap, subst, ◌⊎◌, inl, inr, arith, append_assoc, length-append, length-drop}
use Rattle.std.proofs.lemmas.Bool.{cases_Bool, cases_lt}
use Rattle.std.proofs.lemmas.Bool.Decides.{nat_tests}
use Rattle.std.proofs.lemmas.List.{append-nil, get_or-take, get_or_past, length-take, length-take-le, take-append-drop}
use Rattle.std.proofs.lemmas.Nat.{be_bytes_4}
use Rattle.std.proofs.lemmas.Slice.Eq.{bytes_eq-Decides}
use Rattle.std.specs.List.{AllByRecursion}
use Rattle.std.specs.Str.{bytes_eq}
use Rattle.up_bytes.proofs.Forms.{IsBytes-drop}
use Rattle.up_bytes.specs.Forms.{IsBytes}
use Rattle.up_disk.specs.Disk.{part}
use Rattle.up_journal.specs.Damages.{Damage, Damaged, Chain, OldFormat}
use Rattle.up_journal.specs.Format1.{format1, old_log_of}
use Rattle.up_journal.specs.Format2.{format2, log_of}
use Rattle.up_journal.specs.Gates.{Format, IsFormat, after_payloads, behind_gates, front_of, has_name, head_size_of, is_open, is_whole, length_bytes, link_at, link_behind, log_from, next_gate, number_of, payload_at, record_at, record_bytes, record_list, size_at}
use Rattle.up_journal.specs.Images.{AreRecords, ImageReads, IsBroken, IsUnlinked, Reads, image_of, place_behind}
use Rattle.up_journal.proofs.Gates.{few, log_broken, log_closed, log_open, log_unlinked, read_records, whole_sizes}
use Rattle.up_journal.proofs.Kept.{closed_log, is_format1, is_format2, log_of_named}
use Rattle.up_journal.proofs.Olds.{old_log_named}
use Rattle.up_journal.proofs.Reading.{IsRecordAt, front_stands, record_stands}

-- ---- bytes

IsBytes-take : (n : ℕ) (bytes : List ℕ) → IsBytes bytes → IsBytes (take n bytes)
IsBytes-take n bytes fits i = elim (cases_lt i n) [
  | inl lt ↦ rw (get_or-take n bytes i 0 lt) (fits i)
  | inr le ↦ rw (get_or_past (take n bytes) i 0 (omega (arith, length-take n bytes))) (omega arith)
]

-- ---- what reads so is read so

whole_is : (format : Format) (largest : ℕ) (bytes : List ℕ) → size_at bytes ≤ largest → head_size_of format + size_at bytes < length bytes → is_whole (head_size_of format) largest bytes ≡ true
whole_is format largest bytes fits inside = grind (arith, nat_tests)

broken_is : (format : Format) (largest : ℕ) (bytes : List ℕ) → (largest < size_at bytes) ⊎ (length bytes ≤ head_size_of format + size_at bytes) → is_whole (head_size_of format) largest bytes ≡ false
broken_is format largest bytes (inl over) = grind (arith, nat_tests)
broken_is format largest bytes (inr outside) = grind (arith, nat_tests)

other_is : (got wanted : List ℕ) → got ≢ wanted → bytes_eq got wanted ≡ false
other_is got wanted other = elim (cases_Bool (bytes_eq got wanted)) [ inl same ↦ absurd (other ((bytes_eq-Decides got wanted).0 same)) | inr differs ↦ differs ]

module _ (f : Format) (good : IsFormat f) (largest : ℕ) (small : largest < 2 ^ 32) where
  -- the records are read, and then what is behind them, once more at the least
  module _ (gate : ℕ) (link bytes : List ℕ) (log : List (List ℕ)) (rest : List ℕ) (long : length link ≡ f.link_size) (are : AreRecords f largest link bytes log rest) (most : ℕ) (enough : length bytes ≤ most) where
    behind : (left : ℕ) × (log_from f most largest gate link bytes ≡ after_payloads log (log_from f (suc left) largest (place_behind f gate link log) (link_behind f link log) rest))
    behind =
        let gates = behind_gates (record_list f link log) in
        let size : length bytes ≡ length gates + length rest = omega (arith, ap length are.whole, length-append gates rest) in
        let left = most - length log - 1 in
        let fuel : most ≡ length log + suc left = omega (arith, size, few f good log link, are.some, enough) in (
          left,
          ap (λ (l : List ℕ). log_from f most largest gate link l) are.whole ∙ read_records f good largest small rest are.some (suc left) log link gate most long are.fit fuel,
        )

    pub then_closed : is_open rest ≡ false → log_from f most largest gate link bytes ≡ Ok log
    then_closed closed =
        let read = behind in
        read.1 ∙ ap (λ (r : Result (List (List ℕ)) Damage). after_payloads log r) (log_closed f read.0 largest (place_behind f gate link log) (link_behind f link log) rest closed) ∙ ap Ok (append-nil log)

    pub then_broken : IsBroken f largest rest → log_from f most largest gate link bytes ≡ Err (Damaged (place_behind f gate link log))
    then_broken is =
        let read = behind in
        read.1 ∙ ap (λ (r : Result (List (List ℕ)) Damage). after_payloads log r) (log_broken f read.0 largest (place_behind f gate link log) (link_behind f link log) rest is.opened (broken_is f largest rest is.broken))

    pub then_unlinked : IsUnlinked f largest (link_behind f link log) rest → log_from f most largest gate link bytes ≡ Err (Chain (place_behind f gate link log) (link_behind f link log) (link_at f rest))
    then_unlinked is =
        let read = behind in
        read.1 ∙ ap (λ (r : Result (List (List ℕ)) Damage). after_payloads log r) (log_unlinked f read.0 largest (place_behind f gate link log) (link_behind f link log) rest is.opened (whole_is f largest rest is.fits is.inside)
        (other_is (link_at f rest) (link_behind f link log) is.other))

  pub read_so : (gate most : ℕ) (link bytes : List ℕ) (answer : Result (List (List ℕ)) Damage) → length link ≡ f.link_size → length bytes ≤ most → Reads f largest gate link bytes answer → log_from f most largest gate link bytes ≡ answer
  read_so gate most link bytes (Ok log) long enough reads = then_closed gate link bytes log reads.rest long reads.records most enough reads.closed
  read_so gate most link bytes (Err (Damaged place)) long enough reads =
      then_broken gate link bytes reads.log reads.rest long reads.records most enough reads.broken ∙ ap (λ (p : ℕ). Err (Damaged p)) (sym reads.at)
  read_so gate most link bytes (Err (Chain place wanted got)) long enough reads =
      then_unlinked gate link bytes reads.log reads.rest long reads.records most enough reads.unlinked
      ∙ ap (λ (p : ℕ). Err (Chain p (link_behind f link reads.log) (link_at f reads.rest))) (sym reads.at)
      ∙ ap (λ (w : List ℕ). Err (Chain place w (link_at f reads.rest))) (sym reads.has_to) ∙ ap (λ (g : List ℕ). Err (Chain place wanted g)) (sym reads.carries)
  read_so gate most link bytes (Err OldFormat) long enough reads = absurd reads

  pub one_reading : (gate : ℕ) (link bytes : List ℕ) (answer other : Result (List (List ℕ)) Damage) → length link ≡ f.link_size → Reads f largest gate link bytes answer → Reads f largest gate link bytes other → answer ≡ other
  one_reading gate link bytes answer other long one two =
      sym (read_so gate (length bytes) link bytes answer long (omega arith) one) ∙ read_so gate (length bytes) link bytes other long (omega arith) two

  -- ---- what is read so reads so

  -- a record more in front
  module _ (gate next : ℕ) (link bytes payload rest : List ℕ) (fits : length payload ≤ largest) (place : next ≡ gate + length (1 ∷ record_bytes link payload)) (is : bytes ≡ (1 ∷ record_bytes link payload) ++ rest) where
    more : (log : List (List ℕ)) (end : List ℕ) → AreRecords f largest (f.next_link (record_bytes link payload)) rest log end → AreRecords f largest link bytes (payload ∷ log) end
    more log end are = record {
      whole = is ∙ ap (λ (l : List ℕ). (1 ∷ record_bytes link payload) ++ l) are.whole
          ∙ sym (append_assoc (1 ∷ record_bytes link payload) (behind_gates (record_list f (f.next_link (record_bytes link payload)) log)) end);
      fit = (fits, are.fit);
      some = are.some;
    }

    at_more : (log : List (List ℕ)) → place_behind f next (f.next_link (record_bytes link payload)) log ≡ place_behind f gate link (payload ∷ log)
    at_more log = omega (arith, place, length-append (1 ∷ record_bytes link payload) (behind_gates (record_list f (f.next_link (record_bytes link payload)) log)))

    pub reads_more : (answer : Result (List (List ℕ)) Damage) → Reads f largest next (f.next_link (record_bytes link payload)) rest answer → Reads f largest gate link bytes (after_payloads (payload ∷ []) answer)
    reads_more (Ok log) reads = record { rest = reads.rest; records = more log reads.rest reads.records; closed = reads.closed }
    reads_more (Err (Damaged p)) reads = record { log = payload ∷ reads.log; rest = reads.rest; records = more reads.log reads.rest reads.records; broken = reads.broken; at = reads.at ∙ at_more reads.log }
    reads_more (Err (Chain p wanted got)) reads = record {
      log = payload ∷ reads.log;
      rest = reads.rest;
      records = more reads.log reads.rest reads.records;
      unlinked = reads.unlinked;
      at = reads.at ∙ at_more reads.log;
      has_to = reads.has_to;
      carries = reads.carries;
    }
    reads_more (Err OldFormat) reads = reads

  none : (link bytes : List ℕ) → 0 < length bytes → AreRecords f largest link bytes [] bytes
  none link bytes some = record { whole = refl; fit = tt; some = some }

  here : (gate : ℕ) → gate ≡ gate + 0
  here gate = omega arith

  broken_by : (bytes : List ℕ) → is_whole (head_size_of f) largest bytes ≡ false → (largest < size_at bytes) ⊎ (length bytes ≤ head_size_of f + size_at bytes)
  broken_by bytes broken = elim (cases_lt largest (size_at bytes)) [
    | inl over ↦ inl over
    | inr fits ↦ elim (cases_lt (head_size_of f + size_at bytes) (length bytes)) [
      | inl inside ↦ absurd (let whole = whole_is f largest bytes fits inside in cc)
      | inr outside ↦ inr outside
    ]
  ]

  -- the length in 4 bytes is that of the number that they stand for
  canonical : (bytes : List ℕ) → IsBytes bytes → 5 ≤ length bytes → part 1 4 bytes ≡ length_bytes (size_at bytes)
  unfolding length_bytes number_of
  canonical bytes fits long =
      sym (be_bytes_4 (part 1 4 bytes) (size_at bytes) (length-take-le 4 (drop 1 bytes) (omega (arith, length-drop 1 bytes))) (IsBytes-take 4 (drop 1 bytes) (IsBytes-drop 1 bytes fits)) refl)

  reading : (most gate : ℕ) (link bytes : List ℕ) → length link ≡ f.link_size → IsBytes bytes → 0 < length bytes → length bytes ≤ most → Reads f largest gate link bytes (log_from f most largest gate link bytes)
  reading zero gate link bytes long fits some enough = absurd (omega arith)
  reading (suc most) gate link bytes long fits some enough = elim (cases_Bool (is_open bytes)) [
    | inr closed ↦ subst (Reads f largest gate link bytes) (sym (log_closed f most largest gate link bytes closed)) (record { rest = bytes; records = none link bytes some; closed = closed })
    | inl opened ↦ elim (cases_Bool (is_whole (head_size_of f) largest bytes)) [
      | inr broken ↦
          subst (Reads f largest gate link bytes) (sym (log_broken f most largest gate link bytes opened broken))
          (record { log = []; rest = bytes; records = none link bytes some; broken = record { opened = opened; broken = broken_by bytes broken }; at = here gate })
      | inl whole ↦ elim (cases_Bool (bytes_eq (link_at f bytes) link)) [
        | inr other ↦
            let sizes = whole_sizes (head_size_of f) largest bytes whole in
            subst (Reads f largest gate link bytes) (sym (log_unlinked f most largest gate link bytes opened whole other)) (record {
              log = [];
              rest = bytes;
              records = none link bytes some;
              unlinked = record { opened = opened; fits = sizes.0; inside = sizes.1; other = λ same. (let is = (bytes_eq-Decides (link_at f bytes) link).1 same in cc) };
              at = here gate;
              has_to = refl;
              carries = refl;
            })
        | inl linked ↦
            let sizes = whole_sizes (head_size_of f) largest bytes whole in
            let n = size_at bytes in
            let stands : IsRecordAt f (drop 0 bytes) n link = record { opened = opened; canonical = canonical bytes fits (omega (arith, sizes.1)); linked = (bytes_eq-Decides (link_at f bytes) link).0 linked } in
            let payload = payload_at (head_size_of f) bytes in
            let same : part (0 + head_size_of f) n bytes ≡ payload = ap (λ (k : ℕ). part k n bytes) (omega arith) in
            let rest = next_gate (head_size_of f) bytes in
            let inside : 0 + head_size_of f + n < length bytes = omega (arith, sizes.1) in
            let record_is : record_at f bytes ≡ record_bytes link payload = record_stands f good 0 n bytes link inside stands ∙ ap (λ (p : List ℕ). record_bytes link p) same in
            let front : take (head_size_of f + n) bytes ≡ 1 ∷ record_bytes link payload = ap (λ (k : ℕ). take k bytes) (omega arith) ∙ front_stands f good 0 n bytes link inside stands ∙ ap (λ (p : List ℕ). 1 ∷ record_bytes link p) same in
            let is : bytes ≡ (1 ∷ record_bytes link payload) ++ rest = sym (take-append-drop (head_size_of f + n) bytes) ∙ ap (λ (l : List ℕ). l ++ rest) front in
            let front_long : length (1 ∷ record_bytes link payload) ≡ head_size_of f + n = ap length (sym front) ∙ length-take-le (head_size_of f + n) bytes (omega (arith, sizes.1)) in
            let payload_long : length payload ≤ largest = omega (arith, sizes.0, length-take-le n (drop (head_size_of f) bytes) (omega (arith, length-drop (head_size_of f) bytes, sizes.1))) in
            let next = gate + head_size_of f + n in
            let inner = reading most next (f.next_link (record_at f bytes)) rest (good.next (record_at f bytes)) (IsBytes-drop (head_size_of f + n) bytes fits) (omega (arith, length-drop (head_size_of f + n) bytes, sizes.1)) (omega (arith, length-drop (head_size_of f + n) bytes, sizes.1)) in
            subst (Reads f largest gate link bytes) (sym (log_open f most largest gate link bytes opened whole linked))
            (reads_more gate next link bytes payload rest payload_long (omega (arith, front_long)) is (log_from f most largest next (f.next_link (record_at f bytes)) rest)
            (subst (λ (l : List ℕ). Reads f largest next (f.next_link l) rest (log_from f most largest next (f.next_link (record_at f bytes)) rest)) record_is inner))
      ]
    ]
  ]

  pub exactly : (gate most : ℕ) (link bytes : List ℕ) (answer : Result (List (List ℕ)) Damage) → length link ≡ f.link_size → IsBytes bytes → 0 < length bytes → length bytes ≤ most
      → (log_from f most largest gate link bytes ≡ answer) ↔ Reads f largest gate link bytes answer
  exactly gate most link bytes answer long fits some enough =
      (λ is. subst (Reads f largest gate link bytes) is (reading most gate link bytes long fits some enough), read_so gate most link bytes answer long enough)

-- ---- images

dropped : (image : List ℕ) → 9 < length image → 0 < length (drop 8 image)
dropped image long = omega (arith, length-drop 8 image)

pub second_reads : (largest : ℕ) (image : List ℕ) (answer : Result (List (List ℕ)) Damage) → largest < 2 ^ 32 → IsBytes image → 9 < length image → has_name format2 image ≡ true
    → (log_of largest image ≡ answer) ↔ ImageReads format2 largest image answer
second_reads largest image answer small fits long named =
    let read = log_of_named largest image long named in
    let both = exactly format2 is_format2 largest small 8 (length image) format2.first_link (drop 8 image) answer is_format2.first (IsBytes-drop 8 image fits) (dropped image long) (omega (arith, length-drop 8 image)) in
    (λ is. both.0 (sym read ∙ is), λ reads. read ∙ both.1 reads)

pub first_reads : (largest : ℕ) (image : List ℕ) (answer : Result (List (List ℕ)) Damage) → largest < 2 ^ 32 → IsBytes image → 9 < length image → has_name format1 image ≡ true
    → (old_log_of largest image ≡ answer) ↔ ImageReads format1 largest image answer
first_reads largest image answer small fits long named =
    let read = old_log_named largest image long named in
    let both = exactly format1 is_format1 largest small 8 (length image) format1.first_link (drop 8 image) answer is_format1.first (IsBytes-drop 8 image fits) (dropped image long) (omega (arith, length-drop 8 image)) in
    (λ is. both.0 (sym read ∙ is), λ reads. read ∙ both.1 reads)

-- the image that is made of a log has it
pub made_reads : (largest : ℕ) (log : List (List ℕ)) → largest < 2 ^ 32 → AllByRecursion (λ payload. length payload ≤ largest) log → log_of largest (image_of format2 log) ≡ Ok log
made_reads largest log small fit =
    closed_log largest small (front_of format2 log) (image_of format2 log) (link_behind format2 format2.first_link log) log (record { is = refl; linked = refl }) fit
    (record { rest = 0 ∷ []; is = refl; some = omega arith; closed = refl })
