-- What is kept, seen and left once a record is appended, and once one is not.
use Rattle.std.proofs.Common.{◌≡◌, ◌≤◌, ◌<◌, ◌+◌, ◌-◌, ◌^◌, ◌||◌, OnErr, ℕ, false, nat_le, nat_lt, List, [], ◌∷◌, ◌++◌, length, take, Option, Some, None, is_some, IsSome, IfSome, Result, Ok, Err, refl, sym, ◌∙◌, ap, subst, ◌⊎◌, arith, length-append}
use Rattle.std.proofs.lemmas.Bool.Decides.{nat_tests}
use Rattle.std.proofs.lemmas.List.{take_at}
use Rattle.std.specs.List.{AllByRecursion}
use Rattle.up_refs.specs.Sha256.{sha256}
use Rattle.sha2.proofs.Facts256.{length-sha256}
use Rattle.up_disk.specs.Disk.{LeavesOnly, part}
use Rattle.up_disk.specs.declared.disk.Disk.{Ghosts}
use Rattle.up_journal.specs.Cells.{Closed, EachAsOne, EachWhole, RestsAsOne, Stands, Whole}
use Rattle.up_disk.specs.Leaving.{Leaves}
use Rattle.up_journal.specs.Format2.{format2, head_size}
use Rattle.up_journal.specs.Gates.{behind_gate, record_bytes}
use Rattle.up_journal.specs.Journal.{MayHave, StandsFor, State, bytes_of, gate_behind, is_full, with_further}
use Rattle.up_journal.specs.Kept.{AreBehind, AreGates, IsFront, IsKept, further_seen, log_seen, payloads_at, sizes_of}
use Rattle.up_journal.specs.declared.limits.Limits.{Limits}
use Rattle.up_journal.specs.declared.limits.Span.{Span}
use Rattle.up_journal.proofs.Cells.{whole_next}
use Rattle.up_journal.proofs.Gates.{length-record_bytes}
use Rattle.up_journal.proofs.Kept.{front_more, is_format2, kept_safe}
use Rattle.up_journal.proofs.Bases.{Base, base, front_of_shape, payload_behind}
use Rattle.up_journal.proofs.Settled.{IsOneFurther, appending, doubt_by, held_further, seen_one, unadded}
use Rattle.up_journal.proofs.Spans.{behind_more, behind_within, fitting_more, payloads_more, payloads_same, sizes_snoc}

-- ---- the limits

-- below the limits there is room for the record and a closed gate
pub not_full : (limits : Limits) (sizes : List ℕ) (size : ℕ) → is_full limits sizes size ≡ false → bytes_of sizes + size + head_size ≤ limits.device
not_full limits sizes size room = grind (arith, nat_tests)

pub full_by : (limits : Limits) (sizes : List ℕ) (records gate size : ℕ) → records ≡ length sizes → gate ≡ gate_behind sizes
    → (nat_le limits.records records || nat_lt limits.device (gate + 1 + size + head_size)) ≡ is_full limits sizes size
full_by limits sizes records gate size count place =
    ap (λ (n : ℕ). nat_le limits.records n || nat_lt limits.device (gate + 1 + size + 37)) count
    ∙ ap (λ (k : ℕ). nat_le limits.records (length sizes) || nat_lt limits.device (k + 1 + size + 37)) place

-- ---- once a record is appended

module _ (limits : Limits) (spans later : List Span) (span : Span) (gate to : ℕ) (head next payload : List ℕ) (more : later ≡ spans ++ span ∷ []) (at_is : span.at ≡ gate + head_size) (size_is : span.size ≡ length payload)
    (to_is : to ≡ gate + head_size + length payload) (next_is : next ≡ sha256 (record_bytes head payload)) (may_leave after : List ℕ → Type 0) (was : Option ℕ) (size : ℕ) where
  front_long : (front : List ℕ) → length head ≡ 32 → length front ≡ gate → length (front ++ 1 ∷ record_bytes head payload) ≡ to
  front_long front long place = omega (arith, length-append front (1 ∷ record_bytes head payload), length-record_bytes head payload, long, to_is)

  fronts_are : (front image : List ℕ) → length head ≡ 32 → length front ≡ gate → Whole 1 (behind_gate head payload) front image → take to image ≡ front ++ 1 ∷ record_bytes head payload
  fronts_are front image long place whole = front_of_shape None (front ++ 1 ∷ record_bytes head payload) image to (front_long front long place) (whole_next (record_bytes head payload) front image whole)

  -- the payloads are those from before, and this one
  payloads_are : (old image : List ℕ) → AreGates format2 limits.largest spans gate head size (Some old) → (b : Base (Some old) may_leave gate head was) → Whole 1 (behind_gate head payload) b.front image
      → payloads_at later image ≡ payloads_at spans old ++ payload ∷ []
  payloads_are old image gates b whole =
      let fronts : take gate image ≡ take gate old = front_of_shape (Some (behind_gate head payload)) b.front image gate b.stands.place (record { gate = 1; whole = whole }) ∙ b.front_is old refl in
      let last : part span.at span.size image ≡ payload =
      ap (λ (k : ℕ). part k span.size image) at_is ∙ ap (λ (n : ℕ). part (gate + 37) n image) size_is ∙ payload_behind 1 gate head payload b.front image b.stands.place gates.long whole in
      ap (λ (ss : List Span). payloads_at ss image) more ∙ payloads_more spans span image
      ∙ ap (λ (ps : List (List ℕ)). ps ++ part span.at span.size image ∷ []) (payloads_same spans gate old image (behind_within 37 spans 8 gate gates.placed) fronts)
      ∙ ap (λ (p : List ℕ). payloads_at spans old ++ p ∷ []) last

  log_more : (content now : Option (List ℕ)) → AreGates format2 limits.largest spans gate head size content → (b : Base content may_leave gate head was) → is_some now ≡ is_some content → IfSome now after
      → EachWhole 1 (behind_gate head payload) b.front after → log_seen now later ≡ with_further (log_seen content spans) (Some payload)
  log_more None None gates b told leaves whole = refl
  log_more None (Some now) gates b told leaves whole = absurd (cc)
  log_more (Some old) None gates b told leaves whole = absurd (cc)
  log_more (Some old) (Some now) gates b told leaves whole = ap Some (payloads_are old now gates b (whole.each now leaves))

  front_now : (content now : Option (List ℕ)) → AreGates format2 limits.largest spans gate head size content → (b : Base content may_leave gate head was) → is_some now ≡ is_some content → IfSome now after
      → EachWhole 1 (behind_gate head payload) b.front after → IfSome now (λ bytes. IsFront format2 (take to bytes) (payloads_at later bytes) next)
  front_now content None gates b told leaves whole = tt
  front_now None (Some now) gates b told leaves whole = absurd (cc)
  front_now (Some old) (Some now) gates b told leaves whole =
      let each = whole.each now leaves in
      let first : IsFront format2 b.front (payloads_at spans old) head = subst (λ (f : List ℕ). IsFront format2 f (payloads_at spans old) head) (sym (b.front_is old refl)) gates.told in
      let longer : IsFront format2 (b.front ++ 1 ∷ record_bytes head payload) (payloads_at spans old ++ payload ∷ []) (sha256 (record_bytes head payload)) = front_more format2 is_format2 b.front head payload (payloads_at spans old) first in
      subst (λ (f : List ℕ). IsFront format2 f (payloads_at later now) next) (sym (fronts_are b.front now gates.long b.stands.place each))
      (subst (λ (log : List (List ℕ)). IsFront format2 (b.front ++ 1 ∷ record_bytes head payload) log next) (sym (payloads_are old now gates b each))
      (subst (λ (l : List ℕ). IsFront format2 (b.front ++ 1 ∷ record_bytes head payload) (payloads_at spans old ++ payload ∷ []) l) (sym next_is) longer))

  images_now : (content now : Option (List ℕ)) → length head ≡ 32 → (b : Base content may_leave gate head was) → is_some now ≡ is_some content → IfSome now after
      → EachWhole 1 (behind_gate head payload) b.front after → (bytes image : List ℕ) → now ≡ Some bytes → after image → Closed (take to bytes) image
  images_now content None long b told leaves whole bytes image is left = absurd (cc)
  images_now content (Some now) long b told leaves whole bytes image is left =
      let same : now ≡ bytes = cc in
      subst (λ (l : List ℕ). Closed (take to l) image) same
      (subst (λ (f : List ℕ). Closed f image) (sym (fronts_are b.front now long b.stands.place (whole.each now leaves))) (whole_next (record_bytes head payload) b.front image (whole.each image left)))

-- what is kept, seen and left
pub record Appended {D : Type 0} (disks : Ghosts D) (old new : D) (limits : Limits) (spans later : List Span) (gate to : ℕ) (next payload : List ℕ) (was : Option ℕ) : Type 0 where
  pub kept : IsKept disks new limits later to next None
  pub log : log_seen (disks.content new) later ≡ with_further (log_seen (disks.content old) spans) (Some payload)
  pub crash : Leaves disks old new (StandsFor limits.largest (log_seen (disks.content new) later) None) (MayHave limits.largest (log_seen (disks.content old) spans) (further_seen (disks.content old) gate was) payload)

-- what is kept, seen and left where the record is not appended
pub record Refused {D : Type 0} (disks : Ghosts D) (old new : D) (limits : Limits) (spans : List Span) (gate : ℕ) (head payload : List ℕ) (was now : Option ℕ) : Type 0 where
  pub kept : IsKept disks new limits spans gate head now
  pub log : log_seen (disks.content new) spans ≡ log_seen (disks.content old) spans
  pub further : IsOneFurther (further_seen (disks.content old) gate was) payload (further_seen (disks.content new) gate now)
  pub crash : Leaves disks old new (StandsFor limits.largest (log_seen (disks.content new) spans) (further_seen (disks.content new) gate now))
      (MayHave limits.largest (log_seen (disks.content old) spans) (further_seen (disks.content old) gate was) payload)

module _ {D : Type 0} (disks : Ghosts D) (sized : (disk : D) → IfSome (disks.content disk) (λ bytes. length bytes ≡ disks.size_of disk)) (told : (disk : D) (image : List ℕ) → disks.may_leave disk image → IsSome (disks.content disk))
    (leaves_read : (disk : D) → IfSome (disks.content disk) (disks.may_leave disk)) (old new : D) (limits : Limits) (spans : List Span) (gate : ℕ) (head payload behind : List ℕ) (was : Option ℕ)
    (kept : IsKept disks old limits spans gate head was) (frame : behind ≡ behind_gate head payload) (fits : length payload ≤ limits.largest) (small : gate + head_size + length payload < 2 ^ 62)
    (same : is_some (disks.content new) ≡ is_some (disks.content old))
    (run : (held : Option (List ℕ)) (front : List ℕ) → Stands held front gate was (disks.may_leave old) → LeavesOnly disks.moment disks.left_since old new (RestsAsOne (disks.content old) held behind front)) where
  first : Base (disks.content old) (disks.may_leave old) gate head was
  first = base disks old limits spans gate head was kept (sized old) (told old)

  meanwhile : (b : Base (disks.content old) (disks.may_leave old) gate head was)
      → LeavesOnly disks.moment disks.left_since old new (MayHave limits.largest (log_seen (disks.content old) spans) (further_seen (disks.content old) gate was) payload)
  meanwhile b = appending disks old new limits spans gate head was kept (sized old) b payload fits
      (subst (λ (bytes : List ℕ). LeavesOnly disks.moment disks.left_since old new (RestsAsOne (disks.content old) b.held bytes b.front)) frame (run b.held b.front b.stands))

  pub appended : (later : List Span) (span : Span) (to : ℕ) (next : List ℕ) → later ≡ spans ++ span ∷ [] → span.at ≡ gate + head_size → span.size ≡ length payload → to ≡ gate + head_size + length payload → next ≡ sha256 (record_bytes head payload)
      → gate + 1 + length behind ≤ disks.size_of new → ((held : Option (List ℕ)) (front : List ℕ) → Stands held front gate was (disks.may_leave old) → EachWhole 1 behind front (disks.may_leave new))
      → Appended disks old new limits spans later gate to next payload was
  appended later span to next more at_is size_is to_is next_is room written =
      let b = base disks old limits spans gate head was kept (sized old) (told old) in
      let whole : EachWhole 1 (behind_gate head payload) b.front (disks.may_leave new) = subst (λ (bytes : List ℕ). EachWhole 1 bytes b.front (disks.may_leave new)) frame (written b.held b.front b.stands) in
      let behind_long : length behind ≡ length payload + 37 = omega (arith, ap length frame, length-append (record_bytes head payload) (0 ∷ []), length-record_bytes head payload, kept.gates.long) in
      let after : IsKept disks new limits later to next None = record {
        good = kept.good;
        gates = record {
          placed = subst (λ (ss : List Span). AreBehind 37 8 ss to) (sym more) (behind_more 37 spans span 8 gate to kept.gates.placed at_is (omega (arith, to_is, size_is)));
          fitting = subst (λ (ss : List Span). AllByRecursion (λ n. n ≤ limits.largest) (sizes_of ss)) (sym more)
              (subst (λ (ns : List ℕ). AllByRecursion (λ n. n ≤ limits.largest) ns) (sym (sizes_snoc spans span)) (fitting_more limits.largest (sizes_of spans) span.size kept.gates.fitting (omega (arith, size_is, fits))));
          inside = omega (arith, to_is, room, behind_long);
          long = ap length next_is ∙ length-sha256 (record_bytes head payload);
          told = front_now limits spans later span gate to head next payload more at_is size_is to_is next_is (disks.may_leave old) (disks.may_leave new) was (disks.size_of old) (disks.content old) (disks.content new) kept.gates b same (leaves_read new) whole;
        };
        small = omega (arith, to_is, small);
        doubt = λ n is. absurd (cc);
        images = images_now limits spans later span gate to head next payload more at_is size_is to_is next_is (disks.may_leave old) (disks.may_leave new) was (disks.size_of old) (disks.content old) (disks.content new) kept.gates.long b same (leaves_read new) whole;
      } in
      record {
        kept = after;
        log = log_more limits spans later span gate to head next payload more at_is size_is to_is next_is (disks.may_leave old) (disks.may_leave new) was (disks.size_of old) (disks.content old) (disks.content new) kept.gates b same (leaves_read new) whole;
        crash = record { safe = (kept_safe disks new limits later to next None after (sized new) (told new)).each; any_moment = meanwhile b };
      }

  pub refused : (now : Option ℕ) → disks.size_of old ≤ disks.size_of new → (now ≡ None) ⊎ ((now ≡ was) ⊎ ((now ≡ Some (length payload)) × (gate + 1 + length behind ≤ disks.size_of new)))
      → ((held : Option (List ℕ)) (front : List ℕ) → Stands held front gate was (disks.may_leave old) → EachAsOne held behind front now (disks.may_leave new)) → Refused disks old new limits spans gate head payload was now
  refused now longer doubtful each =
      let b = base disks old limits spans gate head was kept (sized old) (told old) in
      let behind_long : length behind ≡ length payload + 37 = omega (arith, ap length frame, length-append (record_bytes head payload) (0 ∷ []), length-record_bytes head payload, kept.gates.long) in
      let e : EachAsOne b.held (behind_gate head payload) b.front now (disks.may_leave new) = subst (λ (bytes : List ℕ). EachAsOne b.held bytes b.front now (disks.may_leave new)) frame (each b.held b.front b.stands) in
      let h = held_further (disks.content old) head (further_seen (disks.content old) gate was) payload b.held e.which b.held_is e.one in
      let after = unadded disks old new limits spans gate head was now kept b same (leaves_read new) longer
      (doubt_by was now gate (length payload) (length behind) (disks.size_of old) (disks.size_of new) limits.largest behind_long doubtful kept.doubt small fits longer) e.which e.shape h.further h.held e.sized in
      record {
        kept = after.kept;
        log = after.log;
        further = seen_one (disks.content old) (disks.content new) gate now (further_seen (disks.content old) gate was) payload h.further same after.seen h.one;
        crash = record { safe = (kept_safe disks new limits spans gate head now after.kept (sized new) (told new)).each; any_moment = meanwhile b };
      }

-- ---- for the call itself

-- below the limits the record and a closed gate end where a disk may
pub small_by : {D : Type 0} (view now : State D) → view ≡ now → (gate size : ℕ) → gate ≡ gate_behind view.sizes → view.limits.device ≤ 2 ^ 62 → is_full now.limits now.sizes size ≡ false → gate + head_size + size < 2 ^ 62
small_by view now is gate size place device room =
    omega (arith, not_full view.limits view.sizes size (subst (λ v. is_full v.limits v.sizes size ≡ false) (sym is) room), place, device)

-- all bytes but the last are the record
pub record_front : (link payload bytes : List ℕ) (n : ℕ) → bytes ≡ behind_gate link payload → n ≡ length bytes → take (n - 1) bytes ≡ record_bytes link payload
record_front link payload bytes n is count =
    ap (λ (l : List ℕ). take (n - 1) l) is
    ∙ take_at (record_bytes link payload) (0 ∷ []) (n - 1) (omega (arith, count, ap length is, length-append (record_bytes link payload) (0 ∷ [])))

pub on_err : {T E P : Type 0} (result : Result T E) → P → OnErr result P
on_err (Ok x) p = tt
on_err (Err e) p = p
