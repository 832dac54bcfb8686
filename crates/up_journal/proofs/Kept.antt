-- What the facts that a journal keeps say of its images.
use Rattle.std.proofs.Common.{◌≡◌, ◌≢◌, ◌≤◌, ◌<◌, ◌+◌, ◌^◌, ℕ, true, false, nat_le, List, [], ◌∷◌, ◌++◌, length, map, take, Option, Some, None, IsSome, IfSome, Ok, refl, sym, ◌∙◌, ap, subst, ◌⊎◌, inl, inr, ⊎_elim, arith, length-append, sum_by}
use Rattle.std.proofs.lemmas.List.{length-replicate}
use Rattle.std.proofs.lemmas.List.Sums.{sum_by-cons}
use Rattle.std.proofs.lemmas.Bool.{cases_eq, cases_lt}
use Rattle.std.proofs.lemmas.Bool.Decides.{nat_tests}
use Rattle.up_refs.specs.Sha256.{sha256}
use Rattle.sha2.proofs.Facts256.{length-sha256}
use Rattle.up_disk.specs.declared.disk.Disk.{Ghosts}
use Rattle.up_disk.proofs.Moments.{started, weaker}
use Rattle.up_journal.specs.Cells.{Closed, OnlyRead, Ready, Shape, Whole}
use Rattle.up_disk.specs.Leaving.{Leaves, LeavesNow}
use Rattle.up_journal.specs.Format1.{format1}
use Rattle.up_journal.specs.Format2.{format2, head_of, head_size, log_of}
use Rattle.up_journal.specs.Gates.{Format, IsFormat, behind_gate, front_of, has_name, head_size_of, is_open, log_behind_name, record_bytes}
use Rattle.up_journal.specs.Journal.{AreLimits, HasLog, MayHave, StandsFor, gate_behind}
use Rattle.up_journal.specs.Kept.{AreGates, IsFront, IsKept, further_seen, held_for, log_seen, payloads_at, sizes_of}
use Rattle.up_journal.specs.declared.limits.Limits.{Limits}
use Rattle.up_journal.specs.declared.limits.Span.{Span}
use Rattle.up_journal.proofs.Cells.{whole_next}
use Rattle.up_journal.proofs.Gates.{AllFit, front_closed, front_named, front_snoc, length-front_of, link_snoc}
use Rattle.up_journal.proofs.Spans.{behind_sum, behind_within, fit_by_sizes, length-part, sizes_at}

pub is_format1 : IsFormat format1
is_format1 = record { named = refl; first = refl; next = λ bytes. refl }

pub is_format2 : IsFormat format2
is_format2 = record { named = refl; first = length-replicate {A = ℕ} 32 0; next = λ bytes. length-sha256 bytes }

-- ---- fronts

pub front_none : (f : Format) → IsFront f (f.name ++ []) [] f.first_link
front_none f = record { is = refl; linked = refl }

pub front_more : (f : Format) → IsFormat f → (front link payload : List ℕ) (log : List (List ℕ)) → IsFront f front log link
    → IsFront f (front ++ 1 ∷ record_bytes link payload) (log ++ payload ∷ []) (f.next_link (record_bytes link payload))
front_more f good front link payload log is = record {
  is = ap (λ (l : List ℕ). l ++ 1 ∷ record_bytes link payload) is.is ∙ ap (λ (l : List ℕ). front_of f log ++ 1 ∷ record_bytes l payload) is.linked ∙ sym (front_snoc f good log payload);
  linked = ap (λ (l : List ℕ). f.next_link (record_bytes l payload)) is.linked ∙ sym (link_snoc f good log f.first_link payload);
}

none_long : (log : List (List ℕ)) → sum_by (λ payload. length payload + 37) log ≡ 0 → log ≡ []
none_long [] is = refl
none_long (payload ∷ log) is = absurd (omega (arith, is, sum_by-cons (λ (p : List ℕ). length p + 37) payload log))

-- ---- images

pub log_of_new : (largest : ℕ) (image : List ℕ) → length image ≤ 9 → log_of largest image ≡ Ok []
unfolding log_of
log_of_new largest image short = let is : nat_le (length image) 9 ≡ true = grind (arith, nat_tests) in rw is

pub log_of_named : (largest : ℕ) (image : List ℕ) → 9 < length image → has_name format2 image ≡ true → log_of largest image ≡ log_behind_name format2 largest image
unfolding log_of
log_of_named largest image long named = let is : nat_le (length image) 9 ≡ false = grind (arith, nat_tests) in rw (is, named)

-- an image with a closed gate behind the front has its log
pub closed_log : (largest : ℕ) → largest < 2 ^ 32 → (front image link : List ℕ) (log : List (List ℕ)) → IsFront format2 front log link → AllFit largest log → Closed front image → log_of largest image ≡ Ok log
closed_log largest small front image link log is fit closed =
    ap (λ (l : List ℕ). log_of largest l) image_is ∙ ⊎_elim long short (cases_lt 9 (length (front_of format2 log ++ closed.rest)))
  where
    image_is : image ≡ front_of format2 log ++ closed.rest
    image_is = closed.is ∙ ap (λ (l : List ℕ). l ++ closed.rest) is.is

    size : length (front_of format2 log ++ closed.rest) ≡ 8 + sum_by (λ payload. length payload + 37) log + length closed.rest
    size = omega (arith, length-append (front_of format2 log) closed.rest, length-front_of format2 is_format2 log)

    long : 9 < length (front_of format2 log ++ closed.rest) → log_of largest (front_of format2 log ++ closed.rest) ≡ Ok log
    long more = log_of_named largest (front_of format2 log ++ closed.rest) more (front_named format2 is_format2 log closed.rest)
        ∙ front_closed format2 is_format2 largest small log fit closed.rest closed.some closed.closed

    short : length (front_of format2 log ++ closed.rest) ≤ 9 → log_of largest (front_of format2 log ++ closed.rest) ≡ Ok log
    short few = log_of_new largest (front_of format2 log ++ closed.rest) few ∙ ap Ok (sym (none_long log (omega (arith, size, closed.some))))

fit_more : (largest : ℕ) (log : List (List ℕ)) (payload : List ℕ) → AllFit largest log → length payload ≤ largest → AllFit largest (log ++ payload ∷ [])
fit_more largest [] payload fit fits = (fits, tt)
fit_more largest (first ∷ log) payload fit fits = (fit.0, fit_more largest log payload fit.1 fits)

-- with a whole record behind any gate it has its log, or the log with that record
pub ready_log : (largest : ℕ) → largest < 2 ^ 32 → (front image link payload : List ℕ) (log : List (List ℕ)) → IsFront format2 front log link → AllFit largest log → length payload ≤ largest → Ready (behind_gate link payload) front image
    → (log_of largest image ≡ Ok log) ⊎ (log_of largest image ≡ Ok (log ++ payload ∷ []))
ready_log largest small front image link payload log is fit fits ready = elim (cases_eq ready.gate 1) [
  | inl opened ↦
      let whole : Whole 1 (behind_gate link payload) front image = subst (λ (g : ℕ). Whole g (behind_gate link payload) front image) opened ready.whole in
      inr (closed_log largest small (front ++ 1 ∷ record_bytes link payload) image (sha256 (record_bytes link payload)) (log ++ payload ∷ []) (front_more format2 is_format2 front link payload log is)
      (fit_more largest log payload fit fits) (whole_next (record_bytes link payload) front image whole))
  | inr shut ↦
      inl (closed_log largest small front image link log is fit (record { rest = ready.gate ∷ (behind_gate link payload ++ ready.whole.rest); is = ready.whole.is; some = omega arith; closed = closed ready.gate shut }))
]
  where
    closed : (gate : ℕ) → gate ≢ 1 → is_open (gate ∷ (behind_gate link payload ++ ready.whole.rest)) ≡ false
    closed gate shut = grind (arith, nat_tests)

-- so an image stands for the log, or the log with the further record
pub stands_for : (largest : ℕ) → largest < 2 ^ 32 → (front image link : List ℕ) (log : List (List ℕ)) (further : Option (List ℕ)) → IsFront format2 front log link → AllFit largest log → IfSome further (λ payload. length payload ≤ largest)
    → Shape (held_for link further) front image → StandsFor largest (Some log) further image
stands_for largest small front image link log None is fit fits shape = inl (record { payloads = log; told = refl; read = closed_log largest small front image link log is fit shape })
stands_for largest small front image link log (Some payload) is fit fits shape =
    ⊎_elim (λ read. inl (record { payloads = log; told = refl; read = read })) (λ read. inr (record { payloads = log ++ payload ∷ []; told = refl; read = read })) (ready_log largest small front image link payload log is fit fits shape)

-- ---- what is kept

-- the payloads keep the limit
pub gates_fit : (f : Format) (largest : ℕ) (spans : List Span) (gate : ℕ) (link bytes : List ℕ) → AreGates f largest spans gate link (length bytes) (Some bytes) → AllFit largest (payloads_at spans bytes)
gates_fit f largest spans gate link bytes gates =
    fit_by_sizes largest (payloads_at spans bytes) (sizes_of spans) (sizes_at gate spans bytes (behind_within (head_size_of f) spans 8 gate gates.placed) (omega (arith, gates.inside))) gates.fitting

module _ (limits : Limits) (spans : List Span) (gate : ℕ) (head : List ℕ) where
  -- the further record keeps the limit
  further_fits : (size : ℕ) (bytes : List ℕ) (doubtful : Option ℕ) → length bytes ≡ size → ((n : ℕ) → doubtful ≡ Some n → (gate + head_size + n < size) × (gate + head_size + n < 2 ^ 62) × (n ≤ limits.largest))
      → IfSome (further_seen (Some bytes) gate doubtful) (λ payload. length payload ≤ limits.largest)
  further_fits size bytes None sized doubt = tt
  further_fits size bytes (Some n) sized doubt =
      let d = doubt n refl in
      omega (arith, length-part (gate + 37) n bytes (omega (arith, d.0, sized)), d.2)

  pub safe_by : (content : Option (List ℕ)) (size : ℕ) (may_leave : List ℕ → Type 0) (doubtful : Option ℕ) → AreLimits limits → AreGates format2 limits.largest spans gate head size content → IfSome content (λ bytes. length bytes ≡ size)
      → ((n : ℕ) → doubtful ≡ Some n → (gate + head_size + n < size) × (gate + head_size + n < 2 ^ 62) × (n ≤ limits.largest))
      → ((bytes image : List ℕ) → content ≡ Some bytes → may_leave image → Shape (held_for head (further_seen content gate doubtful)) (take gate bytes) image)
      → ((image : List ℕ) → may_leave image → IsSome content)
      → (image : List ℕ) → may_leave image → StandsFor limits.largest (log_seen content spans) (further_seen content gate doubtful) image
  safe_by None size may_leave doubtful good gates sized doubt images told image left = absurd (let e = told image left in cc)
  safe_by (Some bytes) size may_leave doubtful good gates sized doubt images told image left =
      stands_for limits.largest good.largest (take gate bytes) image head (payloads_at spans bytes) (further_seen (Some bytes) gate doubtful) gates.told
      (gates_fit format2 limits.largest spans gate head bytes (subst (λ (n : ℕ). AreGates format2 limits.largest spans gate head n (Some bytes)) (sym sized) gates))
      (further_fits size bytes doubtful sized doubt) (images bytes image refl left)

module _ {D : Type 0} (disks : Ghosts D) (disk : D) (limits : Limits) (spans : List Span) (gate : ℕ) (head : List ℕ) (doubtful : Option ℕ) (kept : IsKept disks disk limits spans gate head doubtful)
    (sized : IfSome (disks.content disk) (λ bytes. length bytes ≡ disks.size_of disk)) where
  pub kept_safe : ((image : List ℕ) → disks.may_leave disk image → IsSome (disks.content disk))
      → LeavesNow disks disk (StandsFor limits.largest (log_seen (disks.content disk) spans) (further_seen (disks.content disk) gate doubtful))
  kept_safe told = record {
    each = safe_by limits spans gate head (disks.content disk) (disks.size_of disk) (disks.may_leave disk) doubtful kept.good kept.gates sized kept.doubt kept.images told;
  }

  sizes_by : (content : Option (List ℕ)) → IfSome content (λ bytes. length bytes ≡ disks.size_of disk) → IfSome (log_seen content spans) (λ log. map length log ≡ sizes_of spans)
  sizes_by None sized = tt
  sizes_by (Some bytes) sized = sizes_at gate spans bytes (behind_within 37 spans 8 gate kept.gates.placed) (omega (arith, kept.gates.inside, sized))

  pub kept_sizes : IfSome (log_seen (disks.content disk) spans) (λ log. map length log ≡ sizes_of spans)
  kept_sizes = sizes_by (disks.content disk) sized

  head_by : (content : Option (List ℕ)) → IfSome content (λ bytes. IsFront format2 (take gate bytes) (payloads_at spans bytes) head) → IfSome (log_seen content spans) (λ log. head ≡ head_of log)
  head_by None told = tt
  head_by (Some bytes) told = told.linked

  pub kept_head : IfSome (log_seen (disks.content disk) spans) (λ log. head ≡ head_of log)
  kept_head = head_by (disks.content disk) kept.gates.told

  pub kept_gate : gate ≡ gate_behind (sizes_of spans)
  kept_gate = behind_sum 37 spans 8 gate kept.gates.placed

-- with nothing further, an image that stands for the log has it
pub has_log : (largest : ℕ) (log : Option (List (List ℕ))) (image : List ℕ) → StandsFor largest log None image → HasLog largest log image
has_log largest log image (inl has) = has
has_log largest None image (inr has) = absurd (let e = has.told in cc)
has_log largest (Some log) image (inr has) = absurd (let e = has.told in cc)

-- a read leaves what was left
pub read_crash : {D : Type 0} (disks : Ghosts D) (old new : D) (limits : Limits) (spans : List Span) (gate : ℕ) (head : List ℕ) (doubtful : Option ℕ) → IsKept disks old limits spans gate head doubtful
    → IfSome (disks.content old) (λ bytes. length bytes ≡ disks.size_of old) → ((image : List ℕ) → disks.may_leave old image → IsSome (disks.content old)) → OnlyRead disks old new
    → Leaves disks old new (StandsFor limits.largest (log_seen (disks.content new) spans) (further_seen (disks.content new) gate doubtful))
    (StandsFor limits.largest (log_seen (disks.content old) spans) (further_seen (disks.content old) gate doubtful))
read_crash disks old new limits spans gate head doubtful kept sized told read =
    let safe = kept_safe disks old limits spans gate head doubtful kept sized told in
    record {
      safe = λ image left. subst (λ (c : Option (List ℕ)). StandsFor limits.largest (log_seen c spans) (further_seen c gate doubtful) image) (sym read.same) (safe.each image (read.fewer image left));
      any_moment = weaker disks.moment disks.left_since old new (disks.may_leave old) (StandsFor limits.largest (log_seen (disks.content old) spans) (further_seen (disks.content old) gate doubtful)) read.run safe.each;
    }

-- no call was made
pub still_crash : {D : Type 0} (disks : Ghosts D) (only_now : (disk : D) (image : List ℕ) → disks.left_since disk (disks.moment disk) image → disks.may_leave disk image) (disk : D) (limits : Limits) (spans : List Span) (gate : ℕ)
    (head : List ℕ) (doubtful : Option ℕ) → IsKept disks disk limits spans gate head doubtful → IfSome (disks.content disk) (λ bytes. length bytes ≡ disks.size_of disk)
    → ((image : List ℕ) → disks.may_leave disk image → IsSome (disks.content disk)) → (payload : List ℕ)
    → Leaves disks disk disk (StandsFor limits.largest (log_seen (disks.content disk) spans) (further_seen (disks.content disk) gate doubtful))
    (MayHave limits.largest (log_seen (disks.content disk) spans) (further_seen (disks.content disk) gate doubtful) payload)
still_crash disks only_now disk limits spans gate head doubtful kept sized told payload =
    let safe = kept_safe disks disk limits spans gate head doubtful kept sized told in
    record {
      safe = safe.each;
      any_moment = started disks.moment disks.left_since disk (MayHave limits.largest (log_seen (disks.content disk) spans) (further_seen (disks.content disk) gate doubtful) payload)
          (λ image left. inl (safe.each image (only_now disk image left)));
    }
