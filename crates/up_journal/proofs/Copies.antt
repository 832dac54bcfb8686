-- The image that is made of a log, and what a log that was moved to it has become.
use Rattle.std.proofs.Common.{◌≡◌, ◌≤◌, ◌<◌, ◌+◌, ◌-◌, ◌||◌, ◌^◌, ℕ, zero, suc, Bool, false, nat_le, nat_lt, List, [], ◌∷◌, ◌++◌, length, get_or, map, take, drop, Option, Some, None, IfSome, Result, Ok, Err, sym, ◌∙◌, ap, subst, inl, inr, ⊎_elim, arith, append_assoc, length-append, length-take-le}
use Rattle.std.proofs.lemmas.Bool.{cases_eq}
use Rattle.std.proofs.lemmas.Bool.Decides.{nat_tests}
use Rattle.std.proofs.lemmas.List.{drop_at, length-map, take-append-le, take_all}
use Rattle.std.proofs.lemmas.Option.{slice_get-get_or}
use Rattle.std.specs.List.{AllByRecursion, slice_get}
use Rattle.up_disk.specs.Disk.{LeavesOnly, Only, part}
use Rattle.up_disk.specs.declared.disk.Disk.{Ghosts}
use Rattle.up_disk.proofs.Moments.{weaker}
use Rattle.up_refs.specs.Sha256.{sha256}
use Rattle.up_journal.specs.Format1.{old_log_of}
use Rattle.up_journal.specs.Format2.{format2, log_of}
use Rattle.up_journal.specs.Gates.{behind_gates, front_of, length_bytes, record_bytes, record_list}
use Rattle.up_journal.specs.Images.{image_of}
use Rattle.up_journal.specs.Journal.{AreLimits, gate_behind, is_full}
use Rattle.up_journal.specs.Kept.{EndsBy, log_seen, payloads_at, sizes_of}
use Rattle.up_journal.specs.Moving.{HasOldLog, IsCopied, IsMoving, IsOldLogOf, IsOver, IsSwitched, IsTooLong, KeepUpTo}
use Rattle.up_journal.specs.declared.fault.MoveWhy.{MoveWhy}
use Rattle.up_journal.specs.declared.fault.MoveWhy.TheVariants as why
use Rattle.up_journal.specs.declared.limits.Limits.{Limits}
use Rattle.up_journal.specs.declared.limits.Span.{Span}
use Rattle.up_journal.specs.declared.moves.Moved.{Moved}
use Rattle.up_journal.specs.declared.moves.Moved.TheVariants as moved
use Rattle.up_journal.proofs.Gates.{AllFit}
use Rattle.up_journal.proofs.Images.{made_reads}
use Rattle.up_journal.proofs.Records.{gate_next}
use Rattle.up_journal.proofs.Spans.{fit_by_sizes, size_at, sizes_at}

-- ---- sizes and limits

-- what was tested of the next size, as a journal says it
pub full_as : (limits : Limits) (sizes : List ℕ) (n gate size : ℕ) (answer : Bool) → n ≤ length sizes → gate ≡ gate_behind (take n sizes) → answer ≡ (nat_le limits.records n || nat_lt limits.device (gate + 1 + size + 37))
    → is_full limits (take n sizes) size ≡ answer
full_as limits sizes n gate size answer within place tested =
    ap (λ (k : ℕ). nat_le limits.records k || nat_lt limits.device (gate_behind (take n sizes) + 1 + size + 37)) (length-take-le n sizes within)
    ∙ ap (λ (k : ℕ). nat_le limits.records n || nat_lt limits.device (k + 1 + size + 37)) (sym place) ∙ sym tested

-- what kept the limits
pub kept_small : (limits : Limits) (n gate size : ℕ) → AreLimits limits → false ≡ (nat_le limits.records n || nat_lt limits.device (gate + 1 + size + 37)) → gate + 37 + size + 1 ≤ 2 ^ 62
kept_small limits n gate size good kept = let within : gate + 1 + size + 37 ≤ limits.device = grind (arith, nat_tests) in omega (arith, within, good.device)

pub kept_more : (limits : Limits) (sizes : List ℕ) (n size : ℕ) → KeepUpTo limits sizes n → slice_get sizes n ≡ Some size → is_full limits (take n sizes) size ≡ false → KeepUpTo limits sizes (n + 1)
kept_more limits sizes n size kept seen keeps k other below found = elim (cases_eq k n) [
  | inl is ↦
      let same : size ≡ other = (let e : Some size ≡ Some other = sym seen ∙ ap (slice_get sizes) (sym is) ∙ found in cc) in
      ap (λ (m : ℕ). is_full limits (take m sizes) other) is ∙ ap (λ (s : ℕ). is_full limits (take n sizes) s) (sym same) ∙ keeps
  | inr before ↦ kept k other (omega (arith, below, before)) found
]

-- ---- the image

-- one record more of it
image_more : (image later whole link next payload : List ℕ) (spans others : List Span) (span : Span) (bytes : List ℕ) → image ++ behind_gates (record_list format2 link (payloads_at spans bytes)) ≡ whole → spans ≡ span ∷ others
    → later ≡ image ++ 1 ∷ record_bytes link payload → next ≡ sha256 (record_bytes link payload) → payload ≡ part span.at span.size bytes
    → later ++ behind_gates (record_list format2 next (payloads_at others bytes)) ≡ whole
image_more image later whole link next payload spans others span bytes so_far split more linked is =
    let record_is = 1 ∷ record_bytes link payload in
    let rest = behind_gates (record_list format2 (sha256 (record_bytes link payload)) (payloads_at others bytes)) in
    ap (λ (l : List ℕ). l ++ behind_gates (record_list format2 next (payloads_at others bytes))) more
    ∙ ap (λ (l : List ℕ). (image ++ record_is) ++ behind_gates (record_list format2 l (payloads_at others bytes))) linked
    ∙ append_assoc image record_is rest
    ∙ ap (λ (p : List ℕ). image ++ behind_gates (record_list format2 link (p ∷ payloads_at others bytes))) is
    ∙ ap (λ (ss : List Span). image ++ behind_gates (record_list format2 link (payloads_at ss bytes))) (sym split) ∙ so_far

pub image_more_told : (content : Option (List ℕ)) (image later link next payload : List ℕ) (all spans others : List Span) (span : Span)
    → IfSome content (λ bytes. image ++ behind_gates (record_list format2 link (payloads_at spans bytes)) ≡ front_of format2 (payloads_at all bytes)) → spans ≡ span ∷ others
    → later ≡ image ++ 1 ∷ record_bytes link payload → next ≡ sha256 (record_bytes link payload) → IfSome content (λ bytes. payload ≡ part span.at span.size bytes)
    → IfSome content (λ bytes. later ++ behind_gates (record_list format2 next (payloads_at others bytes)) ≡ front_of format2 (payloads_at all bytes))
image_more_told None image later link next payload all spans others span so_far split more linked is = tt
image_more_told (Some bytes) image later link next payload all spans others span so_far split more linked is =
    image_more image later (front_of format2 (payloads_at all bytes)) link next payload spans others span bytes so_far split more linked is

-- the record that is put behind an open gate, piece by piece
pub record_joined : (image gate size linked whole length_is link payload : List ℕ) → gate ≡ image ++ 1 ∷ [] → size ≡ gate ++ length_is → linked ≡ size ++ link → whole ≡ linked ++ payload → length_is ≡ length_bytes (length payload)
    → whole ≡ image ++ 1 ∷ record_bytes link payload
record_joined image gate size linked whole length_is link payload one two three four is =
    four ∙ ap (λ (l : List ℕ). l ++ payload) three ∙ ap (λ (l : List ℕ). (l ++ link) ++ payload) two ∙ ap (λ (l : List ℕ). ((l ++ length_is) ++ link) ++ payload) one
    ∙ append_assoc ((image ++ 1 ∷ []) ++ length_is) link payload ∙ append_assoc (image ++ 1 ∷ []) length_is (link ++ payload) ∙ append_assoc image (1 ∷ []) (length_is ++ (link ++ payload))
    ∙ ap (λ (l : List ℕ). image ++ 1 ∷ l) (sym (append_assoc length_is link payload)) ∙ ap (λ (l : List ℕ). image ++ 1 ∷ ((l ++ link) ++ payload)) is

-- and what is hashed of it
pub record_alone : (image whole record_is : List ℕ) (place : ℕ) → whole ≡ image ++ 1 ∷ record_is → place ≡ length image + 1 → take (length whole - place) (drop place whole) ≡ record_is
record_alone image whole record_is place is at =
    let split : whole ≡ (image ++ 1 ∷ []) ++ record_is = is ∙ sym (append_assoc image (1 ∷ []) record_is) in
    let ends : length (image ++ 1 ∷ []) ≡ place = omega (arith, length-append image (1 ∷ []), at) in
    let size : length whole ≡ place + length record_is = omega (arith, ap length split, length-append (image ++ 1 ∷ []) record_is, ends) in
    ap (λ (l : List ℕ). take (length whole - place) l) (ap (λ (l : List ℕ). drop place l) split ∙ drop_at (image ++ 1 ∷ []) record_is place ends)
    ∙ take_all (length whole - place) record_is (omega (arith, size))

-- the name stays in front
pub name_stays : (image later more : List ℕ) → later ≡ image ++ more → 8 ≤ length image → take 8 image ≡ format2.name → take 8 later ≡ format2.name
name_stays image later more is long named = ap (λ (l : List ℕ). take 8 l) is ∙ take-append-le 8 image more long ∙ named

-- ---- the log that was moved

fits_all : (largest : ℕ) (spans : List Span) (bytes : List ℕ) (size : ℕ) → length bytes ≡ size → AllByRecursion (EndsBy size) spans → AllByRecursion (λ n. n ≤ largest) (sizes_of spans) → AllFit largest (payloads_at spans bytes)
fits_all largest spans bytes size sized within fitting = fit_by_sizes largest (payloads_at spans bytes) (sizes_of spans) (sizes_at size spans bytes within (omega (arith, sized))) fitting

old_is : (largest : ℕ) (bytes : List ℕ) (log : List (List ℕ)) → IsOldLogOf largest (Some bytes) (Some log) → old_log_of largest bytes ≡ Ok log
old_is largest bytes log is = cc

pub copied_by : {D : Type 0} (disks : Ghosts D) (new : D) (limits : Limits) (content : Option (List ℕ)) (size n : ℕ) (spans : List Span) (image : List ℕ) → AreLimits limits → IfSome content (λ bytes. length bytes ≡ size)
    → IsOldLogOf limits.largest content (log_seen content spans) → AllByRecursion (EndsBy size) spans → AllByRecursion (λ m. m ≤ limits.largest) (sizes_of spans) → KeepUpTo limits (sizes_of spans) (length spans)
    → IfSome content (λ bytes. image ≡ image_of format2 (payloads_at spans bytes)) → n ≡ length spans → IfSome (disks.content new) (λ bytes. bytes ≡ image) → Only (disks.content new) (disks.may_leave new)
    → IfSome content (λ bytes. IsCopied disks limits n bytes new)
copied_by disks new limits None size n spans image good sized log within fitting kept image_is count written durable = tt
copied_by disks new limits (Some bytes) size n spans image good sized log within fitting kept image_is count written durable = record {
  log = payloads_at spans bytes;
  was = old_is limits.largest bytes (payloads_at spans bytes) log;
  count = count ∙ sym (length-map spans (λ (s : Span). part s.at s.size bytes));
  kept = subst (λ (k : ℕ). KeepUpTo limits (map length (payloads_at spans bytes)) k) (sym count)
      (subst (λ (sizes : List ℕ). KeepUpTo limits sizes (length spans)) (sym (sizes_at size spans bytes within (omega (arith, sized)))) kept);
  content = content_is (disks.content new) written;
  crash = record { each = λ other left. left_is (disks.content new) written other (durable other left) };
  now = made_reads limits.largest (payloads_at spans bytes) good.largest (fits_all limits.largest spans bytes size sized within fitting);
}
  where
    content_is : (found : Option (List ℕ)) → IfSome found (λ b. b ≡ image) → IfSome found (λ b. b ≡ image_of format2 (payloads_at spans bytes))
    content_is None is = tt
    content_is (Some b) is = is ∙ image_is

    left_is : (found : Option (List ℕ)) → IfSome found (λ b. b ≡ image) → (other : List ℕ) → found ≡ Some other → other ≡ image_of format2 (payloads_at spans bytes)
    left_is None is other told = absurd (cc)
    left_is (Some b) is other told = (let same : b ≡ other = cc in sym same ∙ is ∙ image_is)

pub over_by : (limits : Limits) (content : Option (List ℕ)) (size n : ℕ) (spans : List Span) → IfSome content (λ bytes. length bytes ≡ size) → IsOldLogOf limits.largest content (log_seen content spans) → AllByRecursion (EndsBy size) spans
    → IsTooLong limits (sizes_of spans) n → IfSome content (IsOver limits n)
over_by limits None size n spans sized log within over = tt
over_by limits (Some bytes) size n spans sized log within over = record {
  log = payloads_at spans bytes;
  was = old_is limits.largest bytes (payloads_at spans bytes) log;
  over = subst (λ (sizes : List ℕ). IsTooLong limits sizes n) (sym (sizes_at size spans bytes within (omega (arith, sized)))) over;
}

-- an image that is the whole one has the old log
has_old : (limits : Limits) (content : Option (List ℕ)) (size : ℕ) (spans : List Span) (image other : List ℕ) → AreLimits limits → IfSome content (λ bytes. length bytes ≡ size) → IsOldLogOf limits.largest content (log_seen content spans)
    → AllByRecursion (EndsBy size) spans → AllByRecursion (λ m. m ≤ limits.largest) (sizes_of spans) → IfSome content (λ bytes. image ≡ image_of format2 (payloads_at spans bytes)) → other ≡ image
    → IfSome content (λ bytes. HasOldLog limits.largest bytes other)
has_old limits None size spans image other good sized log within fitting image_is same = tt
has_old limits (Some bytes) size spans image other good sized log within fitting image_is same = record {
  log = payloads_at spans bytes;
  was = old_is limits.largest bytes (payloads_at spans bytes) log;
  now = ap (log_of limits.largest) (same ∙ image_is) ∙ made_reads limits.largest (payloads_at spans bytes) good.largest (fits_all limits.largest spans bytes size sized within fitting);
}

pub moving_by : {D : Type 0} (disks : Ghosts D) (new now : D) (limits : Limits) (content : Option (List ℕ)) (size : ℕ) (spans : List Span) (image : List ℕ) → AreLimits limits → IfSome content (λ bytes. length bytes ≡ size)
    → IsOldLogOf limits.largest content (log_seen content spans) → AllByRecursion (EndsBy size) spans → AllByRecursion (λ m. m ≤ limits.largest) (sizes_of spans) → IfSome content (λ bytes. image ≡ image_of format2 (payloads_at spans bytes))
    → LeavesOnly disks.moment disks.left_since new now (IsSwitched image) → LeavesOnly disks.moment disks.left_since new now (IsMoving limits.largest content)
moving_by disks new now limits content size spans image good sized log within fitting image_is run =
    weaker disks.moment disks.left_since new now (IsSwitched image) (IsMoving limits.largest content) run
    (λ other switched. ⊎_elim (λ unnamed. inl unnamed) (λ same. inr (has_old limits content size spans image other good sized log within fitting image_is same)) switched)

-- sizes that keep the limit are below 2^32
pub below_all : (largest : ℕ) (sizes : List ℕ) → largest < 2 ^ 32 → AllByRecursion (λ n. n ≤ largest) sizes → AllByRecursion (λ n. n < 2 ^ 32) sizes
below_all largest [] small fitting = tt
below_all largest (size ∷ sizes) small fitting = (omega (arith, small, fitting.0), below_all largest sizes small fitting.1)

fits_at : (bound : ℕ) (spans : List Span) (n : ℕ) (span : Span) → AllByRecursion (λ s. s < bound) (sizes_of spans) → slice_get spans n ≡ Some span → span.size < bound
fits_at bound [] n span fitting seen = absurd (cc)
fits_at bound (first ∷ spans) zero span fitting seen = (let same : first ≡ span = cc in subst (λ (s : Span). s.size < bound) same fitting.0)
fits_at bound (first ∷ spans) (suc n) span fitting seen = fits_at bound spans n span fitting.1 seen

-- the size that is read at a place keeps the bound
pub small_at : (bound : ℕ) (spans : List Span) (n : ℕ) (d : Span) → n < length spans → AllByRecursion (λ s. s < bound) (sizes_of spans) → (get_or spans n d).size < bound
small_at bound spans n d inside fitting = fits_at bound spans n (get_or spans n d) fitting (slice_get-get_or spans n d inside)

-- one size more, which keeps the limits
pub size_next : (limits : Limits) (spans : List Span) (n gate : ℕ) (d : Span) → AreLimits limits → n < length spans → gate ≡ gate_behind (take n (sizes_of spans)) → KeepUpTo limits (sizes_of spans) n
    → false ≡ (nat_le limits.records n || nat_lt limits.device (gate + 1 + (get_or spans n d).size + 37))
    → (gate + (37 + (get_or spans n d).size) ≡ gate_behind (take (n + 1) (sizes_of spans))) × (gate + (37 + (get_or spans n d).size) + 1 ≤ 2 ^ 62) × KeepUpTo limits (sizes_of spans) (n + 1)
size_next limits spans n gate d good inside place kept tested =
    let span = get_or spans n d in
    let sizes = sizes_of spans in
    let seen : slice_get sizes n ≡ Some span.size = size_at spans n span (slice_get-get_or spans n d inside) in
    let within : n ≤ length sizes = omega (arith, inside, length-map spans (λ (s : Span). s.size)) in
    let keeps : is_full limits (take n sizes) span.size ≡ false = full_as limits sizes n gate span.size false within place tested in (
      omega (arith, place, gate_next sizes n span.size seen),
      omega (arith, kept_small limits n gate span.size good tested),
      kept_more limits sizes n span.size kept seen keeps,
    )

-- ---- answers

pub full_named : (a b : ℕ) → ◌≡◌ {A = Result Moved MoveWhy} (Err (why.Full a)) (Err (why.Full b)) → a ≡ b
full_named a b is = cc

pub copied_named : (a b : ℕ) → ◌≡◌ {A = Result Moved MoveWhy} (Ok (moved.Copied a)) (Ok (moved.Copied b)) → a ≡ b
copied_named a b is = cc

-- the image is as long as the sizes so far say
pub long_more : (spans : List Span) (n : ℕ) (d : Span) (before after : ℕ) → n < length spans → before ≡ gate_behind (take n (sizes_of spans)) → after ≡ before + ((get_or spans n d).size + 37) → after ≡ gate_behind (take (n + 1) (sizes_of spans))
long_more spans n d before after inside so_far more =
    let span = get_or spans n d in
    omega (arith, so_far, more, gate_next (sizes_of spans) n span.size (size_at spans n span (slice_get-get_or spans n d inside)))

-- the image that was gathered, as the first content tells it
pub image_told : (was now : Option (List ℕ)) (image : List ℕ) (spans seen : List Span) → now ≡ was → seen ≡ spans → IfSome now (λ bytes. image ≡ image_of format2 (payloads_at seen bytes)) → IfSome was (λ bytes. image ≡ image_of format2 (payloads_at spans bytes))
image_told was now image spans seen same value made =
    subst (λ (o : Option (List ℕ)). IfSome o (λ bytes. image ≡ image_of format2 (payloads_at spans bytes))) same
    (subst (λ (ss : List Span). IfSome now (λ bytes. image ≡ image_of format2 (payloads_at ss bytes))) value made)
