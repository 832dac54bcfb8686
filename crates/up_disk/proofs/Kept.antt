-- What one call more makes of what a disk in memory keeps.
use Rattle.std.proofs.Common.{◌≡◌, ◌≤◌, ℕ, ◌+◌, ◌-◌, replicate, List, [], ◌∷◌, ◌++◌, length, take, refl, sym, ◌∙◌, ap, subst, inl, inr, arith, length-append}
use Rattle.std.proofs.lemmas.List.{take_all, take-append-le, append-nil}
use Rattle.std.proofs.lemmas.Bool.{cases_lt}
use Rattle.std.proofs.lemmas.Bool.Decides.{nat_tests}
use Rattle.up_disk.specs.Disk.{Elapses, Torn, written}
use Rattle.up_disk.specs.Pending.{done, content_after, MayMake, MayLeave, put_at, synced_calls}
use Rattle.up_disk.specs.PendingLaws.{torn_put}
use Rattle.up_disk.specs.Image.{image_after, landed, landed_cut, landed_write}
use Rattle.up_disk.specs.declared.call.Landing.{Landing}
use Rattle.up_disk.specs.declared.call.Written.{Written}
use Rattle.up_disk.specs.declared.call.Call.{Call}
use Rattle.up_disk.specs.declared.call.Call.TheVariants.{Write, Cut, Sync}

pub content_more : (calls : List Call) (call : Call) (bytes : List ℕ) → content_after bytes (calls ++ call ∷ []) ≡ done call (content_after bytes calls)
content_more [] call bytes = refl
content_more (first ∷ calls) call bytes = content_more calls call (done first bytes)

-- the image before the last call
pub leaves_more : (calls : List Call) (call : Call) (old bytes new : List ℕ) → MayLeave old bytes (calls ++ call ∷ []) new
    → (mid : List ℕ) × MayLeave old bytes calls mid × MayMake call (content_after bytes calls) mid new
leaves_more [] call old bytes new left = (old, refl, subst (λ (image : List ℕ). MayMake call bytes old image) (sym left.2) left.1)
leaves_more (first ∷ calls) call old bytes new left =
    let rest = leaves_more calls call left.0 (done first bytes) new left.2 in
    (rest.0, (left.0, left.1, rest.1), rest.2)

pub synced_more : (calls : List Call) → synced_calls (calls ++ Sync ∷ []) ≡ length calls + 1
synced_more [] = refl
synced_more (Sync ∷ calls) = omega (arith, synced_more calls)
synced_more (Write w ∷ calls) = let rest = synced_more calls in grind (arith, nat_tests)
synced_more (Cut size ∷ calls) = let rest = synced_more calls in grind (arith, nat_tests)

pub synced_write : (calls : List Call) (w : _) → synced_calls (calls ++ Write w ∷ []) ≡ synced_calls calls
synced_write [] w = refl
synced_write (Sync ∷ calls) w = omega (arith, synced_write calls w)
synced_write (Write v ∷ calls) w = let rest = synced_write calls w in grind (arith, nat_tests)
synced_write (Cut size ∷ calls) w = let rest = synced_write calls w in grind (arith, nat_tests)

pub synced_cut : (calls : List Call) (n : ℕ) → synced_calls (calls ++ Cut n ∷ []) ≡ synced_calls calls
synced_cut [] n = refl
synced_cut (Sync ∷ calls) n = omega (arith, synced_cut calls n)
synced_cut (Write v ∷ calls) n = let rest = synced_cut calls n in grind (arith, nat_tests)
synced_cut (Cut size ∷ calls) n = let rest = synced_cut calls n in grind (arith, nat_tests)

-- what a crash since a moment might have left
abbrev pub Since : List ℕ → List Call → ℕ → List ℕ → Type 0
Since first calls t image = (k : ℕ) × (t ≤ k) × (k ≤ length calls) × MayLeave first first (take k calls) image

pub elapses_more : (first : List ℕ) (calls : List Call) (call : Call)
    → Elapses (length calls) (length (calls ++ call ∷ [])) (Since first calls) (Since first (calls ++ call ∷ [])) (MayLeave first first (calls ++ call ∷ []))
elapses_more first calls call =
    let more = length-append calls (call ∷ []) in
    record {
      later = omega (arith, more);
      nothing_else = λ t image le left. elim (cases_lt (length calls) left.0) [
        | inl new ↦ inr (subst (λ (l : List Call). MayLeave first first l image) (take_all left.0 (calls ++ call ∷ []) (omega (arith, more))) left.3)
        | inr old ↦ inl (left.0, left.1, old, subst (λ (l : List Call). MayLeave first first l image) (take-append-le left.0 calls (call ∷ []) old) left.3)
      ];
      keeps = λ t image le left. (left.0, left.1, omega (arith, more, left.2), subst (λ (l : List Call). MayLeave first first l image) (sym (take-append-le left.0 calls (call ∷ []) left.2)) left.3);
    }

pub elapses_to : (first : List ℕ) (calls later : List Call) (call : Call) → later ≡ calls ++ call ∷ []
    → Elapses (length calls) (length later) (Since first calls) (Since first later) (MayLeave first first later)
elapses_to first calls later call is =
    subst (λ (l : List Call). Elapses (length calls) (length l) (Since first calls) (Since first l) (MayLeave first first l)) (sym is) (elapses_more first calls call)

pub pushed : (calls mid later : List Call) (call : Call) → later ≡ mid ++ call ∷ [] → mid ≡ calls → later ≡ calls ++ call ∷ []
pushed calls mid later call is same = is ∙ ap (λ (l : List Call). l ++ call ∷ []) same

pub kept_to : (first bytes next : List ℕ) (calls later : List Call) (call : Call) → later ≡ calls ++ call ∷ [] → bytes ≡ content_after first calls → next ≡ done call bytes
    → next ≡ content_after first later
kept_to first bytes next calls later call is kept done_is =
    done_is ∙ ap (λ (b : List ℕ). done call b) kept ∙ sym (content_more calls call first) ∙ ap (λ (l : List Call). content_after first l) (sym is)

-- the images after one call more
pub leaves_to : (first : List ℕ) (calls later : List Call) (call : Call) → later ≡ calls ++ call ∷ [] → (image : List ℕ) → MayLeave first first later image
    → (mid : List ℕ) × MayLeave first first calls mid × MayMake call (content_after first calls) mid image
leaves_to first calls later call is image left = leaves_more calls call first first image (subst (λ (l : List Call). MayLeave first first l image) is left)

-- after a sync
pub synced_only : (first bytes : List ℕ) (calls later : List Call) → later ≡ calls ++ Sync ∷ [] → bytes ≡ content_after first calls → (image : List ℕ) → MayLeave first first later image
    → image ≡ bytes
synced_only first bytes calls later is kept image left = (leaves_to first calls later Sync is image left).2 ∙ sym kept

-- within the bytes there are no zeros to put
pub put_within : (at : ℕ) (new bytes : List ℕ) → at ≤ length bytes → put_at at new bytes ≡ written at new bytes
put_within at new bytes le =
    let none : at - length bytes ≡ 0 = omega arith in
    ap (λ (k : ℕ). written at new (bytes ++ replicate k 0)) none ∙ ap (λ (l : List ℕ). written at new l) (append-nil bytes)

-- a write of which only the front has landed
pub steps_front : (at n : ℕ) (new bytes next : List ℕ) → at ≤ length bytes → length new ≤ n → next ≡ written at new bytes → Torn at n bytes next
steps_front at n new bytes next le fits is =
    subst (λ (l : List ℕ). Torn at n bytes l) (put_within at new bytes le ∙ sym is) (torn_put at n at new bytes (omega arith) (omega arith))

pub length_pushed : (calls later : List Call) (call : Call) → later ≡ calls ++ call ∷ [] → length later ≡ length calls + 1
length_pushed calls later call is = omega (arith, ap length is, length-append calls (call ∷ []))

-- each image by choice, with one call more
image_more : (l : Landing) (calls : List Call) (image bytes : List ℕ) (w : Written) → image_after l image bytes (calls ++ Write w ∷ []) ≡ landed_write l w.at w.bytes (image_after l image bytes calls)
image_more l [] image bytes w = refl
image_more l (Sync ∷ calls) image bytes w = image_more l calls bytes bytes w
image_more l (Write v ∷ calls) image bytes w = image_more l calls (landed l (Write v) image) (done (Write v) bytes) w
image_more l (Cut size ∷ calls) image bytes w = image_more l calls (landed l (Cut size) image) (done (Cut size) bytes) w

image_cut : (l : Landing) (calls : List Call) (image bytes : List ℕ) (n : ℕ) → image_after l image bytes (calls ++ Cut n ∷ []) ≡ landed_cut l n (image_after l image bytes calls)
image_cut l [] image bytes n = refl
image_cut l (Sync ∷ calls) image bytes n = image_cut l calls bytes bytes n
image_cut l (Write v ∷ calls) image bytes n = image_cut l calls (landed l (Write v) image) (done (Write v) bytes) n
image_cut l (Cut size ∷ calls) image bytes n = image_cut l calls (landed l (Cut size) image) (done (Cut size) bytes) n

image_sync : (l : Landing) (calls : List Call) (image bytes : List ℕ) → image_after l image bytes (calls ++ Sync ∷ []) ≡ content_after bytes calls
image_sync l [] image bytes = refl
image_sync l (Sync ∷ calls) image bytes = image_sync l calls bytes bytes
image_sync l (Write v ∷ calls) image bytes = image_sync l calls (landed l (Write v) image) (done (Write v) bytes)
image_sync l (Cut size ∷ calls) image bytes = image_sync l calls (landed l (Cut size) image) (done (Cut size) bytes)

pub image_written : (l : Landing) (first : List ℕ) (calls later : List Call) (w : Written) → later ≡ calls ++ Write w ∷ []
    → image_after l first first later ≡ landed_write l w.at w.bytes (image_after l first first calls)
image_written l first calls later w is = ap (λ (cs : List Call). image_after l first first cs) is ∙ image_more l calls first first w

pub image_is_cut : (l : Landing) (first : List ℕ) (calls later : List Call) (n : ℕ) → later ≡ calls ++ Cut n ∷ []
    → image_after l first first later ≡ landed_cut l n (image_after l first first calls)
image_is_cut l first calls later n is = ap (λ (cs : List Call). image_after l first first cs) is ∙ image_cut l calls first first n

pub image_synced : (l : Landing) (first bytes : List ℕ) (calls later : List Call) → later ≡ calls ++ Sync ∷ [] → bytes ≡ content_after first calls
    → bytes ≡ image_after l first first later
image_synced l first bytes calls later is kept = kept ∙ sym (image_sync l calls first first) ∙ sym (ap (λ (cs : List Call). image_after l first first cs) is)
