-- The whole frames at the front of bytes, and readings of whole streams.
use Rattle.std.proofs.Common.{◌≡◌, ℕ, ◌+◌, ◌-◌, ◌^◌, ◌<◌, ◌≤◌, List, [], ◌∷◌, ◌++◌, length, take, drop, Option, Some, None, refl, sym, ap, subst, ◌∙◌, append_assoc, arith, inl, inr}
use Rattle.std.specs.Int.{w32, to_be_bytes, from_be_bytes}
use Rattle.std.specs.List.{AllByRecursion}
use Rattle.std.proofs.lemmas.Bool.{cases_lt}
use Rattle.std.proofs.lemmas.Nat.{be_bytes_4, from_be_bytes-to_be_bytes_4}
use Rattle.std.proofs.lemmas.List.{append-nil, length-append, length-take, length-take-le, length-drop, get_or-take, get_or-drop, get_or_past, take_at, drop_at, take-append-drop, take-append-le, drop-drop}
use Rattle.up_bytes.specs.Forms.{IsBytes}
use Rattle.up_frame.specs.Stream.{frame, IsPayload, told, IsPartial, IsBad, frames, Splits, Breaks, Reads}
use Rattle.up_frame.specs.Cutting.{IsWhole, Cuts}

-- ---- one frame

pub length-frame : (payload : List ℕ) → length (frame payload) ≡ 4 + length payload
unfolding frame
length-frame payload = length-append (to_be_bytes w32 (length payload)) payload

-- what the head of a frame tells, whatever follows the frame
pub told-frame : (payload rest : List ℕ) → length payload < 2 ^ 32 → told (frame payload ++ rest) ≡ length payload
unfolding told frame
told-frame payload rest lt = from_be_bytes-to_be_bytes_4 (length payload) lt

-- the bytes behind the head and before the next frame
pub cut-frame : (payload rest : List ℕ) → (take (length payload) (drop 4 (frame payload ++ rest)) ≡ payload) × (drop (4 + length payload) (frame payload ++ rest) ≡ rest)
unfolding frame
cut-frame payload rest = (take_at payload rest (length payload) refl, drop_at (frame payload) rest (4 + length payload) (length-frame payload))

IsBytes-take : (n : ℕ) (bytes : List ℕ) → IsBytes bytes → IsBytes (take n bytes)
IsBytes-take n bytes h i =
    elim (cases_lt i n) [
      | inl lt ↦ rw (get_or-take n bytes i 0 lt) (h i)
      | inr le ↦ rw (get_or_past (take n bytes) i 0 (omega (arith, length-take n bytes))) (omega arith)
    ]

pub IsBytes-drop : (n : ℕ) (bytes : List ℕ) → IsBytes bytes → IsBytes (drop n bytes)
IsBytes-drop n bytes h i = rw get_or-drop (h (n + i))

-- the whole frame that the head of the bytes tells of
pub frame-at : (bytes : List ℕ) (n : ℕ) → IsBytes bytes → told bytes ≡ n → 4 + n ≤ length bytes → bytes ≡ frame (take n (drop 4 bytes)) ++ drop (4 + n) bytes
unfolding told frame
frame-at bytes n fits is there =
    let payload = take n (drop 4 bytes) in
    let len : length payload ≡ n = length-take-le n (drop 4 bytes) (omega (arith, length-drop 4 bytes)) in
    let head : to_be_bytes w32 n ≡ take 4 bytes = be_bytes_4 (take 4 bytes) n (length-take-le 4 bytes (omega arith)) (IsBytes-take 4 bytes fits) (sym is) in
    let behind : payload ++ drop (4 + n) bytes ≡ drop 4 bytes = ap (λ (t : List ℕ). payload ++ t) (sym (drop-drop n 4 bytes)) ∙ take-append-drop n (drop 4 bytes) in
    sym (ap (λ (k : ℕ). to_be_bytes w32 k ++ payload ++ drop (4 + n) bytes) len
    ∙ ap (λ (h : List ℕ). h ++ payload ++ drop (4 + n) bytes) head
    ∙ append_assoc (take 4 bytes) payload (drop (4 + n) bytes)
    ∙ ap (λ (t : List ℕ). take 4 bytes ++ t) behind
    ∙ take-append-drop 4 bytes)

pub told-below : (bytes : List ℕ) → IsBytes bytes → told bytes < 2 ^ 32
unfolding told
told-below bytes fits = let f = IsBytes-take 4 bytes fits in omega (arith, f 0, f 1, f 2, f 3)

-- ---- lists of frames

pub frames-append : (xs ys : List (List ℕ)) → frames (xs ++ ys) ≡ frames xs ++ frames ys
frames-append [] ys = refl
frames-append (x ∷ xs) ys = ap (λ (t : List ℕ). frame x ++ t) (frames-append xs ys) ∙ sym (append_assoc (frame x) (frames xs) (frames ys))

pub each-append : (limit : ℕ) (xs ys : List (List ℕ)) → AllByRecursion (IsPayload limit) xs → AllByRecursion (IsPayload limit) ys → AllByRecursion (IsPayload limit) (xs ++ ys)
each-append limit [] ys p q = q
each-append limit (x ∷ xs) ys p q = (p.0, each-append limit xs ys p.1 q)

-- one more whole frame
pub Cuts-more : (limit : ℕ) (bytes : List ℕ) (payloads : List (List ℕ)) (n length_of : ℕ) → IsBytes bytes → Cuts limit bytes payloads n → IsWhole limit (drop n bytes) length_of
    → Cuts limit bytes (payloads ++ take length_of (drop (n + 4) bytes) ∷ []) (n + 4 + length_of)
Cuts-more limit bytes payloads n k fits cuts whole =
    let rest = drop n bytes in
    let left : length rest ≡ length bytes - n = length-drop n bytes in
    let payload = take k (drop 4 rest) in
    let len : length payload ≡ k = length-take-le k (drop 4 rest) (omega (arith, length-drop 4 rest, whole.there)) in
    let one = frame-at rest k (IsBytes-drop n bytes fits) whole.told whole.there in
    let same : payload ≡ take k (drop (n + 4) bytes) = ap (take k) (drop-drop 4 n bytes) in
    let behind : drop (4 + k) rest ≡ drop (n + 4 + k) bytes = drop-drop (4 + k) n bytes ∙ ap (λ (i : ℕ). drop i bytes) (omega arith) in
    let joined : bytes ≡ frames (payloads ++ payload ∷ []) ++ drop (n + 4 + k) bytes =
    cuts.whole ∙ ap (λ (t : List ℕ). frames payloads ++ t) (one ∙ ap (λ (t : List ℕ). frame payload ++ t) behind)
    ∙ sym (append_assoc (frames payloads) (frame payload) (drop (n + 4 + k) bytes))
    ∙ ap (λ (t : List ℕ). frames payloads ++ t ++ drop (n + 4 + k) bytes) (sym (append-nil (frame payload)))
    ∙ ap (λ (t : List ℕ). t ++ drop (n + 4 + k) bytes) (sym (frames-append payloads (payload ∷ []))) in
    let fine : IsPayload limit payload = record { some = omega (arith, whole.some); most = omega (arith, whole.most); counted = omega (arith, whole.told, told-below rest (IsBytes-drop n bytes fits)) } in
    let made : Cuts limit bytes (payloads ++ payload ∷ []) (n + 4 + k) = record {
      whole = joined;
      each = each-append limit payloads (payload ∷ []) cuts.each (fine, tt);
      before = sym (ap length (frames-append payloads (payload ∷ [])) ∙ length-append (frames payloads) (frame payload ++ []) ∙ omega (arith, cuts.before, length-append (frame payload) [], length-frame payload));
      within = omega (arith, cuts.within, whole.there);
    } in
    subst (λ (p : List ℕ). Cuts limit bytes (payloads ++ p ∷ []) (n + 4 + k)) same made

-- ---- a stream, and a piece behind it

-- a place that is counted from further back
abbrev pub shifted : ℕ → Option ℕ → Option ℕ
shifted n None = None
shifted n (Some at) = Some (n + at)

-- what reads so with a rest goes on as the rest goes on with the piece
pub reads-on : (limit : ℕ) (stream piece : List ℕ) (before payloads : List (List ℕ)) (rest now : List ℕ) (bad : Option ℕ)
    → Splits limit stream before rest → Reads limit (rest ++ piece) payloads now bad → Reads limit (stream ++ piece) (before ++ payloads) now (shifted (length (frames before)) bad)
reads-on limit stream piece before payloads rest now None old new =
    record {
      whole = ap (λ (t : List ℕ). t ++ piece) old.whole ∙ append_assoc (frames before) rest piece ∙ ap (λ (t : List ℕ). frames before ++ t) new.whole
          ∙ sym (append_assoc (frames before) (frames payloads) now) ∙ ap (λ (t : List ℕ). t ++ now) (sym (frames-append before payloads));
      each = each-append limit before payloads old.each new.each;
      partial = new.partial;
    }
reads-on limit stream piece before payloads rest now (Some at) old new = (
  record {
    tail = new.0.tail;
    whole = ap (λ (t : List ℕ). t ++ piece) old.whole ∙ append_assoc (frames before) rest piece ∙ ap (λ (t : List ℕ). frames before ++ t) new.0.whole
        ∙ sym (append_assoc (frames before) (frames payloads) new.0.tail) ∙ ap (λ (t : List ℕ). t ++ new.0.tail) (sym (frames-append before payloads));
    each = each-append limit before payloads old.each new.0.each;
    bad = new.0.bad;
    before = sym (ap length (frames-append before payloads) ∙ length-append (frames before) (frames payloads) ∙ ap (λ (k : ℕ). length (frames before) + k) (sym new.0.before));
  },
  new.1,
)

told-more : (bytes piece : List ℕ) → 4 ≤ length bytes → told (bytes ++ piece) ≡ told bytes
unfolding told
told-more bytes piece le = ap (from_be_bytes w32) (take-append-le 4 bytes piece le)

bad-more : (limit : ℕ) (bytes piece : List ℕ) → IsBad limit bytes → IsBad limit (bytes ++ piece)
bad-more limit bytes piece bad =
    let same = told-more bytes piece bad.0 in
    (omega (arith, bad.0, length-append bytes piece), elim bad.1 [ inl none ↦ inl (same ∙ none) | inr over ↦ inr (omega (arith, same, over)) ])

-- behind a bad frame nothing counts
pub breaks-on : (limit : ℕ) (stream piece : List ℕ) (payloads : List (List ℕ)) (place : ℕ) → Breaks limit stream payloads place → Breaks limit (stream ++ piece) payloads place
breaks-on limit stream piece payloads place old = record {
  tail = old.tail ++ piece;
  whole = ap (λ (t : List ℕ). t ++ piece) old.whole ∙ append_assoc (frames payloads) old.tail piece;
  each = old.each;
  bad = bad-more limit old.tail piece old.bad;
  before = old.before;
}

-- ---- one reading

-- where a whole frame begins there is nothing less, and nothing bad
pub not_partial : (limit : ℕ) (payload rest bytes : List ℕ) → IsPayload limit payload → frame payload ++ rest ≡ bytes → IsPartial limit bytes → ⊥
not_partial limit payload rest bytes fine e partial =
    let len : length bytes ≡ 4 + length payload + length rest = ap length (sym e) ∙ length-append (frame payload) rest ∙ ap (λ (k : ℕ). k + length rest) (length-frame payload) in
    let is : told bytes ≡ length payload = ap told (sym e) ∙ told-frame payload rest fine.counted in
    elim partial [ inl few ↦ omega arith | inr begun ↦ omega (arith, begun.wanting) ]

pub not_bad : (limit : ℕ) (payload rest bytes : List ℕ) → IsPayload limit payload → frame payload ++ rest ≡ bytes → IsBad limit bytes → ⊥
not_bad limit payload rest bytes fine e bad =
    let is : told bytes ≡ length payload = ap told (sym e) ∙ told-frame payload rest fine.counted in
    elim bad.1 [ inl none ↦ omega (arith, fine.some) | inr over ↦ omega (arith, fine.most) ]

-- what is behind the whole frames: no whole frame
abbrev pub IsEnd : ℕ → List ℕ → Type 0
IsEnd limit bytes = (payload rest : List ℕ) → IsPayload limit payload → frame payload ++ rest ≡ bytes → ⊥

same_payload : (limit : ℕ) (p q r s : List ℕ) → IsPayload limit p → IsPayload limit q → frame p ++ r ≡ frame q ++ s → (p ≡ q) × (r ≡ s)
same_payload limit p q r s fp fq e =
    let len : length p ≡ length q = sym (told-frame p r fp.counted) ∙ ap told e ∙ told-frame q s fq.counted in
    let cp = cut-frame p r in
    let cq = cut-frame q s in (
      sym cp.0 ∙ ap (λ (t : List ℕ). take (length p) (drop 4 t)) e ∙ ap (λ (k : ℕ). take k (drop 4 (frame q ++ s))) len ∙ cq.0,
      sym cp.1 ∙ ap (λ (t : List ℕ). drop (4 + length p) t) e ∙ ap (λ (k : ℕ). drop (4 + k) (frame q ++ s)) len ∙ cq.1,
    )

pub one_cut : (limit : ℕ) (xs ys : List (List ℕ)) (r s : List ℕ) → AllByRecursion (IsPayload limit) xs → AllByRecursion (IsPayload limit) ys → IsEnd limit r → IsEnd limit s → frames xs ++ r ≡ frames ys ++ s → (xs ≡ ys) × (r ≡ s)
one_cut limit [] [] r s px py er es e = (refl, e)
one_cut limit [] (y ∷ ys) r s px py er es e = absurd (er y (frames ys ++ s) py.0 (sym (append_assoc (frame y) (frames ys) s) ∙ sym e))
one_cut limit (x ∷ xs) [] r s px py er es e = absurd (es x (frames xs ++ r) px.0 (sym (append_assoc (frame x) (frames xs) r) ∙ e))
one_cut limit (x ∷ xs) (y ∷ ys) r s px py er es e =
    let first = same_payload limit x y (frames xs ++ r) (frames ys ++ s) px.0 py.0 (sym (append_assoc (frame x) (frames xs) r) ∙ e ∙ append_assoc (frame y) (frames ys) s) in
    let others = one_cut limit xs ys r s px.1 py.1 er es first.1 in
    (ap (λ (t : List (List ℕ)). x ∷ t) others.0 ∙ ap (λ (p : List ℕ). p ∷ ys) first.0, others.1)
