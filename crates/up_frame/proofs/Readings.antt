-- Each stream has one reading, and what is held stands for it.
use Rattle.std.proofs.Common.{◌≡◌, ℕ, zero, suc, ◌+◌, ◌-◌, ◌<◌, ◌≤◌, List, [], ◌∷◌, ◌++◌, length, take, drop, Option, Some, None, refl, sym, ap, subst, ◌∙◌, append_assoc, arith, inl, inr}
use Rattle.std.specs.Option.{option_to_list}
use Rattle.std.proofs.lemmas.Bool.{cases_lt}
use Rattle.std.proofs.lemmas.List.{append-nil, length-append, length-take-le, length-drop}
use Rattle.up_bytes.specs.Forms.{IsBytes}
use Rattle.up_frame.specs.Stream.{frame, IsPayload, told, IsPartial, IsBad, frames, Splits, Reads}
use Rattle.up_frame.specs.Holding.{Holding, StandsFor}
use Rattle.up_frame.proofs.Cuts.{frame-at, told-below, IsBytes-drop, reads-on, shifted, breaks-on, not_partial, not_bad, IsEnd, one_cut}

-- ---- one reading at most

partial_end : (limit : ℕ) (rest : List ℕ) → IsPartial limit rest → IsEnd limit rest
partial_end limit rest partial = λ p r fine e. not_partial limit p r rest fine e partial

bad_end : (limit : ℕ) (tail : List ℕ) → IsBad limit tail → IsEnd limit tail
bad_end limit tail bad = λ p r fine e. not_bad limit p r tail fine e bad

not_both : (limit : ℕ) (bytes : List ℕ) → IsPartial limit bytes → IsBad limit bytes → ⊥
not_both limit bytes partial bad =
    elim partial [
      | inl few ↦ omega (arith, bad.0)
      | inr begun ↦ elim bad.1 [ inl none ↦ omega (arith, begun.some) | inr over ↦ omega (arith, begun.most) ]
    ]

pub one_reading : (limit : ℕ) (stream : List ℕ) (payloads others : List (List ℕ)) (rest left : List ℕ) (bad worse : Option ℕ)
    → Reads limit stream payloads rest bad → Reads limit stream others left worse → (payloads ≡ others) × (rest ≡ left) × (bad ≡ worse)
one_reading limit stream payloads others rest left None None a b =
    let same = one_cut limit payloads others rest left a.each b.each (partial_end limit rest a.partial) (partial_end limit left b.partial) (sym a.whole ∙ b.whole) in
    (same.0, same.1, refl)
one_reading limit stream payloads others rest left None (Some q) a b =
    let same = one_cut limit payloads others rest b.0.tail a.each b.0.each (partial_end limit rest a.partial) (bad_end limit b.0.tail b.0.bad) (sym a.whole ∙ b.0.whole) in
    absurd (not_both limit b.0.tail (subst (IsPartial limit) same.1 a.partial) b.0.bad)
one_reading limit stream payloads others rest left (Some p) None a b =
    let same = one_cut limit payloads others a.0.tail left a.0.each b.each (bad_end limit a.0.tail a.0.bad) (partial_end limit left b.partial) (sym a.0.whole ∙ b.whole) in
    absurd (not_both limit a.0.tail (subst (IsPartial limit) (sym same.1) b.partial) a.0.bad)
one_reading limit stream payloads others rest left (Some p) (Some q) a b =
    let same = one_cut limit payloads others a.0.tail b.0.tail a.0.each b.0.each (bad_end limit a.0.tail a.0.bad) (bad_end limit b.0.tail b.0.bad) (sym a.0.whole ∙ b.0.whole) in
    (same.0, a.1 ∙ sym b.1, ap (λ (n : ℕ). Some n) (a.0.before ∙ ap (λ (xs : List (List ℕ)). length (frames xs)) same.0 ∙ sym b.0.before))

-- ---- one reading at least

record Reading (limit : ℕ) (stream : List ℕ) : Type 0 where
  pub payloads : List (List ℕ)
  pub rest : List ℕ
  pub bad : Option ℕ
  pub reads : Reads limit stream payloads rest bad

begun : (limit : ℕ) (bytes : List ℕ) → IsPartial limit bytes → Reading limit bytes
begun limit bytes partial = record { payloads = []; rest = bytes; bad = None; reads = record { whole = refl; each = tt; partial = partial } }

broken : (limit : ℕ) (bytes : List ℕ) → IsBad limit bytes → Reading limit bytes
broken limit bytes bad = record { payloads = []; rest = []; bad = Some 0; reads = (record { tail = bytes; whole = refl; each = tt; bad = bad; before = refl }, refl) }

some_bytes : 0 < 4
some_bytes = omega arith

-- a whole frame in front of what has a reading
whole : (limit : ℕ) (payload rest bytes : List ℕ) → IsPayload limit payload → bytes ≡ frame payload ++ rest → Reading limit rest → Reading limit bytes
whole limit payload rest bytes fine e r =
    let one : Splits limit (frame payload) (payload ∷ []) [] = record { whole = sym (append-nil (frame payload ++ []) ∙ append-nil (frame payload)); each = (fine, tt); partial = inl some_bytes } in
    let all = reads-on limit (frame payload) rest (payload ∷ []) r.payloads [] r.rest r.bad one r.reads in
    let bad = shifted (length (frames (payload ∷ []))) r.bad in
    record {
      payloads = payload ∷ r.payloads;
      rest = r.rest;
      bad = bad;
      reads = subst (λ (b : List ℕ). Reads limit b (payload ∷ r.payloads) r.rest bad) (sym e) all;
    }

reading : (limit fuel : ℕ) (bytes : List ℕ) → length bytes ≤ fuel → IsBytes bytes → Reading limit bytes
reading limit zero bytes le fits = begun limit bytes (inl (omega arith))
reading limit (suc fuel) bytes le fits =
    let n = told bytes in
    elim (cases_lt (length bytes) 4) [
      | inl few ↦ begun limit bytes (inl few)
      | inr head ↦ elim (cases_lt 0 n) [
        | inr none ↦ broken limit bytes (head, inl (omega arith))
        | inl some ↦ elim (cases_lt limit n) [
          | inl over ↦ broken limit bytes (head, inr over)
          | inr most ↦ elim (cases_lt (length bytes) (4 + n)) [
            | inl wanting ↦ begun limit bytes (inr (record { some = some; most = most; wanting = wanting }))
            | inr there ↦
                let payload = take n (drop 4 bytes) in
                let len : length payload ≡ n = length-take-le n (drop 4 bytes) (omega (arith, length-drop 4 bytes)) in
                let fine : IsPayload limit payload = record { some = omega arith; most = omega arith; counted = omega (arith, told-below bytes fits) } in
                whole limit payload (drop (4 + n) bytes) bytes fine (frame-at bytes n fits refl there)
                (reading limit fuel (drop (4 + n) bytes) (omega (arith, length-drop (4 + n) bytes)) (IsBytes-drop (4 + n) bytes fits))
          ]
        ]
      ]
    ]

pub some_reading : (limit : ℕ) (stream : List ℕ) → IsBytes stream → (payloads : List (List ℕ)) × (rest : List ℕ) × (bad : Option ℕ) × Reads limit stream payloads rest bad
some_reading limit stream fits = let r = reading limit (length stream) stream (omega arith) fits in (r.payloads, r.rest, r.bad, r.reads)

-- ---- what is held

-- the first payload that waits is given
pub stands-given : (now : Holding) (left : List (List ℕ)) (first : Option (List ℕ)) (stream : List ℕ) (given : List (List ℕ))
    → now.waiting ≡ option_to_list first ++ left → StandsFor now stream given → StandsFor (record now { waiting = left }) stream (given ++ option_to_list first)
stands-given now left first stream given e stands = record {
  fed = stands.fed;
  reads = subst (λ (all : List (List ℕ)). Reads now.limit stream all now.rest now.bad) (ap (λ (w : List (List ℕ)). given ++ w) e ∙ sym (append_assoc given (option_to_list first) left)) stands.reads;
}

-- a piece is fed, of which some frames are whole now
pub stands-fed : (limit fed : ℕ) (waiting payloads : List (List ℕ)) (rest piece now : List ℕ) (bad : Option ℕ) (stream : List ℕ) (given : List (List ℕ))
    → StandsFor (record { limit = limit; fed = fed; waiting = waiting; rest = rest; bad = None }) stream given
    → Reads limit (rest ++ piece) payloads now bad
    → StandsFor (record { limit = limit; fed = fed + length piece; waiting = waiting ++ payloads; rest = now; bad = shifted (fed - length rest) bad }) (stream ++ piece) given
stands-fed limit fed waiting payloads rest piece now bad stream given stands reads =
    let before = given ++ waiting in
    let start : length (frames before) ≡ fed - length rest = omega (arith, stands.fed, ap length stands.reads.whole, length-append (frames before) rest) in
    let on = reads-on limit stream piece before payloads rest now bad stands.reads reads in
    let all : Reads limit (stream ++ piece) (given ++ (waiting ++ payloads)) now (shifted (length (frames before)) bad) =
    subst (λ (xs : List (List ℕ)). Reads limit (stream ++ piece) xs now (shifted (length (frames before)) bad)) (append_assoc given waiting payloads) on in
    record {
      fed = omega (arith, stands.fed, length-append stream piece);
      reads = subst (λ (n : ℕ). Reads limit (stream ++ piece) (given ++ (waiting ++ payloads)) now (shifted n bad)) start all;
    }

-- a piece is fed behind a bad frame
pub stands-bad : (limit fed place : ℕ) (waiting : List (List ℕ)) (rest piece : List ℕ) (stream : List ℕ) (given : List (List ℕ))
    → StandsFor (record { limit = limit; fed = fed; waiting = waiting; rest = rest; bad = Some place }) stream given
    → StandsFor (record { limit = limit; fed = fed + length piece; waiting = waiting; rest = rest; bad = Some place }) (stream ++ piece) given
stands-bad limit fed place waiting rest piece stream given stands = record {
  fed = omega (arith, stands.fed, length-append stream piece);
  reads = (breaks-on limit stream piece (given ++ waiting) place stands.reads.0, stands.reads.1);
}

-- ---- the ways out of feeding, over the fields

pub fed-bad : (limit fed place : ℕ) (waiting : List (List ℕ)) (rest piece : List ℕ) (was : Option ℕ) (stream : List ℕ) (given : List (List ℕ)) → was ≡ Some place
    → StandsFor (record { limit = limit; fed = fed; waiting = waiting; rest = rest; bad = was }) stream given
    → StandsFor (record { limit = limit; fed = fed + length piece; waiting = waiting; rest = rest; bad = was }) (stream ++ piece) given
fed-bad limit fed place waiting rest piece None stream given e stands = absurd cc
fed-bad limit fed place waiting rest piece (Some other) stream given e stands = stands-bad limit fed other waiting rest piece stream given stands

-- what taking the whole frames from the front of the rest and the piece answers
pub record Taken (limit : ℕ) (waiting waits : List (List ℕ)) (rest piece now : List ℕ) (bad : Option ℕ) : Type 0 where
  pub payloads : List (List ℕ)
  pub grown : waits ≡ waiting ++ payloads
  pub reads : Reads limit (rest ++ piece) payloads now bad

fed-taken : (limit fed : ℕ) (waiting waits : List (List ℕ)) (rest piece now : List ℕ) (bad : Option ℕ) (stream : List ℕ) (given : List (List ℕ)) → Taken limit waiting waits rest piece now bad
    → StandsFor (record { limit = limit; fed = fed; waiting = waiting; rest = rest; bad = None }) stream given
    → StandsFor (record { limit = limit; fed = fed + length piece; waiting = waits; rest = now; bad = shifted (fed - length rest) bad }) (stream ++ piece) given
fed-taken limit fed waiting waits rest piece now bad stream given taken stands =
    subst (λ (w : List (List ℕ)). StandsFor (record { limit = limit; fed = fed + length piece; waiting = w; rest = now; bad = shifted (fed - length rest) bad }) (stream ++ piece) given)
    (sym taken.grown) (stands-fed limit fed waiting taken.payloads rest piece now bad stream given stands taken.reads)

pub fed-rest : (limit fed : ℕ) (waiting waits : List (List ℕ)) (rest piece now : List ℕ) (was bad : Option ℕ) (stream : List ℕ) (given : List (List ℕ)) → ((p : ℕ) → was ≡ Some p → ⊥) → bad ≡ None → Taken limit waiting waits rest piece now bad
    → StandsFor (record { limit = limit; fed = fed; waiting = waiting; rest = rest; bad = was }) stream given
    → StandsFor (record { limit = limit; fed = fed + length piece; waiting = waits; rest = now; bad = was }) (stream ++ piece) given
fed-rest limit fed waiting waits rest piece now (Some p) bad stream given none e taken stands = absurd (none p refl)
fed-rest limit fed waiting waits rest piece now None (Some q) stream given none e taken stands = absurd cc
fed-rest limit fed waiting waits rest piece now None None stream given none e taken stands = fed-taken limit fed waiting waits rest piece now None stream given taken stands

pub fed-break : (limit fed at : ℕ) (waiting waits : List (List ℕ)) (rest piece now : List ℕ) (was bad : Option ℕ) (stream : List ℕ) (given : List (List ℕ)) → ((p : ℕ) → was ≡ Some p → ⊥) → bad ≡ Some at → Taken limit waiting waits rest piece now bad
    → StandsFor (record { limit = limit; fed = fed; waiting = waiting; rest = rest; bad = was }) stream given
    → StandsFor (record { limit = limit; fed = fed + length piece; waiting = waits; rest = now; bad = Some (fed - length rest + at) }) (stream ++ piece) given
fed-break limit fed at waiting waits rest piece now (Some p) bad stream given none e taken stands = absurd (none p refl)
fed-break limit fed at waiting waits rest piece now None None stream given none e taken stands = absurd cc
fed-break limit fed at waiting waits rest piece now None (Some q) stream given none e taken stands =
    let same : q ≡ at = cc in
    subst (λ (k : ℕ). StandsFor (record { limit = limit; fed = fed + length piece; waiting = waits; rest = now; bad = Some (fed - length rest + k) }) (stream ++ piece) given)
    same (fed-taken limit fed waiting waits rest piece now (Some q) stream given taken stands)
