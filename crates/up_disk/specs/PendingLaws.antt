-- What a read gives is one of the crash images of a disk in memory, and so is each image by choice.
use Rattle.std.specs.Prelude.{List, [], ◌∷◌, ◌++◌, ℕ, ◌≡◌, ◌≤◌, ◌+◌, ◌-◌, min, max, length, take, drop, replicate, refl}
use Rattle.std.proofs.Common.{sym, ◌∙◌, ap, arith, length-append, length-drop, length-take, length-take-le, inl, inr}
use Rattle.std.proofs.lemmas.List.{drop_at, take_min, take-take, take-append-le, drop-drop, drop_all}
use Rattle.std.proofs.lemmas.List.{take_all, append-nil, length-replicate}
use Rattle.std.proofs.lemmas.Bool.{cases_lt}
use Rattle.up_disk.specs.Disk.{CutShort, Torn}
use Rattle.up_disk.specs.Pending.{done, content_after, MayMake, MayLeave, padded, put_at}
use Rattle.up_disk.specs.declared.call.Call.{Call}
use Rattle.up_disk.specs.declared.call.Call.TheVariants.{Write, Cut, Sync}

-- a write may have left all as it was
pub torn_self : (at n : ℕ) (bytes : List ℕ) → Torn at n bytes bytes
torn_self at n bytes = record { before = take_min at bytes; after = refl; no_shorter = omega arith; no_longer = omega arith }

-- a cut may have left all as it was
pub cut_self : (size : ℕ) (bytes : List ℕ) → CutShort size bytes bytes
cut_self size bytes = record { no_shorter = omega arith; front = take_all (length bytes) bytes (omega arith) }

-- a cut may have been done
pub cut_done : (size : ℕ) (bytes : List ℕ) → CutShort size bytes (take size bytes)
cut_done size bytes = record {
  no_shorter = omega (arith, length-take size bytes);
  front = ap (λ n. take n bytes) (length-take size bytes) ∙ take_min size bytes;
}

-- bytes with zeros after them up to a size have that size, or are as long as they were
pub length-padded : (size : ℕ) (bytes : List ℕ) → length (padded size bytes) ≡ max (length bytes) size
length-padded size bytes =
    omega (arith, length-append bytes (replicate (size - length bytes) 0), length-replicate {A = ℕ} (size - length bytes) 0)

-- bytes with zeros after them begin as they began
take-padded : (n size : ℕ) (bytes : List ℕ) → n ≤ length bytes → take n (padded size bytes) ≡ take n bytes
take-padded n size bytes le = take-append-le n bytes (replicate (size - length bytes) 0) le

-- bytes with zeros after them up to a size are after that size as they were
drop-padded : (n size : ℕ) (bytes : List ℕ) → size ≤ n → drop n (padded size bytes) ≡ drop n bytes
drop-padded n size bytes le = elim (cases_lt n (length bytes)) [
  | inl short ↦
      let none : size - length bytes ≡ 0 = omega arith in
      ap (λ (k : ℕ). drop n (bytes ++ replicate k 0)) none ∙ ap (λ (l : List ℕ). drop n l) (append-nil bytes)
  | inr long ↦ drop_all n (padded size bytes) (omega (arith, length-padded size bytes)) ∙ sym (drop_all n bytes long)
]

-- bytes within the range of a write
pub torn_put : (at n place : ℕ) (new bytes : List ℕ) → at ≤ place → place + length new ≤ at + n → Torn at n bytes (put_at place new bytes)
torn_put at n place new bytes low high =
    let old = padded place bytes in
    let size : length old ≡ max (length bytes) place = length-padded place bytes in
    let end = place + length new in
    let front = take place old ++ new in
    let rest = drop end old in
    let fronts : length (take place old) ≡ place = length-take-le place old (omega arith) in
    let front_size : length front ≡ end = omega (arith, length-append (take place old) new) in
    let rest_size : length rest ≡ length old - end = length-drop end old in
    let whole : length (front ++ rest) ≡ end + (length old - end) = omega (arith, length-append front rest) in
    let k = min at (length bytes) in
    let gap = at + n - end in
    record {
      before =
          take-append-le k front rest (omega arith) ∙ take-append-le k (take place old) new
          (omega arith) ∙ take-take k place old (omega arith) ∙ take-padded k place bytes (omega arith) ∙ take_min at bytes;
      after = let split : at + n ≡ end + gap = omega arith in
          ap (λ (i : ℕ). drop i (front ++ rest)) split ∙ sym (drop-drop gap end (front ++ rest)) ∙ ap
          (λ (l : List ℕ). drop gap l) (drop_at front rest end front_size)
          ∙ drop-drop gap end old ∙ ap (λ (i : ℕ). drop i old) (sym split) ∙ drop-padded (at + n) place bytes (omega arith);
      no_shorter = omega arith;
      no_longer = omega arith;
    }

-- a write may have left zeros where the bytes had ended, and nothing else
pub torn_padded : (at n : ℕ) (bytes : List ℕ) → Torn at n bytes (padded (at + n) bytes)
torn_padded at n bytes = record {
  before = take-padded (min at (length bytes)) (at + n) bytes (omega arith) ∙ take_min at bytes;
  after = drop-padded (at + n) (at + n) bytes (omega arith);
  no_shorter = omega (arith, length-padded (at + n) bytes);
  no_longer = omega (arith, length-padded (at + n) bytes);
}

-- what a call did is one of the things that it may have made
pub made : (call : Call) (bytes : List ℕ) → MayMake call bytes bytes (done call bytes)
made (Write w) bytes =
    torn_put w.at (length w.bytes) w.at (take w.landed w.bytes) bytes (omega arith) (omega (arith, length-take w.landed w.bytes))
made (Cut size) bytes = cut_done size bytes
made Sync bytes = refl

-- what a read gives is one of the images
pub reads : (bytes : List ℕ) (calls : List Call) → MayLeave bytes bytes calls (content_after bytes calls)
reads bytes [] = refl
reads bytes (call ∷ calls) = (done call bytes, made call bytes, reads (done call bytes) calls)
