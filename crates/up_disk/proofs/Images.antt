-- Each image by choice is one of the crash images of a disk in memory.
use Rattle.std.proofs.Common.{◌≡◌, ◌≤◌, ◌<◌, ℕ, ◌+◌, ◌-◌, ◌/◌, min, List, [], ◌∷◌, length, take, drop, refl, sym, ◌∙◌, ap, ◌⊎◌, inl, inr, arith, length-drop, length-take, length-take-le, replicate, suc}
use Rattle.std.proofs.lemmas.List.{drop-take, take-take, drop_all, take_all, length-replicate}
use Rattle.std.proofs.lemmas.Bool.{cases_lt, cases_eq}
use Rattle.std.proofs.lemmas.Bool.Decides.{nat_tests}
use Rattle.up_disk.specs.Disk.{Torn}
use Rattle.up_disk.specs.Pending.{done, content_after, MayMake, MayLeave, put_at, synced_calls}
use Rattle.up_disk.specs.PendingLaws.{torn_self, torn_put, torn_padded, cut_self, cut_done}
use Rattle.up_disk.specs.Image.{landed, landed_all, landed_write, image_after}
use Rattle.up_disk.specs.declared.call.Call.{Call}
use Rattle.up_disk.specs.declared.call.Call.TheVariants.{Write, Cut, Sync}
use Rattle.up_disk.specs.declared.call.Landing.{Landing}
use Rattle.up_disk.specs.declared.call.Landing.TheVariants.{Nothing, Everything, FrontHalf, BackHalf, Filled, OldSize, SizeAlone}

-- what a write leaves of an image, as far as the old size goes
pub torn_old_size : (at n : ℕ) (new bytes : List ℕ) → length new ≤ n → Torn at n bytes (take (length bytes) (put_at at new bytes))
torn_old_size at n new bytes le =
    let image = put_at at new bytes in
    let torn = torn_put at n at new bytes (omega arith) (omega arith) in
    let size = length-take-le (length bytes) image torn.no_shorter in
    record {
      before = take-take (min at (length bytes)) (length bytes) image (omega arith) ∙ torn.before;
      after = elim (cases_lt (length bytes) (at + n)) [
        | inl long ↦ drop_all (at + n) (take (length bytes) image) (omega (arith, size)) ∙ sym (drop_all (at + n) bytes (omega arith))
        | inr short ↦
            let left = length bytes - (at + n) in
            let split : length bytes ≡ at + n + left = omega arith in
            ap (λ (k : ℕ). drop (at + n) (take k image)) split ∙ drop-take (at + n) left image ∙ ap (λ (l : List ℕ). take left l) torn.after
            ∙ take_all left (drop (at + n) bytes) (omega (arith, length-drop (at + n) bytes))
      ];
      no_shorter = omega (arith, size);
      no_longer = omega (arith, size);
    }

made_write : (l : Landing) (at : ℕ) (bytes image : List ℕ) → Torn at (length bytes) image (landed_write l at bytes image)
made_write Nothing at bytes image = torn_self at (length bytes) image
made_write Everything at bytes image = torn_put at (length bytes) at bytes image (omega arith) (omega arith)
made_write FrontHalf at bytes image = torn_put at (length bytes) at (take (length bytes / 2) bytes) image (omega arith) (omega (arith, length-take (length bytes / 2) bytes))
made_write BackHalf at bytes image = torn_put at (length bytes) (at + length bytes / 2) (drop (length bytes / 2) bytes) image (omega arith) (omega (arith, length-drop (length bytes / 2) bytes))
made_write (Filled byte) at bytes image = torn_put at (length bytes) at (replicate (length bytes) byte) image (omega arith) (omega (arith, length-replicate {A = ℕ} (length bytes) byte))
made_write OldSize at bytes image = torn_old_size at (length bytes) bytes image (omega arith)
made_write SizeAlone at bytes image = torn_padded at (length bytes) image

made_landed : (l : Landing) (call : Call) (bytes image : List ℕ) → (call ≡ Sync → ⊥) → MayMake call bytes image (landed l call image)
made_landed l (Write w) bytes image other = made_write l w.at w.bytes image
made_landed l Sync bytes image other = absurd (other refl)
made_landed Nothing (Cut size) bytes image other = cut_self size image
made_landed OldSize (Cut size) bytes image other = cut_self size image
made_landed SizeAlone (Cut size) bytes image other = cut_self size image
made_landed Everything (Cut size) bytes image other = cut_done size image
made_landed FrontHalf (Cut size) bytes image other = cut_done size image
made_landed BackHalf (Cut size) bytes image other = cut_done size image
made_landed (Filled byte) (Cut size) bytes image other = cut_done size image

-- each image by choice is possible
pub possible : (l : Landing) (calls : List Call) (image bytes : List ℕ) → MayLeave image bytes calls (image_after l image bytes calls)
possible l [] image bytes = refl
possible l (Sync ∷ calls) image bytes = (bytes, refl, possible l calls bytes bytes)
possible l (Write w ∷ calls) image bytes =
    (landed l (Write w) image, made_landed l (Write w) bytes image (λ e. cc), possible l calls (landed l (Write w) image) (done (Write w) bytes))
possible l (Cut size ∷ calls) image bytes =
    (landed l (Cut size) image, made_landed l (Cut size) bytes image (λ e. cc), possible l calls (landed l (Cut size) image) (done (Cut size) bytes))

-- with no sync the bytes that a read gives do not matter
no_sync : (l : Landing) (calls : List Call) (image bytes : List ℕ) → synced_calls calls ≡ 0 → image_after l image bytes calls ≡ landed_all l image calls
no_sync l [] image bytes none = refl
no_sync l (Sync ∷ calls) image bytes none = absurd (omega arith)
no_sync l (Write w ∷ calls) image bytes none = no_sync l calls (landed l (Write w) image) (done (Write w) bytes) (grind (arith, nat_tests))
no_sync l (Cut size ∷ calls) image bytes none = no_sync l calls (landed l (Cut size) image) (done (Cut size) bytes) (grind (arith, nat_tests))

-- one call more in front
front : (l : Landing) (call : Call) (calls : List Call) (bytes : List ℕ) (n s : ℕ) → n ≡ s + 1
    → landed_all l (content_after bytes (take n (call ∷ calls))) (drop n (call ∷ calls)) ≡ landed_all l (content_after (done call bytes) (take s calls)) (drop s calls)
front l call calls bytes n s is =
    let next : n ≡ suc s = omega arith in
    ap (λ (k : ℕ). landed_all l (content_after bytes (take k (call ∷ calls))) (drop k (call ∷ calls))) next

some_sync : (l : Landing) (calls : List Call) (image bytes : List ℕ) → 0 < synced_calls calls
    → image_after l image bytes calls ≡ landed_all l (content_after bytes (take (synced_calls calls) calls)) (drop (synced_calls calls) calls)
some_sync l [] image bytes some = absurd (omega arith)
some_sync l (Sync ∷ calls) image bytes some = since (some_sync l calls bytes bytes) (cases_eq (synced_calls calls) 0)
  where
    since : (0 < synced_calls calls → image_after l bytes bytes calls ≡ landed_all l (content_after bytes (take (synced_calls calls) calls)) (drop (synced_calls calls) calls))
        → (synced_calls calls ≡ 0) ⊎ (synced_calls calls ≡ 0 → ⊥) → image_after l bytes bytes calls ≡ landed_all l (content_after bytes (take (synced_calls calls + 1) (Sync ∷ calls))) (drop (synced_calls calls + 1) (Sync ∷ calls))
    since rest (inl none) = no_sync l calls bytes bytes none ∙ ap (λ (k : ℕ). landed_all l (content_after bytes (take k calls)) (drop k calls)) (sym none) ∙ sym (front l Sync calls bytes (synced_calls calls + 1) (synced_calls calls) refl)
    since rest (inr further) = rest (omega arith) ∙ sym (front l Sync calls bytes (synced_calls calls + 1) (synced_calls calls) refl)
some_sync l (Write w ∷ calls) image bytes some =
    let next : synced_calls (Write w ∷ calls) ≡ synced_calls calls + 1 = grind (arith, nat_tests) in
    let later : 0 < synced_calls calls = grind (arith, nat_tests) in
    some_sync l calls (landed l (Write w) image) (done (Write w) bytes) later ∙ sym (front l (Write w) calls bytes (synced_calls (Write w ∷ calls)) (synced_calls calls) next)
some_sync l (Cut size ∷ calls) image bytes some =
    let next : synced_calls (Cut size ∷ calls) ≡ synced_calls calls + 1 = grind (arith, nat_tests) in
    let later : 0 < synced_calls calls = grind (arith, nat_tests) in
    some_sync l calls (landed l (Cut size) image) (done (Cut size) bytes) later ∙ sym (front l (Cut size) calls bytes (synced_calls (Cut size ∷ calls)) (synced_calls calls) next)

-- from the last sync on, the image begins with the bytes that a read gave there
pub since_sync : (l : Landing) (calls : List Call) (bytes : List ℕ)
    → image_after l bytes bytes calls ≡ landed_all l (content_after bytes (take (synced_calls calls) calls)) (drop (synced_calls calls) calls)
since_sync l calls bytes = by_case (cases_eq (synced_calls calls) 0)
  where
    by_case : (synced_calls calls ≡ 0) ⊎ (synced_calls calls ≡ 0 → ⊥) → image_after l bytes bytes calls ≡ landed_all l (content_after bytes (take (synced_calls calls) calls)) (drop (synced_calls calls) calls)
    by_case (inl none) = no_sync l calls bytes bytes none ∙ ap (λ (k : ℕ). landed_all l (content_after bytes (take k calls)) (drop k calls)) (sym none)
    by_case (inr some) = some_sync l calls bytes bytes (omega arith)
