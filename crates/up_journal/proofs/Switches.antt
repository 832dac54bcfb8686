-- What a crash leaves while a whole image is written, of which the first byte is the switch.
use Rattle.std.proofs.Common.{◌≡◌, ◌≢◌, ◌<◌, ◌+◌, ◌-◌, ℕ, false, List, [], ◌∷◌, ◌++◌, length, take, drop, Option, Some, None, option_map, IfSome, refl, sym, ◌∙◌, ap, subst, inl, inr, arith}
use Rattle.std.proofs.lemmas.Bool.{cases_Bool, cases_eq, cases_lt}
use Rattle.std.proofs.lemmas.List.{append-nil, drop_all, length-take, take_all, take-take}
use Rattle.std.proofs.lemmas.Slice.Eq.{bytes_eq-Decides}
use Rattle.std.specs.Str.{bytes_eq}
use Rattle.up_disk.specs.Disk.{CutShort, LeavesOnly, Only, Torn, written}
use Rattle.up_disk.specs.declared.disk.Disk.{Ghosts}
use Rattle.up_disk.proofs.Moments.{joined, weaker}
use Rattle.up_journal.specs.Format2.{format2}
use Rattle.up_journal.specs.Gates.{has_name}
use Rattle.up_journal.specs.Moving.{IsSwitched, MayStep}

-- ---- images that do not begin with the name

unnamed_by : (image : List ℕ) → take 8 image ≢ format2.name → has_name format2 image ≡ false
unnamed_by image other = elim (cases_Bool (has_name format2 image)) [
  | inl named ↦ absurd (other ((bytes_eq-Decides (take 8 image) format2.name).0 named))
  | inr unnamed ↦ unnamed
]

pub short_unnamed : (image : List ℕ) → length image < 8 → has_name format2 image ≡ false
short_unnamed image short = unnamed_by image (λ named. omega (arith, ap length named, length-take 8 image))

front_unnamed : (before image : List ℕ) → has_name format2 before ≡ false → take (length image) before ≡ image → has_name format2 image ≡ false
front_unnamed before image unnamed front = elim (cases_lt (length image) 8) [
  | inl short ↦ short_unnamed image short
  | inr long ↦
      let same : take 8 image ≡ take 8 before = ap (λ (l : List ℕ). take 8 l) (sym front) ∙ take-take 8 (length image) before long in
      ap (λ (l : List ℕ). bytes_eq l format2.name) same ∙ unnamed
]

first_unnamed : (first : ℕ) (rest : List ℕ) → first ≢ 85 → has_name format2 (first ∷ rest) ≡ false
first_unnamed first rest other = unnamed_by (first ∷ rest) (λ named. other (let same = named in cc))

-- ---- what each step leaves

told_at : (content : Option (List ℕ)) (P : List ℕ → Type 0) → IfSome content P → (bytes : List ℕ) → content ≡ Some bytes → P bytes
told_at None P holds bytes is = absurd (cc)
told_at (Some found) P holds bytes is = (let same : found ≡ bytes = cc in subst P same holds)

-- the cut
emptied : (content : Option (List ℕ)) (images : List ℕ → Type 0) → Only content images → IfSome content (λ bytes. has_name format2 bytes ≡ false) → (image : List ℕ) → MayStep (CutShort 0) images image → has_name format2 image ≡ false
emptied content images only unnamed image (inl left) = told_at content (λ b. has_name format2 b ≡ false) unnamed image (only image left)
emptied content images only unnamed image (inr step) =
    front_unnamed step.0 image (told_at content (λ b. has_name format2 b ≡ false) unnamed step.0 (only step.0 step.1)) step.2.front

-- what is left of a content that is told to be this
is_this : (first now : Option (List ℕ)) (whole : List ℕ) (images : List ℕ → Type 0) → now ≡ option_map (λ (b : List ℕ). whole) first → Only now images → (image : List ℕ) → images image → image ≡ whole
is_this None now whole images is only image left = absurd (let e = sym is ∙ only image left in cc)
is_this (Some bytes) now whole images is only image left = (let e : Some whole ≡ Some image = sym is ∙ only image left in cc)

-- the first byte 00, on nothing
zeroed : (first now : Option (List ℕ)) (images : List ℕ → Type 0) → now ≡ option_map (λ (b : List ℕ). []) first → Only now images → (image : List ℕ) → MayStep (Torn 0 1) images image → has_name format2 image ≡ false
zeroed first now images is only image (inl left) = short_unnamed image (omega (arith, ap length (is_this first now [] images is only image left)))
zeroed first now images is only image (inr step) =
    short_unnamed image (omega (arith, step.2.no_longer, ap length (is_this first now [] images is only step.0 step.1)))

-- all behind it
front_zero : (image : List ℕ) → take 1 image ≡ 0 ∷ [] → has_name format2 image ≡ false
front_zero [] front = absurd (cc)
front_zero (first ∷ rest) front = (let zero_first : first ≡ 0 = cc in first_unnamed first rest (omega (arith, zero_first)))

behind : (first now : Option (List ℕ)) (n : ℕ) (images : List ℕ → Type 0) → now ≡ option_map (λ (b : List ℕ). 0 ∷ []) first → Only now images → (image : List ℕ) → MayStep (Torn 1 n) images image → has_name format2 image ≡ false
behind first now n images is only image (inl left) = front_zero image (ap (λ (l : List ℕ). take 1 l) (is_this first now (0 ∷ []) images is only image left))
behind first now n images is only image (inr step) =
    let before : step.0 ≡ 0 ∷ [] = is_this first now (0 ∷ []) images is only step.0 step.1 in
    let torn : Torn 1 n (0 ∷ []) image = subst (λ (l : List ℕ). Torn 1 n l image) before step.2 in
    front_zero image torn.before

-- the switch
switched_by : (tail image : List ℕ) → Torn 0 1 (0 ∷ tail) image → IsSwitched (85 ∷ tail) image
switched_by tail [] torn = inl (short_unnamed [] (omega arith))
switched_by tail (first ∷ rest) torn = elim (cases_eq first 85) [
  | inl is ↦ inr (ap (λ (b : ℕ). b ∷ rest) is ∙ ap (λ (l : List ℕ). 85 ∷ l) torn.after)
  | inr other ↦ inl (first_unnamed first rest other)
]

switched : (first now : Option (List ℕ)) (tail : List ℕ) (images : List ℕ → Type 0) → now ≡ option_map (λ (b : List ℕ). 0 ∷ tail) first → Only now images → (image : List ℕ) → MayStep (Torn 0 1) images image → IsSwitched (85 ∷ tail) image
switched first now tail images is only image (inl left) =
    let same : image ≡ 0 ∷ tail = is_this first now (0 ∷ tail) images is only image left in
    inl (front_zero image (ap (λ (l : List ℕ). take 1 l) same))
switched first now tail images is only image (inr step) =
    switched_by tail image (subst (λ (l : List ℕ). Torn 0 1 l image) (is_this first now (0 ∷ tail) images is only step.0 step.1) step.2)

-- ---- contents

pub then_is : (first was now : Option (List ℕ)) (x y : List ℕ) (f : List ℕ → List ℕ) → was ≡ option_map (λ (b : List ℕ). x) first → now ≡ option_map f was → f x ≡ y → now ≡ option_map (λ (b : List ℕ). y) first
then_is None was now x y f is next same = next ∙ ap (option_map f) is
then_is (Some bytes) was now x y f is next same = next ∙ ap (option_map f) is ∙ ap Some same

pub cut_is : (first now : Option (List ℕ)) → now ≡ option_map (take 0) first → now ≡ option_map (λ (b : List ℕ). []) first
cut_is None now is = is
cut_is (Some bytes) now is = is

pub zero_is : written 0 (0 ∷ []) [] ≡ 0 ∷ []
zero_is = refl

pub tail_is : (tail : List ℕ) → written 1 tail (0 ∷ []) ≡ 0 ∷ tail
tail_is tail = ap (λ (l : List ℕ). 0 ∷ (tail ++ l)) (drop_all (1 + length tail) (0 ∷ []) (omega arith)) ∙ ap (λ (l : List ℕ). 0 ∷ l) (append-nil tail)

pub first_is : (tail : List ℕ) → written 0 (85 ∷ []) (0 ∷ tail) ≡ 85 ∷ tail
first_is tail = refl

pub all_is : (first now : Option (List ℕ)) (whole : List ℕ) → now ≡ option_map (λ (b : List ℕ). whole) first → IfSome now (λ bytes. bytes ≡ whole)
all_is None None whole is = tt
all_is None (Some now) whole is = absurd (cc)
all_is (Some bytes) None whole is = tt
all_is (Some bytes) (Some now) whole is = cc

-- an image with the name is its first byte and the rest, as the program takes it
pub first_and_rest : (image : List ℕ) → take 8 image ≡ format2.name → image ≡ 85 ∷ take (length image - 1) (drop 1 image)
first_and_rest [] named = absurd (cc)
first_and_rest (first ∷ rest) named =
    let is : first ≡ 85 = cc in
    ap (λ (b : ℕ). b ∷ rest) is ∙ ap (λ (l : List ℕ). 85 ∷ l) (sym (take_all (length (first ∷ rest) - 1) rest (omega arith)))

pub first_alone : (image : List ℕ) → take 8 image ≡ format2.name → length (take 1 image) ≡ 1
first_alone [] named = absurd (cc)
first_alone (first ∷ rest) named = refl

-- ---- the run

module _ {D : Type 0} (disks : Ghosts D) (old : D) (tail : List ℕ) (only : Only (disks.content old) (disks.may_leave old)) (unnamed : IfSome (disks.content old) (λ bytes. has_name format2 bytes ≡ false)) where
  pub emptying : (mid : D) → LeavesOnly disks.moment disks.left_since old mid (MayStep (CutShort 0) (disks.may_leave old)) → LeavesOnly disks.moment disks.left_since old mid (IsSwitched (85 ∷ tail))
  emptying mid run = weaker disks.moment disks.left_since old mid (MayStep (CutShort 0) (disks.may_leave old)) (IsSwitched (85 ∷ tail)) run (λ image left. inl (emptied (disks.content old) (disks.may_leave old) only unnamed image left))

  pub zeroing : (mid new : D) → LeavesOnly disks.moment disks.left_since old mid (IsSwitched (85 ∷ tail)) → disks.content mid ≡ option_map (λ (b : List ℕ). []) (disks.content old) → Only (disks.content mid) (disks.may_leave mid)
      → LeavesOnly disks.moment disks.left_since mid new (MayStep (Torn 0 1) (disks.may_leave mid)) → LeavesOnly disks.moment disks.left_since old new (IsSwitched (85 ∷ tail))
  zeroing mid new so_far is durable run = joined disks.moment disks.left_since old mid new (IsSwitched (85 ∷ tail)) so_far
      (weaker disks.moment disks.left_since mid new (MayStep (Torn 0 1) (disks.may_leave mid)) (IsSwitched (85 ∷ tail)) run (λ image left. inl (zeroed (disks.content old) (disks.content mid) (disks.may_leave mid) is durable image left)))

  pub filling : (mid new : D) (n : ℕ) → LeavesOnly disks.moment disks.left_since old mid (IsSwitched (85 ∷ tail)) → disks.content mid ≡ option_map (λ (b : List ℕ). 0 ∷ []) (disks.content old) → Only (disks.content mid) (disks.may_leave mid)
      → LeavesOnly disks.moment disks.left_since mid new (MayStep (Torn 1 n) (disks.may_leave mid)) → LeavesOnly disks.moment disks.left_since old new (IsSwitched (85 ∷ tail))
  filling mid new n so_far is durable run = joined disks.moment disks.left_since old mid new (IsSwitched (85 ∷ tail)) so_far
      (weaker disks.moment disks.left_since mid new (MayStep (Torn 1 n) (disks.may_leave mid)) (IsSwitched (85 ∷ tail)) run (λ image left. inl (behind (disks.content old) (disks.content mid) n (disks.may_leave mid) is durable image left)))

  pub switching : (mid new : D) → LeavesOnly disks.moment disks.left_since old mid (IsSwitched (85 ∷ tail)) → disks.content mid ≡ option_map (λ (b : List ℕ). 0 ∷ tail) (disks.content old) → Only (disks.content mid) (disks.may_leave mid)
      → LeavesOnly disks.moment disks.left_since mid new (MayStep (Torn 0 1) (disks.may_leave mid)) → LeavesOnly disks.moment disks.left_since old new (IsSwitched (85 ∷ tail))
  switching mid new so_far is durable run = joined disks.moment disks.left_since old mid new (IsSwitched (85 ∷ tail)) so_far
      (weaker disks.moment disks.left_since mid new (MayStep (Torn 0 1) (disks.may_leave mid)) (IsSwitched (85 ∷ tail)) run (λ image left. switched (disks.content old) (disks.content mid) tail (disks.may_leave mid) is durable image left))
