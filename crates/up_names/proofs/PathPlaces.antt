-- Where the elements stand in a canonical text, and that it may be cut there.
use Rattle.std.proofs.Common.{◌≡◌, ℕ, zero, suc, ◌+◌, ◌-◌, ◌<◌, ◌≤◌, List, [], ◌∷◌, ◌++◌, length, take, drop, get_or, refl, sym, ap, subst, inl, inr, ◌∙◌, arith, add-one}
use Rattle.std.specs.List.{slice_range}
use Rattle.std.specs.Str.{IsUtf8, IsCharBoundary}
use Rattle.std.proofs.lemmas.Bool.{cases_lt}
use Rattle.std.proofs.lemmas.List.{length-append, append_assoc, append-nil, take_at, drop_at, get_or_at, take_all}
use Rattle.std.proofs.lemmas.Str.{IsCharBoundary-end, IsCharBoundary-after_ascii, IsCharBoundary-before_ascii}
use Rattle.up_names.specs.PathNames.{PathName, canonical, cut}
use Rattle.up_names.specs.PathParts.{begin_of}
use Rattle.up_names.proofs.Joined.{joined_text, length-joined}

-- The element stands behind a slash of the text, from `begin` up to `end`.
pub record Stands (text element : List ℕ) (begin end : ℕ) : Type 0 where
  pub front : List ℕ
  pub rest : List ℕ
  pub parts : text ≡ front ++ 47 ∷ (element ++ rest)
  pub begins : length front + 1 ≡ begin
  pub ends : begin + length element ≡ end

-- where the n-th of the elements behind `lead` and a slash begins
begin_behind : List ℕ → ℕ → List (List ℕ) → ℕ
begin_behind lead zero es = length lead + 1
begin_behind lead (suc n) es = length lead + 1 + length (joined_text (take (suc n) es)) + 1

begin_behind-later : (lead e f : List ℕ) (n : ℕ) (es : List (List ℕ)) → begin_behind (lead ++ 47 ∷ e) n (f ∷ es) ≡ begin_behind lead (suc n) (e ∷ f ∷ es)
unfolding begin_behind
begin_behind-later lead e f zero es = omega (arith, length-append lead (47 ∷ e))
begin_behind-later lead e f (suc n) es = omega (arith, length-append lead (47 ∷ e), length-joined e f (take n es))

stands_behind : (lead : List ℕ) (n : ℕ) (es : List (List ℕ)) → n < length es
    → Stands (lead ++ 47 ∷ joined_text es) (get_or es n []) (begin_behind lead n es) (length lead + 1 + length (joined_text (take (suc n) es)))
unfolding begin_behind
stands_behind lead n [] h = absurd (omega arith)
stands_behind lead zero (e ∷ []) h = record { front = lead; rest = []; parts = ap (λ t. lead ++ 47 ∷ t) (sym (append-nil e)); begins = refl; ends = refl }
stands_behind lead zero (e ∷ f ∷ es) h = record { front = lead; rest = 47 ∷ joined_text (f ∷ es); parts = refl; begins = refl; ends = refl }
stands_behind lead (suc n) (e ∷ []) h = absurd (omega arith)
stands_behind lead (suc n) (e ∷ f ∷ es) h =
    let behind = stands_behind (lead ++ 47 ∷ e) n (f ∷ es) (omega arith) in
    let later = begin_behind-later lead e f n es in
    record {
      front = behind.front;
      rest = behind.rest;
      parts = sym (append_assoc lead (47 ∷ e) (47 ∷ joined_text (f ∷ es))) ∙ behind.parts;
      begins = behind.begins ∙ later;
      ends = ap (λ begin. begin + length (get_or (f ∷ es) n [])) (sym later) ∙ behind.ends ∙ omega (arith, length-append lead (47 ∷ e), length-joined e f (take n es));
    }

begin_behind-owner : (n : ℕ) (path : PathName) → begin_behind path.owner n path.elements ≡ begin_of n path
unfolding begin_behind
begin_behind-owner zero path = sym (length-append path.owner (47 ∷ []))
begin_behind-owner (suc n) path = omega (arith, length-append path.owner (47 ∷ joined_text (take (suc n) path.elements)))

-- the n-th element of a canonical path
pub standing : (path : PathName) (n : ℕ) → n < length path.elements → Stands (canonical path) (get_or path.elements n []) (begin_of n path) (length (canonical (cut (suc n) path)))
standing path n h =
    let behind = stands_behind path.owner n path.elements h in
    record {
      front = behind.front;
      rest = behind.rest;
      parts = behind.parts;
      begins = behind.begins ∙ begin_behind-owner n path;
      ends = ap (λ begin. begin + length (get_or path.elements n [])) (sym (begin_behind-owner n path)) ∙ behind.ends
          ∙ omega (arith, length-append path.owner (47 ∷ joined_text (take (suc n) path.elements)));
    }

module _ {text element : List ℕ} {begin end : ℕ} (s : Stands text element begin end) where
  -- what is read there is the element
  pub read_there : slice_range text begin end ≡ element
  read_there =
      ap (λ t. take (end - begin) (drop begin t)) (s.parts ∙ sym (append_assoc s.front (47 ∷ []) (element ++ s.rest)))
      ∙ ap (take (end - begin)) (drop_at (s.front ++ 47 ∷ []) (element ++ s.rest) begin (length-append s.front (47 ∷ []) ∙ omega (arith, s.begins)))
      ∙ take_at element s.rest (end - begin) (omega (arith, s.ends))

  pub begin_le_end : begin ≤ end
  begin_le_end = omega (arith, s.ends)

  length-parts : length text ≡ length s.front + suc (length element + length s.rest)
  length-parts = ap length s.parts ∙ length-append s.front (47 ∷ (element ++ s.rest)) ∙ omega (arith, length-append element s.rest)

  pub end_le_length : end ≤ length text
  end_le_length = omega (arith, length-parts, s.begins, s.ends)

  slash_before : get_or text (length s.front) 0 ≡ 47
  slash_before = ap (λ t. get_or t (length s.front) 0) s.parts ∙ get_or_at s.front 47 (element ++ s.rest) 0 (length s.front) refl

  -- the text may be cut behind the slash, and before it
  pub begin_boundary : IsUtf8 text → IsCharBoundary text begin
  begin_boundary utf8 =
      subst (IsCharBoundary text) s.begins (IsCharBoundary-after_ascii text (length s.front) utf8 (omega (arith, length-parts)) (omega (arith, slash_before)))

  pub slash_boundary : IsCharBoundary text (begin - 1)
  slash_boundary =
      subst (IsCharBoundary text) (let place : length s.front ≡ begin - 1 = omega (arith, s.begins) in place)
      (IsCharBoundary-before_ascii text (length s.front) (omega (arith, length-parts)) (omega (arith, slash_before)))

-- the text may be cut behind its first n elements
pub cut_boundary : (path : PathName) (n : ℕ) → n ≤ length path.elements → IsUtf8 (canonical path) → IsCharBoundary (canonical path) (length (canonical (cut n path)))
cut_boundary path n h utf8 =
    elim (cases_lt n (length path.elements)) [
      | inl below ↦ within n below
      | inr all ↦
          subst (λ es. IsCharBoundary (canonical path) (length (canonical (record { owner = path.owner; elements = es })))) (sym (take_all n path.elements all))
          (IsCharBoundary-end (canonical path))
    ]
  where
    within : (n : ℕ) → n < length path.elements → IsCharBoundary (canonical path) (length (canonical (cut n path)))
    within zero below = begin_boundary (standing path zero below) utf8
    within (suc n) below =
        subst (IsCharBoundary (canonical path)) (let place : begin_of (suc n) path - 1 ≡ length (canonical (cut (suc n) path)) = omega arith in place)
        (slash_boundary (standing path (suc n) below))

-- the same, of a text and places that are given by equations
pub stands_at : (path : PathName) (n : ℕ) → n < length path.elements → (text : List ℕ) → text ≡ canonical path → (begin end : ℕ) → begin ≡ begin_of n path → end ≡ length (canonical (cut (n + 1) path))
    → Stands text (get_or path.elements n []) begin end
stands_at path n h text written begin end begins ends =
    let e = get_or path.elements n [] in
    let ending : length (canonical (cut (suc n) path)) ≡ end = sym (ends ∙ ap (λ n. length (canonical (cut n path))) (add-one n)) in
    subst (λ t. Stands t e begin end) (sym written) (subst (λ b. Stands (canonical path) e b end) (sym begins) (subst (Stands (canonical path) e (begin_of n path)) ending (standing path n h)))

pub cut_boundary-at : (path : PathName) (n : ℕ) → n ≤ length path.elements → (text : List ℕ) → text ≡ canonical path → IsUtf8 text → (place : ℕ) → place ≡ length (canonical (cut n path)) → IsCharBoundary text place
cut_boundary-at path n h text written utf8 place at =
    subst (λ t. IsCharBoundary t place) (sym written) (subst (IsCharBoundary (canonical path)) (sym at) (cut_boundary path n h (subst IsUtf8 written utf8)))
