-- A list that has a first item, and with each item those directly below it, and nothing else, has each item below the first once.
use Rattle.std.proofs.Common.{◌≡◌, ℕ, zero, suc, ◌<◌, Bool, true, false, List, [], ◌∷◌, ◌++◌, refl, sym, ap, subst, ◌∙◌, arith, Option, Some, None, append-nil}
use Rattle.std.specs.Prelude.{if◌then◌else◌, filter}
use Rattle.std.specs.List.{flat_map}
use Rattle.std.specs.Option.{option_to_list}
use Rattle.std.proofs.lemmas.List.Elements.{filter-append}

-- the tests of a list that is joined of many
filter_joined : {X Y : Type 0} (p : Y → Bool) (f : X → List Y) (xs : List X) → filter p (flat_map f xs) ≡ flat_map (λ x. filter p (f x)) xs
filter_joined p f [] = refl
filter_joined p f (x ∷ xs) = filter-append p (f x) (flat_map f xs) ∙ ap (λ ys. filter p (f x) ++ ys) (filter_joined p f xs)

joined_same : {X Y : Type 0} (f g : X → List Y) → ((x : X) → f x ≡ g x) → (xs : List X) → flat_map f xs ≡ flat_map g xs
joined_same f g same [] = refl
joined_same f g same (x ∷ xs) = ap (λ ys. ys ++ flat_map f xs) (same x) ∙ ap (λ ys. g x ++ ys) (joined_same f g same xs)

joined_none : {X Y : Type 0} (f : X → List Y) → ((x : X) → f x ≡ []) → (xs : List X) → flat_map f xs ≡ []
joined_none f none [] = refl
joined_none f none (x ∷ xs) = ap (λ ys. ys ++ flat_map f xs) (none x) ∙ joined_none f none xs

-- only those that pass count
joined_passing : {X Y : Type 0} (test : X → Bool) (ys : List Y) (xs : List X) → flat_map (λ x. if test x then ys else []) xs ≡ flat_map (λ x. ys) (filter test xs)
joined_passing test ys [] = refl
joined_passing {X = X} test ys (x ∷ xs) = go (test x) (joined_passing test ys xs)
  where
    go : (b : Bool) → flat_map (λ x. if test x then ys else []) xs ≡ flat_map (λ x. ys) (filter test xs) →
        (if b then ys else []) ++ flat_map (λ x. if test x then ys else []) xs ≡ flat_map (λ (x : X). ys) (if b then x ∷ filter test xs else filter test xs)
    go true rest = ap (λ zs. ys ++ zs) rest
    go false rest = rest

module _ {K X : Type 0} (eq : K → K → Bool) (key : X → K) (at : K → Option X) (parent : K → Option K) (depth : K → ℕ) (kids : K → List X) (under : K → Bool) (top : K) where
  abbrev pub pick : K → List X → List X
  pick q xs = filter (λ x. eq q (key x)) xs

  abbrev pub is_kid : K → K → Bool
  is_kid d q = elim (parent q) [ None ↦ false | Some p ↦ eq p d ]

  abbrev pub below : K → Bool
  below q = elim (parent q) [ None ↦ false | Some p ↦ under p ]

  -- what is below the first item, and what is told at each key
  pub record Rules : Type 0 where
    pub itself : (q : K) → eq q q ≡ true
    pub same : (p q : K) → eq p q ≡ true → p ≡ q
    pub named : (q : K) (x : X) → at q ≡ Some x → key x ≡ q
    pub deeper : (q d : K) → parent q ≡ Some d → depth d < depth q
    pub stands : (q d : K) → parent q ≡ Some d → at d ≡ None → at q ≡ None
    pub kid : (d q : K) → pick q (kids d) ≡ (if is_kid d q then option_to_list (at q) else [])
    pub first : under top ≡ true
    pub beneath : (q : K) → eq q top ≡ false → under q ≡ below q
    pub above : (d : K) → parent top ≡ Some d → under d ≡ false

  module _ (rules : Rules) (found : List X) (closed : found ≡ option_to_list (at top) ++ flat_map (λ x. kids (key x)) found) where
    start_here : (o : Option X) → at top ≡ o → pick top (option_to_list o) ≡ option_to_list o
    start_here None is = refl
    start_here (Some x) is = ap (λ b. if b then x ∷ [] else []) (ap (eq top) (rules.named top x is) ∙ rules.itself top)

    start_elsewhere : (q : K) → eq q top ≡ false → (o : Option X) → at top ≡ o → pick q (option_to_list o) ≡ []
    start_elsewhere q other None is = refl
    start_elsewhere q other (Some x) is = ap (λ b. if b then x ∷ [] else []) (ap (eq q) (rules.named top x is) ∙ other)

    -- in two parts: the first item, and what is below those that are found
    two : (q : K) → pick q found ≡ pick q (option_to_list (at top)) ++ flat_map (λ x. if is_kid (key x) q then option_to_list (at q) else []) found
    two q =
        ap (pick q) closed
        ∙ (filter-append (λ x. eq q (key x)) (option_to_list (at top)) (flat_map (λ x. kids (key x)) found)
        ∙ ap (λ ys. pick q (option_to_list (at top)) ++ ys) (filter_joined (λ x. eq q (key x)) (λ x. kids (key x)) found
        ∙ joined_same (λ x. pick q (kids (key x))) (λ x. if is_kid (key x) q then option_to_list (at q) else []) (λ x. rules.kid (key x) q) found))

    -- below a parent
    beneath_parent : (q p : K) → parent q ≡ Some p → flat_map (λ x. if is_kid (key x) q then option_to_list (at q) else []) found ≡ flat_map (λ x. option_to_list (at q)) (pick p found)
    beneath_parent q p is =
        ap (λ (o : Option K). flat_map (λ x. if elim o as (λ _. Bool) [ None ↦ false | Some r ↦ eq r (key x) ] then option_to_list (at q) else []) found) is
        ∙ joined_passing (λ x. eq p (key x)) (option_to_list (at q)) found

    orphan : (q : K) → parent q ≡ None → flat_map (λ x. if is_kid (key x) q then option_to_list (at q) else []) found ≡ []
    orphan q is =
        ap (λ (o : Option K). flat_map (λ x. if elim o as (λ _. Bool) [ None ↦ false | Some r ↦ eq r (key x) ] then option_to_list (at q) else []) found) is
        ∙ joined_none (λ (x : X). []) (λ x. refl) found

    -- the parent is found where it stands below the first
    by_parent : (q p : K) → parent q ≡ Some p → (b : Bool) → pick p found ≡ (if b then option_to_list (at p) else []) → flat_map (λ x. option_to_list (at q)) (pick p found) ≡ (if b then option_to_list (at q) else [])
    by_parent q p is false there = ap (flat_map (λ x. option_to_list (at q))) there
    by_parent q p is true there = ap (flat_map (λ x. option_to_list (at q))) there ∙ go (at p) refl
      where
        go : (o : Option X) → at p ≡ o → flat_map (λ (x : X). option_to_list (at q)) (option_to_list o) ≡ option_to_list (at q)
        go None none = ap option_to_list (sym (rules.stands q p is none))
        go (Some x) some = append-nil (option_to_list (at q))

    abbrev Right : K → Type 0
    Right q = pick q found ≡ (if under q then option_to_list (at q) else [])

    by_case : (q : K) → ((p : K) → parent q ≡ Some p → Right p) → (o : Option K) → parent q ≡ o → (b : Bool) → eq q top ≡ b → Right q
    by_case q higher None none true is =
        let here : q ≡ top = rules.same q top is in
        two q ∙ (ap (λ ys. pick q (option_to_list (at top)) ++ ys) (orphan q none)
        ∙ (append-nil (pick q (option_to_list (at top)))
        ∙ subst (λ r. pick r (option_to_list (at top)) ≡ (if under r then option_to_list (at r) else [])) (sym here) (start_here (at top) refl ∙ sym (ap (λ b. if b then option_to_list (at top) else []) rules.first))))
    by_case q higher None none false is =
        two q ∙ (ap (λ ys. pick q (option_to_list (at top)) ++ ys) (orphan q none)
        ∙ (append-nil (pick q (option_to_list (at top)))
        ∙ (start_elsewhere q is (at top) refl
        ∙ sym (ap (λ b. if b then option_to_list (at q) else []) (rules.beneath q is ∙ ap (λ (o : Option K). elim o as (λ _. Bool) [ None ↦ false | Some p ↦ under p ]) none)))))
    by_case q higher (Some p) some true is =
        let here : q ≡ top = rules.same q top is in
        let hidden : under p ≡ false = rules.above p (ap parent (sym here) ∙ some) in
        two q ∙ (ap (λ ys. pick q (option_to_list (at top)) ++ ys) (beneath_parent q p some ∙ by_parent q p some false (higher p some ∙ ap (λ b. if b then option_to_list (at p) else []) hidden))
        ∙ (append-nil (pick q (option_to_list (at top)))
        ∙ subst (λ r. pick r (option_to_list (at top)) ≡ (if under r then option_to_list (at r) else [])) (sym here) (start_here (at top) refl ∙ sym (ap (λ b. if b then option_to_list (at top) else []) rules.first))))
    by_case q higher (Some p) some false is =
        two q ∙ (ap (λ ys. ys ++ flat_map (λ x. if is_kid (key x) q then option_to_list (at q) else []) found) (start_elsewhere q is (at top) refl)
        ∙ (beneath_parent q p some
        ∙ (by_parent q p some (under p) (higher p some)
        ∙ sym (ap (λ b. if b then option_to_list (at q) else []) (rules.beneath q is ∙ ap (λ (o : Option K). elim o as (λ _. Bool) [ None ↦ false | Some p ↦ under p ]) some)))))

    found_to : (n : ℕ) (q : K) → depth q < n → Right q
    found_to zero q low = absurd (omega (arith, low))
    found_to (suc n) q low = by_case q (λ p is. found_to n p (let e = rules.deeper q p is in omega (arith, low, e))) (parent q) refl (eq q top) refl

    -- each item below the first is found once
    pub found_once : (q : K) → Right q
    found_once q = found_to (suc (depth q)) q (omega arith)
