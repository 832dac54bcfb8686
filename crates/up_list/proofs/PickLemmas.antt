-- What stands of a list at one path: of a list that is joined of many, what stands in the one part that can have it.
use Rattle.std.proofs.Common.{◌≡◌, Bool, true, false, List, [], ◌∷◌, ◌++◌, map, refl, sym, ap, ◌∙◌, Option, Some, None}
use Rattle.std.specs.Prelude.{filter, if◌then◌else◌}
use Rattle.std.specs.List.{AllByRecursion, cons_option, filter_map, flat_map}
use Rattle.std.proofs.lemmas.List.Elements.{filter-append}
use Rattle.up_names.specs.PathNames.{PathName}
use Rattle.up_names.specs.PathOrder.{path_eq}

-- those with this path
abbrev pub pick : {X : Type 0} → (X → PathName) → PathName → List X → List X
pick key q xs = filter (λ x. path_eq q (key x)) xs

-- the tests of a list that is joined of many
pub filter_joined : {X Y : Type 0} (p : Y → Bool) (f : X → List Y) (xs : List X) → filter p (flat_map f xs) ≡ flat_map (λ x. filter p (f x)) xs
filter_joined p f [] = refl
filter_joined p f (x ∷ xs) = filter-append p (f x) (flat_map f xs) ∙ ap (λ ys. filter p (f x) ++ ys) (filter_joined p f xs)

-- only the parts of one path count
pub joined_at : {Y : Type 0} (p : PathName) (g : PathName → List Y) → ((d : PathName) → path_eq p d ≡ false → g d ≡ []) → (ds : List PathName) → flat_map g ds ≡ flat_map g (filter (path_eq p) ds)
joined_at p g none [] = refl
joined_at p g none (d ∷ ds) = go (path_eq p d) refl (joined_at p g none ds)
  where
    go : (b : Bool) → path_eq p d ≡ b → flat_map g ds ≡ flat_map g (filter (path_eq p) ds) → g d ++ flat_map g ds ≡ flat_map g (if path_eq p d then d ∷ filter (path_eq p) ds else filter (path_eq p) ds)
    go true is rest = ap (λ ys. g d ++ ys) rest ∙ sym (ap (λ b. flat_map g (if b then d ∷ filter (path_eq p) ds else filter (path_eq p) ds)) is)
    go false is rest = ap (λ ys. ys ++ flat_map g ds) (none d is) ∙ (rest ∙ sym (ap (λ b. flat_map g (if b then d ∷ filter (path_eq p) ds else filter (path_eq p) ds)) is))

-- a test that is made of another list's items
pub filter_of_map : {X Y : Type 0} (p : Y → Bool) (f : X → Y) (xs : List X) → filter p (map f xs) ≡ map f (filter (λ x. p (f x)) xs)
filter_of_map p f [] = refl
filter_of_map p f (x ∷ xs) = go (p (f x)) refl (filter_of_map p f xs)
  where
    go : (b : Bool) → p (f x) ≡ b → filter p (map f xs) ≡ map f (filter (λ x. p (f x)) xs) → (if p (f x) then f x ∷ filter p (map f xs) else filter p (map f xs)) ≡ map f (if p (f x) then x ∷ filter (λ x. p (f x)) xs else filter (λ x. p (f x)) xs)
    go true is rest = ap (λ b. if b then f x ∷ filter p (map f xs) else filter p (map f xs)) is ∙ (ap (λ ys. f x ∷ ys) rest ∙ sym (ap (λ b. map f (if b then x ∷ filter (λ x. p (f x)) xs else filter (λ x. p (f x)) xs)) is))
    go false is rest = ap (λ b. if b then f x ∷ filter p (map f xs) else filter p (map f xs)) is ∙ (rest ∙ sym (ap (λ b. map f (if b then x ∷ filter (λ x. p (f x)) xs else filter (λ x. p (f x)) xs)) is))

-- the same test of each item
pub filter_alike : {X : Type 0} (p q : X → Bool) (xs : List X) → AllByRecursion (λ x. p x ≡ q x) xs → filter p xs ≡ filter q xs
filter_alike p q [] h = refl
filter_alike p q (x ∷ xs) h = ap (λ b. if b then x ∷ filter p xs else filter p xs) h.0 ∙ ap (λ ys. if q x then x ∷ ys else ys) (filter_alike p q xs h.1)

-- two tests, in either order
pub filter_turned : {X : Type 0} (p q : X → Bool) (xs : List X) → filter p (filter q xs) ≡ filter q (filter p xs)
filter_turned p q [] = refl
filter_turned p q (x ∷ xs) = go (p x) (q x) refl refl (filter_turned p q xs)
  where
    go : (a b : Bool) → p x ≡ a → q x ≡ b → filter p (filter q xs) ≡ filter q (filter p xs) →
        filter p (if q x then x ∷ filter q xs else filter q xs) ≡ filter q (if p x then x ∷ filter p xs else filter p xs)
    go a b e f rest =
        ap (λ c. filter p (if c then x ∷ filter q xs else filter q xs)) f ∙ (both a b e f rest ∙ sym (ap (λ c. filter q (if c then x ∷ filter p xs else filter p xs)) e))
      where
        both : (a b : Bool) → p x ≡ a → q x ≡ b → filter p (filter q xs) ≡ filter q (filter p xs) → filter p (if b then x ∷ filter q xs else filter q xs) ≡ filter q (if a then x ∷ filter p xs else filter p xs)
        both true true e f rest = ap (λ c. if c then x ∷ filter p (filter q xs) else filter p (filter q xs)) e ∙ (ap (λ ys. x ∷ ys) rest ∙ sym (ap (λ c. if c then x ∷ filter q (filter p xs) else filter q (filter p xs)) f))
        both true false e f rest = rest ∙ sym (ap (λ c. if c then x ∷ filter q (filter p xs) else filter q (filter p xs)) f)
        both false true e f rest = ap (λ c. if c then x ∷ filter p (filter q xs) else filter p (filter q xs)) e ∙ rest
        both false false e f rest = rest

-- what is made of those that pass, where the test is told by what is made
pub filter_of_made : {X Y : Type 0} (p : Y → Bool) (r : X → Bool) (make : X → Option Y) → ((x : X) (y : Y) → make x ≡ Some y → p y ≡ r x) → (xs : List X) → filter p (filter_map make xs) ≡ filter_map make (filter r xs)
filter_of_made p r make same [] = refl
filter_of_made {X = X} {Y = Y} p r make same (x ∷ xs) = go (make x) refl (r x) refl (filter_of_made p r make same xs)
  where
    left : (o : Option Y) → make x ≡ o → filter p (cons_option (make x) (filter_map make xs)) ≡ filter p (cons_option o (filter_map make xs))
    left o e = ap (λ o. filter p (cons_option o (filter_map make xs))) e

    right : (b : Bool) → r x ≡ b → filter_map make (if r x then x ∷ filter r xs else filter r xs) ≡ filter_map make (if b then x ∷ filter r xs else filter r xs)
    right b f = ap (λ b. filter_map make (if b then x ∷ filter r xs else filter r xs)) f

    made : (o : Option Y) → make x ≡ o → cons_option (make x) (filter_map make (filter r xs)) ≡ cons_option o (filter_map make (filter r xs))
    made o e = ap (λ o. cons_option o (filter_map make (filter r xs))) e

    tested : (y : Y) (b : Bool) → p y ≡ b → filter p (y ∷ filter_map make xs) ≡ (if b then y ∷ filter p (filter_map make xs) else filter p (filter_map make xs))
    tested y b h = ap (λ c. if c then y ∷ filter p (filter_map make xs) else filter p (filter_map make xs)) h

    go : (o : Option Y) → make x ≡ o → (b : Bool) → r x ≡ b → filter p (filter_map make xs) ≡ filter_map make (filter r xs) →
        filter p (cons_option (make x) (filter_map make xs)) ≡ filter_map make (if r x then x ∷ filter r xs else filter r xs)
    go None e true f rest = left None e ∙ (rest ∙ sym (right true f ∙ made None e))
    go None e false f rest = left None e ∙ (rest ∙ sym (right false f))
    go (Some y) e true f rest = left (Some y) e ∙ (tested y true (same x y e ∙ f) ∙ (ap (λ ys. y ∷ ys) rest ∙ sym (right true f ∙ made (Some y) e)))
    go (Some y) e false f rest = left (Some y) e ∙ (tested y false (same x y e ∙ f) ∙ (rest ∙ sym (right false f)))
