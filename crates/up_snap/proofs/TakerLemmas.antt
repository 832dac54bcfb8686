-- The path of the file that takes a snapshot.
use Rattle.std.proofs.Common.{◌≡◌, ℕ, Bool, true, false, ◌&&◌, List, [], ◌∷◌, length, refl, sym, ap, ◌∙◌, arith, bytes_eq, Option, Some, None}
use Rattle.std.specs.Prelude.{slice_get}
use Rattle.std.proofs.lemmas.Slice.Eq.{bytes_eq-Decides}
use lib.Pointwise.{pointwise}
use Rattle.up_names.specs.PathNames.{PathName}
use Rattle.up_names.specs.PathOrder.{path_eq}

and_true : (b : Bool) → b ≡ (b && true)
and_true true = refl
and_true false = refl

some_same : (a b : List ℕ) → Some a ≡ Some b → a ≡ b
some_same a b e = cc

some_none : (a : List ℕ) → ◌≡◌ {A = Option (List ℕ)} (Some a) None → ⊥
some_none a e = absurd (cc)

-- one element of a path, and a word
one_element : (name word : List ℕ) (es : List (List ℕ)) → length es ≡ 1 → Some name ≡ slice_get es 0 → bytes_eq name word ≡ pointwise bytes_eq es (word ∷ [])
one_element name word [] n is = absurd (omega arith)
one_element name word (e ∷ []) n is = ap (λ x. bytes_eq x word) (some_same name e is) ∙ and_true (bytes_eq e word)
one_element name word (e ∷ f ∷ es) n is = absurd (omega arith)

pub has_name : (path : PathName) (name word : List ℕ) → length path.elements ≡ 1 → Some name ≡ slice_get path.elements 0 → bytes_eq name word ≡ path_eq path (record { owner = path.owner; elements = word ∷ [] })
has_name path name word n is =
    one_element name word path.elements n is
    ∙ ap (λ b. b && pointwise bytes_eq path.elements (word ∷ [])) (sym ((bytes_eq-Decides path.owner path.owner).1 refl))

-- where there is one element, the first is there
pub has_element : (path : PathName) (b : Bool) → length path.elements ≡ 1 → None ≡ slice_get path.elements 0 → false ≡ b
has_element path b n is = go path.elements n is
  where
    go : (es : List (List ℕ)) → length es ≡ 1 → None ≡ slice_get es 0 → false ≡ b
    go [] n is = absurd (omega arith)
    go (e ∷ es) n is = absurd (some_none e (sym is))
