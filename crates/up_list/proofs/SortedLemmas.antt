-- Lists of items in order of paths: each path stands once.
use Rattle.std.proofs.Common.{◌≡◌, Bool, true, false, cond, List, [], ◌∷◌, map, refl, sym, ap, subst, ◌∙◌, Some, None}
use Rattle.std.specs.Prelude.{T, ◌&&◌, filter, if◌then◌else◌}
use Rattle.std.specs.declared.cmp.Ordering.{Ordering}
use Rattle.std.specs.declared.cmp.Ordering.TheVariants.{Less, Equal, Greater}
use Rattle.std.specs.Ordering.{eq_by_cmp, is_lt, is_eq}
use Rattle.std.specs.FinMap.Entries.{find, is_sorted, below_all}
use Rattle.std.specs.List.{AllByRecursion}
use Rattle.std.specs.Option.{option_to_list}
use Rattle.up_names.specs.PathNames.{PathName}
use Rattle.up_names.specs.PathOrder.{path_eq, path_cmp}
use Rattle.up_names.specs.PathOrderLaws.{path_eq-Decides, path_cmp_eq}

T_parts : (a b : Bool) → T (a && b) → T a × T b
T_parts true b h = (tt, h)
T_parts false b h = absurd h

less_not_tied : (o : Ordering) → T (is_lt o) → is_eq o ≡ false
less_not_tied Less h = refl
less_not_tied Equal h = absurd h
less_not_tied Greater h = absurd h

tied : (p q : PathName) → eq_by_cmp path_cmp p q ≡ path_eq p q
tied p q = sym (path_cmp_eq p q)

pub eq_itself : (p : PathName) → path_eq p p ≡ true
eq_itself p = (path_eq-Decides p p).1 refl

pub eq_same : (p q : PathName) → path_eq p q ≡ true → p ≡ q
eq_same p q h = (path_eq-Decides p q).0 h

false_true : false ≡ true → ⊥
false_true h = absurd (cc)

-- equality of paths goes both ways
pub eq_turned : (p q : PathName) → path_eq p q ≡ path_eq q p
eq_turned p q = go (path_eq p q) (path_eq q p) refl refl
  where
    go : (a b : Bool) → path_eq p q ≡ a → path_eq q p ≡ b → path_eq p q ≡ path_eq q p
    go true b e f = e ∙ sym ((path_eq-Decides q p).1 (sym ((path_eq-Decides p q).0 e)))
    go false true e f = sym (f ∙ sym ((path_eq-Decides p q).1 (sym ((path_eq-Decides q p).0 f))))
    go false false e f = e ∙ sym f

module _ {X : Type 0} where
  -- a path below all others is not among them
  apart : (p : PathName) (es : List (PathName × X)) → T (below_all path_cmp p es) → AllByRecursion (λ e. path_eq e.0 p ≡ false) es
  apart p [] h = tt
  apart p (e ∷ es) h =
      let both = T_parts (is_lt (path_cmp p e.0)) (below_all path_cmp p es) h in
      (eq_turned e.0 p ∙ (sym (tied p e.0) ∙ less_not_tied (path_cmp p e.0) both.0), apart p es both.1)

  found_behind : (e : PathName × X) (es fs : List (PathName × X)) → AllByRecursion (λ f. path_eq f.0 e.0 ≡ false) fs → AllByRecursion (λ f. find path_cmp f.0 es ≡ Some f.1) fs →
      AllByRecursion (λ f. find path_cmp f.0 (e ∷ es) ≡ Some f.1) fs
  found_behind e es [] h k = tt
  found_behind e es (f ∷ fs) h k = (ap (λ b. cond b (Some e.1) (find path_cmp f.0 es)) (tied f.0 e.0 ∙ h.0) ∙ k.0, found_behind e es fs h.1 k.1)

  -- each item is found at its path
  pub found_all : (es : List (PathName × X)) → T (is_sorted path_cmp es) → AllByRecursion (λ e. find path_cmp e.0 es ≡ Some e.1) es
  found_all [] h = tt
  found_all (e ∷ es) h =
      let both = T_parts (below_all path_cmp e.0 es) (is_sorted path_cmp es) h in
      (ap (λ b. cond b (Some e.1) (find path_cmp e.0 es)) (tied e.0 e.0 ∙ eq_itself e.0), found_behind e es es (apart e.0 es both.0) (found_all es both.1))

  none_of : (q : PathName) (es : List (PathName × X)) → AllByRecursion (λ e. path_eq e.0 q ≡ false) es → filter (λ e. path_eq q e.0) es ≡ []
  none_of q [] h = refl
  none_of q (e ∷ es) h = ap (λ b. if b then e ∷ filter (λ e. path_eq q e.0) es else filter (λ e. path_eq q e.0) es) (eq_turned q e.0 ∙ h.0) ∙ none_of q es h.1

  none_found : (q : PathName) (es : List (PathName × X)) → AllByRecursion (λ e. path_eq e.0 q ≡ false) es → find path_cmp q es ≡ None
  none_found q [] h = refl
  none_found q (e ∷ es) h = ap (λ b. cond b (Some e.1) (find path_cmp q es)) (tied q e.0 ∙ (eq_turned q e.0 ∙ h.0)) ∙ none_found q es h.1

  -- what stands at a path is what is found there, once
  pub sorted_one : (q : PathName) (es : List (PathName × X)) → T (is_sorted path_cmp es) → map (λ e. e.1) (filter (λ e. path_eq q e.0) es) ≡ option_to_list (find path_cmp q es)
  sorted_one q [] h = refl
  sorted_one q (e ∷ es) h = go (path_eq q e.0) refl (sorted_one q es (T_parts (below_all path_cmp e.0 es) (is_sorted path_cmp es) h).1)
    where
      others : T (below_all path_cmp e.0 es)
      others = (T_parts (below_all path_cmp e.0 es) (is_sorted path_cmp es) h).0

      go : (b : Bool) → path_eq q e.0 ≡ b → map (λ e. e.1) (filter (λ e. path_eq q e.0) es) ≡ option_to_list (find path_cmp q es) →
          map (λ e. e.1) (if path_eq q e.0 then e ∷ filter (λ e. path_eq q e.0) es else filter (λ e. path_eq q e.0) es) ≡ option_to_list (cond (eq_by_cmp path_cmp q e.0) (Some e.1) (find path_cmp q es))
      go true is rest =
          let none : AllByRecursion (λ f. path_eq f.0 q ≡ false) es = subst (λ p. AllByRecursion (λ f. path_eq f.0 p ≡ false) es) (sym (eq_same q e.0 is)) (apart e.0 es others) in
          ap (λ b. map (λ e. e.1) (if b then e ∷ filter (λ e. path_eq q e.0) es else filter (λ e. path_eq q e.0) es)) is
          ∙ (ap (λ fs. e.1 ∷ map (λ e. e.1) fs) (none_of q es none)
          ∙ sym (ap (λ b. option_to_list (cond b (Some e.1) (find path_cmp q es))) (tied q e.0 ∙ is)))
      go false is rest =
          ap (λ b. map (λ e. e.1) (if b then e ∷ filter (λ e. path_eq q e.0) es else filter (λ e. path_eq q e.0) es)) is
          ∙ (rest ∙ sym (ap (λ b. option_to_list (cond b (Some e.1) (find path_cmp q es))) (tied q e.0 ∙ is)))
