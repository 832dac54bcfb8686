-- Edits of siblings by what a search among them found.
use Rattle.std.proofs.Common.{◌≡◌, ℕ, Bool, true, false, not, cond, ◌||◌, List, [], ◌∷◌, refl, sym, ap, subst, ◌∙◌, Option, Some, None, is_some}
use Rattle.std.specs.Prelude.{slice_get}
use Rattle.std.proofs.lemmas.Bool.{false≢true}
use Rattle.std.proofs.lemmas.Option.{slice_get_within}
use Rattle.up_names.specs.PathNames.{PathName, extended, parent_of}
use Rattle.up_names.specs.PathOrder.{path_eq}
use Rattle.up_mem_tree.specs.declared.edits.Edit.TheVariants.{Same, Added, Removed}
use Rattle.up_log_tree.specs.Orders.{has_path as has, with_path}
use Rattle.up_log_tree.specs.Trees.{last_element}
use Rattle.up_mem_tree.specs.Slots.{AreSiblings, IsFoundAs, Known}
use Rattle.up_mem_tree.specs.Steps.{IsEditTo, without_path}
use Rattle.up_log_tree.proofs.Paths.{extended_last}
use Rattle.up_log_tree.proofs.Rising.{has_at, with_inserted, with_there, without_removed}
use Rattle.up_mem_tree.proofs.Walks.{not_among}

or_false : (a b : Bool) → (a || b) ≡ false → (a ≡ false) × (b ≡ false)
or_false true b h = absurd (false≢true (sym h))
or_false false b h = (refl, h)

without_none : (path : PathName) (paths : List PathName) → has paths path ≡ false → without_path path paths ≡ paths
without_none path [] none = refl
without_none path (first ∷ paths) none =
    let parts = or_false (path_eq path first) (has paths path) none in
    ap (λ b. cond (not b) (first ∷ without_path path paths) (without_path path paths)) parts.0 ∙ ap (λ l. first ∷ l) (without_none path paths parts.1)

missing_of : (path : PathName) (ids : List ℕ) (paths : List PathName) (place : ℕ) (found : Option ℕ) → is_some found ≡ false → IsFoundAs path ids paths place found → slice_get paths place ≡ Some path → ⊥
missing_of path ids paths place None none is = is.here
missing_of path ids paths place (Some id) some is = absurd (false≢true (sym some))

here_of : (path : PathName) (ids : List ℕ) (paths : List PathName) (place : ℕ) (found : Option ℕ) → is_some found ≡ true → IsFoundAs path ids paths place found → slice_get paths place ≡ Some path
here_of path ids paths place None none is = absurd (false≢true none)
here_of path ids paths place (Some id) some is = is.here.1

module _ (slots : List Known) (dir : PathName) (ids : List ℕ) (paths : List PathName) (siblings : AreSiblings slots dir ids paths) (path : PathName) (parent : parent_of path ≡ Some dir)
    (element : List ℕ) (last : element ≡ last_element path) (place : ℕ) (found : Option ℕ) (is : IsFoundAs (extended dir element) ids paths place found) where
  of_path : IsFoundAs path ids paths place found
  of_path = subst (λ p. IsFoundAs p ids paths place found) (ap (extended dir) last ∙ sym (extended_last path dir parent)) is

  pub added : is_some found ≡ false → (id : ℕ) → IsEditTo (Added place id) id path paths (with_path path paths)
  added none id = (refl, of_path.place.bound, with_inserted path paths place siblings.rising of_path.place (missing_of path ids paths place found none of_path))

  pub present : is_some found ≡ true → (id : ℕ) → IsEditTo Same id path paths (with_path path paths)
  present some id = with_there path paths siblings.rising (has_at paths place path (here_of path ids paths place found some of_path))

  pub gone : is_some found ≡ true → (id : ℕ) → IsEditTo (Removed place) id path paths (without_path path paths)
  gone some id =
      let at = here_of path ids paths place found some of_path in
      (slice_get_within paths place path at, without_removed path paths place siblings.rising at)

  pub never : is_some found ≡ false → (id : ℕ) → IsEditTo Same id path paths (without_path path paths)
  never none id = without_none path paths (not_among paths path place siblings.rising of_path.place (missing_of path ids paths place found none of_path))
