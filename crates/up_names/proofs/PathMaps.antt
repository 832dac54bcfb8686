-- An ordered map with paths as its keys, seen as a finite map.
use Rattle.std.proofs.Common.{◌≡◌, cond, List, [], ◌∷◌, Some, None, refl, sym, ap, ◌∙◌}
use Rattle.std.specs.BTreeMap.{is_at}
use Rattle.std.specs.FinMap.{find, from_entries, get, insert, remove, get-from_entries, get-insert, get-remove, same_map}
use Rattle.std.specs.Map.{lookup}
use Rattle.std.proofs.lemmas.Cmp.{eq_by_cmp_equiv}
use Rattle.up_names.specs.PathNames.{PathName}
use Rattle.up_names.specs.PathOrder.{path_cmp}
use Rattle.up_names.specs.PathOrderLaws.{path_cmp_total, path_exact}

module _ {X : Type 0} where
  find_path : (es : List (PathName × X)) (path : PathName) → find path_cmp path es ≡ lookup (is_at (path_cmp path)) es
  find_path [] path = refl
  find_path (e ∷ es) path = ap (cond (is_at (path_cmp path) e.0) (Some e.1)) (find_path es path)

  -- what the map of the entries has at a path: what a look-up in them gives
  pub get_path : (es : List (PathName × X)) (path : PathName) → get (from_entries {R = path_cmp} es) path ≡ lookup (is_at (path_cmp path)) es
  get_path es path = get-from_entries path_cmp_total es path ∙ find_path es path

  -- entries that differ at one path make maps that differ there: one that was put
  pub path_put : (es fs : List (PathName × X)) (path : PathName) (x : X)
      → ((q : PathName) → lookup (is_at (path_cmp q)) fs ≡ cond (is_at (path_cmp path) q) (Some x) (lookup (is_at (path_cmp q)) es))
      → from_entries {R = path_cmp} fs ≡ insert (from_entries es) path x
  path_put es fs path x h = same_map path_cmp_total path_exact _ _ (λ q.
      get_path fs q ∙ h q ∙ ap (λ b. cond b (Some x) (lookup (is_at (path_cmp q)) es)) ((eq_by_cmp_equiv path_cmp_total).symm path q)
      ∙ sym (get-insert path_cmp_total (from_entries es) path x q ∙ ap (cond (is_at (path_cmp q) path) (Some x)) (get_path es q)))

  -- and one that was removed
  pub path_removed : (es fs : List (PathName × X)) (path : PathName)
      → ((q : PathName) → lookup (is_at (path_cmp q)) fs ≡ cond (is_at (path_cmp path) q) None (lookup (is_at (path_cmp q)) es))
      → from_entries {R = path_cmp} fs ≡ remove (from_entries es) path
  path_removed es fs path h = same_map path_cmp_total path_exact _ _ (λ q.
      get_path fs q ∙ h q ∙ ap (λ b. cond b None (lookup (is_at (path_cmp q)) es)) ((eq_by_cmp_equiv path_cmp_total).symm path q)
      ∙ sym (get-remove path_cmp_total (from_entries es) path q ∙ ap (cond (is_at (path_cmp q) path) None) (get_path es q)))
