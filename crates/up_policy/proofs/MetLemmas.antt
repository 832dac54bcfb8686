-- The met groups as a set of references, in order.
use Rattle.std.proofs.Common.{◌≡◌, ℕ, suc, ◌+◌, ◌<◌, Bool, true, false, ◌||◌, List, [], ◌∷◌, ◌++◌, length, drop, get_or, map, refl, sym, ap, ◌∙◌, cond, Bor, add-one}
use Rattle.std.proofs.Math.Seq.{drop-cons}
use Rattle.std.specs.List.{list_any}
use Rattle.indexmap.specs.IndexSet.{insert_key}
use Rattle.up_names.specs.PathNames.{PathName}
use Rattle.up_names.specs.PathOrder.{path_eq}
use Rattle.std.proofs.lemmas.List.Elements.{filter_map-append}
use Rattle.std.proofs.lemmas.List.Sums.{fold-append}
use Rattle.up_rights.specs.declared.Right.{Right}
use Rattle.up_access.specs.declared.Rule.{Rule}
use Rattle.up_policy.specs.Members.{group_in, groups_in}
use Rattle.up_policy.specs.Reached.{is_among, with_path, with_paths}
use Rattle.up_policy.specs.Verdicts.{items_by, items_for}

-- the paths that references stand for
abbrev pub paths_of : List (Bor PathName) → List PathName
paths_of groups = map (λ (group : Bor PathName). group.now) groups

among_paths : (groups : List (Bor PathName)) (group : Bor PathName) → list_any (λ (other : Bor PathName). path_eq group.now other.now) groups ≡ is_among (paths_of groups) group.now
among_paths [] group = refl
among_paths (other ∷ groups) group = ap (λ b. path_eq group.now other.now || b) (among_paths groups group)

paths_push : (groups : List (Bor PathName)) (group : Bor PathName) → paths_of (groups ++ group ∷ []) ≡ paths_of groups ++ group.now ∷ []
paths_push [] group = refl
paths_push (other ∷ groups) group = ap (λ paths. other.now ∷ paths) (paths_push groups group)

pub paths_insert : (groups : List (Bor PathName)) (group : Bor PathName) → paths_of (insert_key (λ (a b : Bor PathName). path_eq a.now b.now) groups group) ≡ with_path (paths_of groups) group.now
paths_insert groups group = from (list_any (λ (other : Bor PathName). path_eq group.now other.now) groups) ∙ ap (λ b. cond b (paths_of groups) (paths_of groups ++ group.now ∷ [])) (among_paths groups group)
  where
    from : (b : Bool) → paths_of (cond b groups (groups ++ group ∷ [])) ≡ cond b (paths_of groups) (paths_of groups ++ group.now ∷ [])
    from true = refl
    from false = paths_push groups group

-- one rule more
pub granted_more : (met : List PathName) (right : Right) (rule : Rule) (rules : List Rule) → with_paths met (groups_in (items_for right (rule ∷ rules))) ≡ with_paths (with_paths met (groups_in (items_by right rule))) (groups_in (items_for right rules))
granted_more met right rule rules =
    ap (with_paths met) (filter_map-append group_in (items_by right rule) (items_for right rules))
    ∙ fold-append with_path met (groups_in (items_by right rule)) (groups_in (items_for right rules))

pub granted_step : (met now all : List PathName) (right : Right) (rules : List Rule) (i : ℕ) (rule : Rule) → i < length rules → rule ≡ get_or rules i rule → now ≡ with_paths met (groups_in (items_by right rule)) → with_paths met (groups_in (items_for right (drop i rules))) ≡ all → with_paths now (groups_in (items_for right (drop (i + 1) rules))) ≡ all
granted_step met now all right rules i rule within is added before =
    let next : drop i rules ≡ rule ∷ drop (i + 1) rules = drop-cons rules i rule within ∙ (ap (λ r. r ∷ drop (suc i) rules) (sym is) ∙ ap (λ n. rule ∷ drop n rules) (sym (add-one i))) in
    ap (λ m. with_paths m (groups_in (items_for right (drop (i + 1) rules)))) added
    ∙ (sym (granted_more met right rule (drop (i + 1) rules)) ∙ (ap (λ rs. with_paths met (groups_in (items_for right rs))) (sym next) ∙ before))
