-- Rights go by the text that governs, and by whether a path is for an Access or a Group file.
use Rattle.std.proofs.Common.{◌≡◌, Bool, true, false, not, ◌&&◌, List, refl, sym, ap, ◌∙◌, Some, None}
use Rattle.std.specs.Prelude.{ℕ, if◌then◌else◌}
use Rattle.std.specs.Str.{bytes_eq}
use Rattle.up_names.specs.PathNames.{PathName}
use Rattle.up_names.specs.UserNames.{base_of}
use Rattle.up_rights.specs.declared.Right.{Right}
use Rattle.up_rights.specs.declared.Right.TheVariants.{Read, Write, List as ListRight, Create, Delete}
use Rattle.up_rights.specs.RightSets.{Rights}
use Rattle.up_policy.specs.Trees.{TreeFacts, owns_snapshots}
use Rattle.up_policy.specs.Governors.{governor}
use Rattle.up_policy.specs.Loadings.{Loading}
use Rattle.up_policy.specs.Verdicts.{is_control, only_looks, without_text, text_decides, right_test, rights_held}
use Rattle.up_log_tree.specs.Rights.{facts_of, group_paths}
use Rattle.up_list.specs.Looks.{Look, rights}
use Rattle.up_list.specs.Deciding.{AreGovernedAlike, decided_for, with_decided, IsDecided}
use Rattle.up_list.specs.declared.decided.Decided.{Decided}

-- what is decided without a text is the same for paths of one kind
without_same : (owner user : List ℕ) (right : Right) (p q : PathName) → is_control p ≡ is_control q → without_text owner user right p ≡ without_text owner user right q
unfolding without_text
without_same owner user right p q h =
    ap (λ b. if owns_snapshots owner then Some (only_looks right && bytes_eq user (base_of owner))
    else if bytes_eq user owner && only_looks right then Some true
    else if b && not (only_looks right) then Some (bytes_eq user owner)
    else None) h

test_same : (tree : TreeFacts) (listed : List PathName) (loaded : Loading) (user : List ℕ) (right : Right) (p q : PathName) →
    is_control p ≡ is_control q → governor tree p ≡ governor tree q → right_test tree listed loaded user right p ≡ right_test tree listed loaded user right q
unfolding right_test
test_same tree listed loaded user right p q kind text =
    ap (λ o. elim o as (λ _. Bool) [ Some answer ↦ answer | None ↦ text_decides tree listed loaded user right (governor tree p) ]) (without_same tree.owner user right p q kind)
    ∙ ap (λ t. elim (without_text tree.owner user right q) as (λ _. Bool) [ Some answer ↦ answer | None ↦ text_decides tree listed loaded user right t ]) text

-- paths of one kind that one text governs have the same rights
pub rights_same : (look : Look) (p q : PathName) → is_control p ≡ is_control q → AreGovernedAlike look p q → rights look p ≡ rights look q
unfolding rights rights_held
rights_same look p q kind text =
    let has = λ (right : Right). test_same (facts_of look.owner look.tree) (group_paths look.tree) look.loaded look.user right p q kind text in
    λ i. record { read = has Read i; write = has Write i; list = has ListRight i; create = has Create i; delete = has Delete i }

some_same : {X : Type 0} (x y : X) → Some x ≡ Some y → x ≡ y
some_same x y h = cc

-- what was decided holds with one more
pub decided_more : (look : Look) (dir path : PathName) (old : Decided) (held : Rights) → IsDecided look dir old → AreGovernedAlike look dir path → held ≡ rights look path →
    IsDecided look dir (with_decided old (is_control path) held)
decided_more look dir path old held is alike same = record { each = λ q found alike' told. go (is_control path) refl (is_control q) q refl found alike' told }
  where
    go : (b : Bool) → is_control path ≡ b → (c : Bool) → (q : PathName) → is_control q ≡ c → (found : Rights) → AreGovernedAlike look dir q → decided_for (with_decided old b held) c ≡ Some found → rights look q ≡ found
    go true e true q k found alike' told = rights_same look q path (k ∙ sym e) (sym alike' ∙ alike) ∙ (sym same ∙ some_same held found told)
    go false e false q k found alike' told = rights_same look q path (k ∙ sym e) (sym alike' ∙ alike) ∙ (sym same ∙ some_same held found told)
    go true e false q k found alike' told = is.each q found alike' (ap (decided_for old) k ∙ told)
    go false e true q k found alike' told = is.each q found alike' (ap (decided_for old) k ∙ told)
