-- What an item in a directory inherits from it: without an Access file of its own, it is governed as the directory is.
use Rattle.std.proofs.Common.{◌≡◌, ◌≢◌, ℕ, zero, suc, ◌-◌, ◌<◌, ◌≤◌, Bool, true, false, List, [], ◌∷◌, length, take, refl, sym, ap, subst, ◌∙◌, arith, Option, Some, None}
use Rattle.std.specs.Prelude.{if◌then◌else◌, is_some, nat_lt, MatchOption, codes}
use Rattle.std.specs.Option.{option_map, option_or}
use Rattle.std.proofs.lemmas.Bool.{ltb-true, lt-ltb}
use Rattle.up_names.specs.PathNames.{PathName, cut, parent_of}
use Rattle.up_access.specs.declared.Rule.{Rule}
use Rattle.up_entry.specs.declared.entries.Entry.{Entry}
use Rattle.up_entry.specs.declared.entries.Kind.TheVariants.{Directory}
use Rattle.up_policy.specs.Governors.{first_text, governor, prefixes, prefixes_to}
use Rattle.up_policy.specs.Trees.{owns_snapshots}
use Rattle.up_log_tree.specs.declared.node.Node.{Node}
use Rattle.up_log_tree.specs.Rights.{access_node, access_path, facts_of, rules_of}
use Rattle.up_log_tree.specs.Fits.{HasDirectory}
use Rattle.up_list.specs.Entries.{entry_of, entry_at}
use Rattle.up_list.specs.Looks.{Look, rights}
use Rattle.up_rights.specs.RightSets.{Rights}
use Rattle.up_policy.specs.Verdicts.{is_control}
use Rattle.std.proofs.lemmas.List.{take-append-le, length_push}
use Rattle.up_list.specs.Deciding.{AreGovernedAlike, decided_for, IsDecided}
use Rattle.up_list.specs.declared.decided.Decided.{Decided}
use Rattle.up_list.specs.Places.{IsBelow}
use Rattle.std.specs.declared.alloc.AllocError.{AllocError}
use Rattle.std.specs.Prelude.{Result, Ok, Err, IsErr, IfOk}
use Rattle.std.proofs.lemmas.Bool.{false≢true}
use Rattle.up_list.specs.Rooted.{IsRooted}
use Rattle.up_list.proofs.LinkLemmas.{cut_cut}

some_none : {X : Type 0} (x : X) → Some x ≡ None → ⊥
some_none x h = absurd (cc)

some_same : {X : Type 0} (x y : X) → Some x ≡ Some y → x ≡ y
some_same x y h = cc

-- ---- a path and its parent

parent_if : (b : Bool) (q dir : PathName) → (if b then Some q else None) ≡ Some dir → (b ≡ true) × (q ≡ dir)
parent_if true q dir h = (refl, some_same q dir h)
parent_if false q dir h = absurd (some_none dir (sym h))

-- the parent has one element fewer, and they are the first of the path's
pub parent_is : (path dir : PathName) → parent_of path ≡ Some dir → (0 < length path.elements) × (cut (length path.elements - 1) path ≡ dir)
parent_is path dir h =
    let both = parent_if (nat_lt 0 (length path.elements)) (cut (length path.elements - 1) path) dir h in (ltb-true 0 (length path.elements) both.0, both.1)

length_take : {X : Type 0} (n : ℕ) (xs : List X) → n ≤ length xs → length (take n xs) ≡ n
length_take zero xs h = refl
length_take (suc n) [] h = absurd (let z : ⊥ = omega arith in z)
length_take (suc n) (x ∷ xs) h = ap suc (length_take n xs (omega arith))

prefixes_shorter : (m n : ℕ) (path : PathName) → m ≤ n → prefixes_to m (cut n path) ≡ prefixes_to m path
prefixes_shorter zero n path h = ap (λ p. p ∷ []) (cut_cut 0 n path h)
prefixes_shorter (suc m) n path h = ap (λ ps. cut (suc m) (cut n path) ∷ ps) (prefixes_shorter m n path (omega arith)) ∙ ap (λ p. p ∷ prefixes_to m path) (cut_cut (suc m) n path h)

take_all : {X : Type 0} (n : ℕ) (xs : List X) → length xs ≡ n → take n xs ≡ xs
take_all zero [] h = refl
take_all zero (x ∷ xs) h = absurd (let z : ⊥ = omega arith in z)
take_all (suc n) [] h = absurd (let z : ⊥ = omega arith in z)
take_all (suc n) (x ∷ xs) h = ap (λ ys. x ∷ ys) (take_all n xs (omega arith))

-- the prefixes of a path are itself and those of its parent
pub prefixes_above : (path dir : PathName) → parent_of path ≡ Some dir → prefixes path ≡ path ∷ prefixes dir
prefixes_above path dir h = go (length path.elements) refl
  where
    is : (0 < length path.elements) × (cut (length path.elements - 1) path ≡ dir)
    is = parent_is path dir h

    go : (n : ℕ) → length path.elements ≡ n → prefixes_to (length path.elements) path ≡ path ∷ prefixes dir
    go zero e = absurd (let p : 0 < length path.elements = is.0 in let z : ⊥ = omega (arith, p) in z)
    go (suc n) e =
        let front : cut n path ≡ dir = ap (λ k. cut k path) (let s : n ≡ length path.elements - 1 = omega arith in s) ∙ is.1 in
        let size : length dir.elements ≡ n = ap (λ (p : PathName). length p.elements) (sym front) ∙ length_take n path.elements (omega arith) in
        ap (λ k. prefixes_to k path) e
        ∙ (ap (λ p. p ∷ prefixes_to n path) (ap (λ elements. record { owner = path.owner; elements = elements }) (take_all (suc n) path.elements e))
        ∙ ap (λ ps. path ∷ ps) (sym (prefixes_shorter n n path (omega arith)) ∙ (ap (prefixes_to n) front ∙ ap (λ k. prefixes_to k dir) (sym size))))

-- ---- what governs

-- an item without an Access file of its own is governed as its directory is
pub governed_alike : (look : Look) (path dir : PathName) → parent_of path ≡ Some dir → access_node look.tree path ≡ None → AreGovernedAlike look dir path
unfolding governor facts_of
governed_alike look path dir parent none = sym (ap (λ t. if owns_snapshots look.owner then None else t) text)
  where
    access : PathName → Option (List Rule)
    access dir = option_map (rules_of look.owner) (access_node look.tree dir)

    text : first_text (λ dir. option_map (rules_of look.owner) (access_node look.tree dir)) (prefixes path) ≡ first_text (λ dir. option_map (rules_of look.owner) (access_node look.tree dir)) (prefixes dir)
    text = ap (first_text (λ dir. option_map (rules_of look.owner) (access_node look.tree dir))) (prefixes_above path dir parent)
        ∙ ap (λ o. option_or (option_map (rules_of look.owner) o) (first_text (λ dir. option_map (rules_of look.owner) (access_node look.tree dir)) (prefixes dir))) none

-- what was decided for a directory holds below an item that is governed alike
pub decided_below : (look : Look) (dir path : PathName) (decided : Decided) → AreGovernedAlike look dir path → IsDecided look dir decided → IsDecided look path decided
decided_below look dir path decided alike is = record { each = λ q held same told. is.each q held (alike ∙ same) told }

-- nothing decided holds of every directory
pub nothing_decided : (look : Look) (dir : PathName) (decided : Decided) → decided.ordinary ≡ None → decided.control ≡ None → IsDecided look dir decided
nothing_decided look dir decided a b = record { each = λ q held same told. go (is_control q) q held told }
  where
    go : (c : Bool) (q : PathName) (held : Rights) → decided_for decided c ≡ Some held → rights look q ≡ held
    go true q held told = absurd (some_none held (sym told ∙ b))
    go false q held told = absurd (some_none held (sym told ∙ a))

-- in what is no directory there is no Access file
pub no_access_in : (look : Look) (entry : Entry) → IsRooted look.owner look.tree → entry_at look.tree entry.name ≡ Some entry → entry.attr.kind ≢ Directory → access_node look.tree entry.name ≡ None
no_access_in look entry rooted stands other = go (access_node look.tree entry.name) refl
  where
    size : length (access_path entry.name).elements ≡ suc (length entry.name.elements)
    size = length_push entry.name.elements (codes "Access") ∙ (omega arith)

    parent : parent_of (access_path entry.name) ≡ Some entry.name
    parent =
        ap (λ b. if b then Some (cut (length (access_path entry.name).elements - 1) (access_path entry.name)) else None) (lt-ltb 0 (length (access_path entry.name).elements) (let s = size in omega arith))
        ∙ ap Some (ap (λ k. cut k (access_path entry.name)) (let s = size in let e : length (access_path entry.name).elements - 1 ≡ length entry.name.elements = omega arith in e)
        ∙ ap (λ elements. record { owner = entry.name.owner; elements = elements }) (take-append-le (length entry.name.elements) entry.name.elements (codes "Access" ∷ []) (omega arith) ∙ take_all (length entry.name.elements) entry.name.elements refl))

    kind : HasDirectory look.tree entry.name → entry.attr.kind ≡ Directory
    kind dir = ap (λ (e : Entry). e.attr.kind) (some_same entry dir.0.entry (sym stands ∙ ap (option_map entry_of) dir.1)) ∙ dir.2

    place : (o : Option PathName) → parent_of (access_path entry.name) ≡ o → MatchOption o ((access_path entry.name).owner ≡ look.owner) (HasDirectory look.tree) → ⊥
    place None e p = some_none entry.name (sym parent ∙ e)
    place (Some q) e p = other (kind (subst (HasDirectory look.tree) (some_same q entry.name (sym e ∙ parent)) p))

    go : (o : Option Node) → access_node look.tree entry.name ≡ o → access_node look.tree entry.name ≡ None
    go None e = e
    go (Some node) e = absurd (place (parent_of (access_path entry.name)) refl (rooted.placed (access_path entry.name) node e))

-- ---- what is known once the rights on an item were decided

if_err : {T E : Type 0} (r : Result T E) (P : T → Type 0) → IsErr r → IfOk r P
if_err (Ok x) P h = absurd (false≢true h)
if_err (Err e) P h = tt

-- nothing could be decided
pub below_failed : (look : Look) (dir : PathName) (entry : Entry) (now : Decided) (result : Result (Rights × Decided) AllocError) → IsErr result → IsDecided look dir now → IsBelow look dir entry now result
below_failed look dir entry now result failed is = record { held = if_err result _ failed; below = if_err result _ failed; kept = is }

pub no_some : {X : Type 0} (o : Option X) → is_some o ≡ false → o ≡ None
no_some None h = refl
no_some (Some x) h = absurd (false≢true (sym h))
