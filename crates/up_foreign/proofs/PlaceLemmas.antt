-- Needed groups that are noted place by place.
use Rattle.std.proofs.Common.{◌≡◌, ℕ, zero, suc, ◌+◌, Bool, List, [], ◌∷◌, ◌++◌, filter, take, map, refl, sym, ap, ◌∙◌, arith, Some, None, Result, Ok, Err}
use Rattle.std.specs.Prelude.{slice_get, OnOk}
use Rattle.std.specs.List.{flat_map}
use Rattle.std.proofs.lemmas.Grind.{fold-append}
use Rattle.std.proofs.lemmas.List.{append-nil, append_assoc}
use Rattle.up_names.specs.PathNames.{PathName}
use Rattle.std.specs.Map.{keys_of}
use Rattle.up_pattern.specs.Patterns.{PatternName}
use Rattle.up_policy.specs.Reached.{with_path, with_paths}
use Rattle.up_log_tree.specs.Trees.{Tree}
use Rattle.up_log_tree.proofs.Rising.{has_at}
use Rattle.up_list.specs.Globs.{is_candidate, literal_path}
use Rattle.up_list.proofs.FrontLemmas.{front_owner}
use Rattle.up_answers.specs.Needs.{Place, items_where}
use Rattle.up_foreign.specs.Foreign.{in_tree}
use Rattle.up_foreign.specs.Items.{AreOwned}
use Rattle.up_log_tree.proofs.Fronts.{take_next}
use Rattle.up_log_tree.proofs.Paths.{some_none}

pub joined : (old xs ys : List PathName) → with_paths (with_paths old xs) ys ≡ with_paths old (xs ++ ys)
joined old xs ys = sym (fold-append with_path old xs ys)

module _ {P : Type 0} (f : P → List PathName) where
  flat-append : (xs ys : List P) → flat_map f (xs ++ ys) ≡ flat_map f xs ++ flat_map f ys
  flat-append [] ys = refl
  flat-append (x ∷ xs) ys = ap (λ zs. f x ++ zs) (flat-append xs ys) ∙ sym (append_assoc (f x) (flat_map f xs) (flat_map f ys))

  -- what is noted at one place
  pub noted_one : (old now : List PathName) (place : P) → now ≡ with_paths old (f place) → now ≡ with_paths old (flat_map f (place ∷ []))
  noted_one old now place is = is ∙ ap (with_paths old) (sym (append-nil (f place)))

  -- and behind it
  pub noted_more : (old mid now : List PathName) (place : P) (rest : List P) → mid ≡ with_paths old (f place) → now ≡ with_paths mid (flat_map f rest) → now ≡ with_paths old (flat_map f (place ∷ rest))
  noted_more old mid now place rest one more = more ∙ (ap (λ names. with_paths names (flat_map f rest)) one ∙ joined old (f place) (flat_map f rest))

  -- at the end of others
  pub noted_last : (old mid now : List PathName) (front rest : List P) → mid ≡ with_paths old (flat_map f front) → now ≡ with_paths mid (flat_map f rest) → now ≡ with_paths old (flat_map f (front ++ rest))
  noted_last old mid now front rest one more =
      more ∙ (ap (λ names. with_paths names (flat_map f rest)) one ∙ (joined old (flat_map f front) (flat_map f rest) ∙ ap (with_paths old) (sym (flat-append front rest))))

map-append : {X Y : Type 0} (f : X → Y) (xs ys : List X) → map f (xs ++ ys) ≡ map f xs ++ map f ys
map-append f [] ys = refl
map-append f (x ∷ xs) ys = ap (λ zs. f x ∷ zs) (map-append f xs ys)

all : {X : Type 0} (n : ℕ) (ys : List X) → None ≡ slice_get ys n → take n ys ≡ ys
all zero [] h = refl
all (suc n) [] h = refl
all zero (y ∷ ys) h = absurd (some_none y (sym h))
all (suc n) (y ∷ ys) h = ap (λ zs. y ∷ zs) (all n ys h)

take_more : {X : Type 0} (n : ℕ) (xs : List X) (x : X) → Some x ≡ slice_get xs n → take (n + 1) xs ≡ take n xs ++ x ∷ []
take_more n xs x is = ap (λ m. take m xs) (let e : n + 1 ≡ suc n = omega arith in e) ∙ take_next n xs x (sym is)

module _ {X P : Type 0} (f : P → List PathName) (place : X → P) (xs : List X) where
  -- one more of a list of places
  pub each_next : (old mid now : List PathName) (n : ℕ) (x : X) → Some x ≡ slice_get xs n → mid ≡ with_paths old (flat_map f (map place (take n xs))) → now ≡ with_paths mid (f (place x)) →
      now ≡ with_paths old (flat_map f (map place (take (n + 1) xs)))
  each_next old mid now n x is so_far one =
      noted_last f old mid now (map place (take n xs)) (place x ∷ []) so_far (noted_one f mid now (place x) one)
      ∙ ap (λ ps. with_paths old (flat_map f ps)) (sym (ap (map place) (take_more n xs x is) ∙ map-append place (take n xs) (x ∷ [])))

  -- none is left
  pub each_end : (old now : List PathName) (n : ℕ) → None ≡ slice_get xs n → now ≡ with_paths old (flat_map f (map place (take n xs))) → now ≡ with_paths old (flat_map f (map place xs))
  each_end old now n past so_far = so_far ∙ ap (λ ys. with_paths old (flat_map f (map place ys))) (all n xs past)

-- a path among those of an owner
pub key_owned : (owner : List ℕ) (keys : List PathName) (n : ℕ) (path : PathName) → AreOwned owner keys → Some path ≡ slice_get keys n → path.owner ≡ owner
key_owned owner keys n path owned is = owned path (has_at keys n path (sym is))

-- the items of a tree
pub items_noted : (tree : Tree) (f : Place → List PathName) (test : PathName → Bool) (old now keys : List PathName) → keys ≡ filter test (keys_of tree) → now ≡ with_paths old (flat_map f (map (in_tree tree) keys)) →
    now ≡ with_paths old (flat_map f (items_where test tree))
items_noted tree f test old now keys is h = h ∙ ap (λ ks. with_paths old (flat_map f (map (in_tree tree) ks))) is

pub glob_noted : (tree : Tree) (f : Place → List PathName) (pattern : PatternName) (front : PathName) (old now keys : List PathName) → front ≡ literal_path pattern → keys ≡ filter (is_candidate pattern) (keys_of tree) →
    now ≡ with_paths old (flat_map f (in_tree tree front ∷ map (in_tree tree) keys)) →
    now ≡ with_paths old (flat_map f ((tree, literal_path pattern) ∷ items_where (is_candidate pattern) tree))
glob_noted tree f pattern front old now keys front_is keys_are h =
    h ∙ (ap (λ (p : PathName). with_paths old (flat_map f (in_tree tree p ∷ map (in_tree tree) keys))) front_is
    ∙ ap (λ ks. with_paths old (flat_map f (in_tree tree (literal_path pattern) ∷ map (in_tree tree) ks))) keys_are)

pub front_owned : (owner : List ℕ) (pattern : PatternName) (front : PathName) → front ≡ literal_path pattern → pattern.owner ≡ owner → front.owner ≡ owner
front_owned owner pattern front is owned = ap (λ (p : PathName). p.owner) is ∙ (front_owner pattern ∙ owned)

-- behind what was noted at one place
pub noted_more_ok : {E : Type 0} (f : Place → List PathName) (result : Result (Unit {0}) E) (old mid now : List PathName) (place : Place) (rest : List Place) → mid ≡ with_paths old (f place) →
    OnOk result (now ≡ with_paths mid (flat_map f rest)) → OnOk result (now ≡ with_paths old (flat_map f (place ∷ rest)))
noted_more_ok f (Ok done) old mid now place rest one more = noted_more f old mid now place rest one more
noted_more_ok f (Err fault) old mid now place rest one more = tt
