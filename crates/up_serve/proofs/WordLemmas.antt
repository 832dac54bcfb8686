-- A text cut at its first `=`, the words at the end of options, and the key that a word stands for.
use Rattle.std.proofs.Common.{◌≡◌, ◌∙◌, ◌<◌, ℕ, ◌+◌, ◌-◌, Bool, true, false, List, [], ◌∷◌, length, map, take, drop, Option, Some, None, refl, ap, arith}
use Rattle.std.specs.List.{after_first, list_any, position, position_or_len}
use Rattle.std.specs.Prelude.{◌==◌, if◌then◌else◌}
use Rattle.up_command.specs.Words.{◌>>=◌, is_key, key_named}
use Rattle.up_names.specs.Texts.{Text}
use Rattle.up_serve.specs.Plans.{are_pairs, values_of}
use Rattle.up_text.specs.Words.{decoded}
use Rattle.up_names.proofs.CutLemmas.{found_behind, list_any-placed, no_place, place_is, something_behind}

pub found_any : {X : Type 0} (p : X → Bool) (xs : List X) (i : ℕ) → Some i ≡ position p xs → list_any p xs ≡ true
found_any p xs i e = list_any-placed p xs ∙ (place_is (position_or_len p xs) (length xs) i e).1

pub found_rest : {X : Type 0} (p : X → Bool) (xs : List X) (i : ℕ) → Some i ≡ position p xs → take (length xs - (i + 1)) (drop (i + 1) xs) ≡ after_first p xs
found_rest p xs i e = something_behind p xs (take (length xs - (i + 1)) (drop (i + 1) xs)) (found_behind p xs i e)

pub none_any : {X : Type 0} (p : X → Bool) (xs : List X) → None ≡ position p xs → list_any p xs ≡ false
none_any p xs e = list_any-placed p xs ∙ no_place (position_or_len p xs) (length xs) e

pub ruleset cuts = (found_any, found_rest, none_any)

-- ---- fewer than two words

pub few_pairs : {X : Type 0} (f : X → Text) (xs : List X) → length xs < 2 → (length xs == 0) ≡ are_pairs (map f xs)
few_pairs f [] few = refl
few_pairs f (x ∷ []) few = refl
few_pairs f (x ∷ y ∷ xs) few = absurd (omega (arith, few))

pub few_values : {X : Type 0} (f : X → Text) (option : Text) (xs : List X) → length xs < 2 → values_of option (map f xs) ≡ []
few_values f option [] few = refl
few_values f option (x ∷ []) few = refl
few_values f option (x ∷ y ∷ xs) few = absurd (omega (arith, few))

pub ruleset few = (few_pairs, few_values)

-- ---- the key that a word stands for

good_key : (found key : Text) (good : Bool) → is_key found ≡ good → Some key ≡ (if good then Some found else None) → is_key key ≡ true
good_key found key true is same = ap is_key (let e : key ≡ found = cc in e) ∙ is
good_key found key false is same = absurd (cc)

found_key : (found : Option Text) (key : Text) → Some key ≡ (found >>= λ k. if is_key k then Some k else None) → is_key key ≡ true
found_key None key same = absurd (cc)
found_key (Some k) key same = good_key k key (is_key k) refl same

pub key_is : (word key : Text) → Some key ≡ key_named word → is_key key ≡ true
unfolding key_named
key_is word key same = found_key (decoded word) key same
