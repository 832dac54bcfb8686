-- What passes the marks.
use Rattle.std.proofs.Common.{◌≡◌, ℕ, ◌+◌, ◌<◌, ◌≤◌, false, ◌&&◌, List, [], ◌∷◌, ◌++◌, length, take, sym, ap, ◌∙◌, inl, inr, arith, Some, slice_get, get_or, subst}
use Rattle.std.specs.Prelude.{IfSome, nat_eq, nat_le}
use Rattle.std.specs.List.{list_any}
use Rattle.std.specs.RandomState.{initial_hasher}
use Rattle.std.specs.declared.hash.DefaultHasher.{DefaultHasher}
use Rattle.std.specs.declared.hash.RandomState.{RandomState}
use Rattle.std.proofs.lemmas.Bool.{cases_lt}
use Rattle.std.proofs.lemmas.Grind.{take_at_read}
use Rattle.std.proofs.lemmas.List.Sums.{fold-append}
use Rattle.std.proofs.lemmas.Option.{slice_get_within, slice_get-get_or, get_or_from_slice_get}
use Rattle.up_names.specs.Texts.{Text}
use Rattle.up_names.specs.PathNames.{PathName, cut}
use Rattle.up_policy.specs.declared.marks.Marks.{Marks}
use Rattle.up_policy.specs.Marks.{after_element, hasher_after, hash_of, may_have}

-- one element more is hashed
pub hasher_after-more : (keys : RandomState) (elements : List Text) (n : ℕ) (element : Text) → slice_get elements n ≡ Some element → hasher_after keys (take (n + 1) elements) ≡ after_element (hasher_after keys (take n elements)) element
hasher_after-more keys elements n element at =
    let within : n < length elements = slice_get_within elements n element at in
    ap (hasher_after keys) ((take_at_read elements n element within).1 ∙ ap (λ e. take n elements ++ e ∷ []) (get_or_from_slice_get elements n element element at))
    ∙ fold-append after_element (initial_hasher keys) (take n elements) (element ∷ [])

pub hashed_more : (keys : RandomState) (elements : List Text) (n : ℕ) (old now : DefaultHasher) → n < length elements → old ≡ hasher_after keys (take n elements) → IfSome (slice_get elements n) (λ element. now ≡ after_element old element) → now ≡ hasher_after keys (take (n + 1) elements)
hashed_more keys elements n old now within before added =
    let element : Text = get_or elements n [] in
    let at : slice_get elements n ≡ Some element = slice_get-get_or elements n [] within in
    let one : now ≡ after_element old element = subst (λ found. IfSome found (λ e. now ≡ after_element old e)) at added in
    one ∙ (ap (λ h. after_element h element) before ∙ sym (hasher_after-more keys elements n element at))

-- no prefix of the path with more than k and at most n elements passes
pub record NonePass (marks : Marks) (path : PathName) (k n : ℕ) : Type 0 where
  pub none : (m : ℕ) → k < m → m ≤ n → may_have marks (cut m path) ≡ false

-- one that passes is the longest so far
pub none_behind : (marks : Marks) (path : PathName) (n : ℕ) → NonePass marks path n n
none_behind marks path n = record { none = λ m more within. absurd (omega arith) }

-- one whose hash was not noted does not pass
pub none_more : (marks : Marks) (path : PathName) (k n : ℕ) → NonePass marks path k n → list_any (nat_eq (hash_of marks.keys (take (n + 1) path.elements))) marks.hashes.keys ≡ false → NonePass marks path k (n + 1)
none_more marks path k n before not_noted = record {
  none = λ m more within. elim (cases_lt n m) [
    | inl last ↦
        let e : m ≡ n + 1 = omega arith in
        ap (λ j. may_have marks (cut j path)) e ∙ ap (λ b. b && nat_le (length (take (n + 1) path.elements)) marks.depth) not_noted
    | inr lower ↦ before.none m more lower
  ];
}
