-- The first text on the way up is the governor; and how a walk to the root finds it.
use Rattle.std.proofs.Common.{◌≡◌, ℕ, zero, suc, ◌-◌, ◌<◌, ◌≤◌, Bool, true, false, List, length, refl, sym, ap, subst, ◌∙◌, inl, inr, arith, Option, Some, None}
use Rattle.std.specs.Prelude.{◌↔◌, MatchBool, if◌then◌else◌}
use Rattle.std.specs.Option.{option_or}
use Rattle.std.proofs.lemmas.Bool.{cases_lt, cases_order}
use Rattle.up_names.specs.PathNames.{PathName, cut}
use Rattle.up_access.specs.declared.Rule.{Rule}
use Rattle.up_policy.specs.Trees.{AccessTexts, TreeFacts, owns_snapshots}
use Rattle.up_policy.specs.Governors.{Governs, IsGovernor, prefixes_to, prefixes, first_text, governor}

module _ (access : PathName → Option (List Rule)) (path : PathName) where
  -- the same of the prefixes with at most n elements
  abbrev GovernsTo : ℕ → Option (List Rule) → Type 0
  GovernsTo n None = (m : ℕ) → m ≤ n → access (cut m path) ≡ None
  GovernsTo n (Some text) = (m : ℕ) × (m ≤ n) × (access (cut m path) ≡ Some text) × ((k : ℕ) → m < k → k ≤ n → access (cut k path) ≡ None)

  governs_first : (found : Option (List Rule)) → access (cut 0 path) ≡ found → GovernsTo 0 found
  governs_first None none = λ m le. let e : 0 ≡ m = omega arith in ap (λ k. access (cut k path)) (sym e) ∙ none
  governs_first (Some text) some = (0, omega arith, some, λ k less le. absurd (omega arith))

  governs_next : (n : ℕ) (found below : Option (List Rule)) → access (cut (suc n) path) ≡ found → GovernsTo n below → GovernsTo (suc n) (option_or found below)
  governs_next n (Some text) below some before = (suc n, omega arith, some, λ k less le. absurd (omega arith))
  governs_next n None None none before = λ m le. elim (cases_lt n m) [
    | inl last ↦ let e : suc n ≡ m = omega arith in ap (λ k. access (cut k path)) (sym e) ∙ none
    | inr lower ↦ before m lower
  ]
  governs_next n None (Some text) none before = (
    before.0,
    (let b : before.0 ≤ n = before.1 in omega arith),
    before.2,
    λ k less le. elim (cases_lt n k) [
      | inl last ↦ let e : suc n ≡ k = omega arith in ap (λ j. access (cut j path)) (sym e) ∙ none
      | inr lower ↦ before.3 k less lower
    ],
  )

  or_nothing : (found : Option (List Rule)) → option_or found None ≡ found
  or_nothing None = refl
  or_nothing (Some text) = refl

  first_governs : (n : ℕ) → GovernsTo n (first_text access (prefixes_to n path))
  first_governs zero = subst (GovernsTo 0) (sym (or_nothing (access (cut 0 path)))) (governs_first (access (cut 0 path)) refl)
  first_governs (suc n) = governs_next n (access (cut (suc n) path)) (first_text access (prefixes_to n path)) refl (first_governs n)

  governs_is : (found : Option (List Rule)) → GovernsTo (length path.elements) found → Governs access path found
  governs_is None h = h
  governs_is (Some text) h = h

  pub governs_text : Governs access path (first_text access (prefixes path))
  governs_text = governs_is (first_text access (prefixes path)) (first_governs (length path.elements))

  -- one text governs a path at most
  pub governs_once : (a b : Option (List Rule)) → Governs access path a → Governs access path b → a ≡ b
  governs_once None None h k = refl
  governs_once None (Some text) h k = absurd (let e : None ≡ Some text = sym (h k.0 k.1) ∙ k.2 in cc)
  governs_once (Some text) None h k = absurd (let e : None ≡ Some text = sym (k h.0 h.1) ∙ h.2 in cc)
  governs_once (Some text) (Some other) h k = elim (cases_order h.0 k.0) [
    | inl same ↦ sym h.2 ∙ (ap (λ n. access (cut n path)) same ∙ k.2)
    | inr apart ↦ elim apart [
      | inl less ↦ absurd (let e : None ≡ Some other = sym (h.3 k.0 less k.1) ∙ k.2 in cc)
      | inr more ↦ absurd (let e : None ≡ Some text = sym (k.3 h.0 more h.1) ∙ h.2 in cc)
    ]
  ]

-- by whether the tree is a snapshot tree
governor_by : (snapshots : Bool) (access : PathName → Option (List Rule)) (path : PathName) (text : Option (List Rule)) → MatchBool snapshots (text ≡ None) (Governs access path text) ↔ (text ≡ (if snapshots then None else first_text access (prefixes path)))
governor_by true access path text = (λ h. h, λ h. h)
governor_by false access path text = (
  λ h. governs_once access path text (first_text access (prefixes path)) h (governs_text access path),
  λ h. subst (Governs access path) (sym h) (governs_text access path),
)

pub governor_is_one : (tree : TreeFacts) (path : PathName) (text : Option (List Rule)) → IsGovernor tree path text ↔ (text ≡ governor tree path)
unfolding governor
governor_is_one tree path text = governor_by (owns_snapshots tree.owner) tree.access path text

-- on the way up: a directory that has no text leaves what those above it have
pub first_text_above : (access : AccessTexts) (path : PathName) (n : ℕ) → 0 < n → access (cut n path) ≡ None → first_text access (prefixes_to n path) ≡ first_text access (prefixes_to (n - 1) path)
first_text_above access path zero some none = absurd (omega arith)
first_text_above access path (suc n) some none =
    let one_less : suc n - 1 ≡ n = omega arith in
    ap (λ found. option_or found (first_text access (prefixes_to n path))) none ∙ ap (λ m. first_text access (prefixes_to m path)) (sym one_less)

-- prefixes that are longer than k and have no text may be left out
pub first_text_to : (access : AccessTexts) (path : PathName) (k n : ℕ) → k ≤ n → ((m : ℕ) → k < m → m ≤ n → access (cut m path) ≡ None) → first_text access (prefixes_to k path) ≡ first_text access (prefixes_to n path)
first_text_to access path k zero le none = let e : k ≡ 0 = omega arith in ap (λ m. first_text access (prefixes_to m path)) e
first_text_to access path k (suc n) le none = elim (cases_lt n k) [
  | inl last ↦ let e : k ≡ suc n = omega arith in ap (λ m. first_text access (prefixes_to m path)) e
  | inr lower ↦
      first_text_to access path k n lower (λ m more within. none m more (omega arith))
      ∙ sym (ap (λ found. option_or found (first_text access (prefixes_to n path))) (none (suc n) (omega arith) (omega arith)))
]
