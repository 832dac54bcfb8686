-- The nearest directory that has an Access file, and its text.
use Rattle.std.proofs.Common.{◌≡◌, ℕ, zero, suc, ◌<◌, ◌≤◌, Bool, true, false, cond, List, length, Option, Some, None, is_some, refl, sym, ap, ◌∙◌, inl, inr, arith}
use Rattle.std.specs.Prelude.{find}
use Rattle.std.specs.Option.{option_map, option_or}
use Rattle.std.proofs.lemmas.Bool.{cases_lt}
use Rattle.up_access.specs.declared.Rule.{Rule}
use Rattle.up_names.specs.PathNames.{PathName, cut}
use Rattle.up_policy.specs.Governors.{first_text, prefixes, prefixes_to}
use Rattle.up_log_tree.specs.Rights.{access_node, facts_of, governing_prefix, rules_of}
use Rattle.up_log_tree.specs.Trees.{Tree}
use Rattle.up_log_tree.specs.declared.node.Node.{Node}

module _ (owner : List ℕ) (tree : Tree) (path : PathName) where
  abbrev access : PathName → Option (List Rule)
  access = (facts_of owner tree).access

  abbrev has_text : PathName → Bool
  has_text dir = is_some (access_node tree dir)

  tested : (dir : PathName) → has_text dir ≡ is_some ((facts_of owner tree).access dir)
  unfolding facts_of
  tested dir = go (access_node tree dir)
    where
      go : (o : Option Node) → is_some o ≡ is_some (option_map (rules_of owner) o)
      go None = refl
      go (Some node) = refl

  has : (m : ℕ) (text : List Rule) → access (cut m path) ≡ Some text → has_text (cut m path) ≡ true
  has m text here = tested (cut m path) ∙ ap is_some here

  lacks : (m : ℕ) → access (cut m path) ≡ None → has_text (cut m path) ≡ false
  lacks m none = tested (cut m path) ∙ ap is_some none

  -- ---- nowhere

  no_text_to : (len : ℕ) → ((k : ℕ) → k ≤ len → access (cut k path) ≡ None) → first_text access (prefixes_to len path) ≡ None
  no_text_to zero none = ap (λ o. option_or o None) (none 0 (omega arith))
  no_text_to (suc len) none =
      ap (λ o. option_or o (first_text access (prefixes_to len path))) (none (suc len) (omega arith)) ∙ no_text_to len (λ k le. none k (omega (arith, le)))

  no_dir_to : (len : ℕ) → ((k : ℕ) → k ≤ len → access (cut k path) ≡ None) → find has_text (prefixes_to len path) ≡ None
  no_dir_to zero none = ap (λ b. cond b (Some (cut 0 path)) None) (lacks 0 (none 0 (omega arith)))
  no_dir_to (suc len) none =
      ap (λ b. cond b (Some (cut (suc len) path)) (find has_text (prefixes_to len path))) (lacks (suc len) (none (suc len) (omega arith)))
      ∙ no_dir_to len (λ k le. none k (omega (arith, le)))

  -- ---- somewhere

  text_to : (len m : ℕ) (text : List Rule) → m ≤ len → access (cut m path) ≡ Some text → ((k : ℕ) → m < k → k ≤ len → access (cut k path) ≡ None) → first_text access (prefixes_to len path) ≡ Some text
  text_to zero m text le here none = ap (λ o. option_or o None) (ap (λ k. access (cut k path)) (let e : 0 ≡ m = omega (arith, le) in e) ∙ here)
  text_to (suc len) m text le here none = elim (cases_lt m (suc len)) [
    | inl lt ↦ ap (λ o. option_or o (first_text access (prefixes_to len path))) (none (suc len) lt (omega arith))
        ∙ text_to len m text (omega (arith, lt)) here (λ k above within. none k above (omega (arith, within)))
    | inr ge ↦ ap (λ o. option_or o (first_text access (prefixes_to len path))) (ap (λ k. access (cut k path)) (let e : suc len ≡ m = omega (arith, le, ge) in e) ∙ here)
  ]

  dir_to : (len m : ℕ) (text : List Rule) → m ≤ len → access (cut m path) ≡ Some text → ((k : ℕ) → m < k → k ≤ len → access (cut k path) ≡ None) → find has_text (prefixes_to len path) ≡ Some (cut m path)
  dir_to zero m text le here none =
      let e : m ≡ 0 = omega (arith, le) in
      ap (λ b. cond b (Some (cut 0 path)) None) (ap (λ k. has_text (cut k path)) (sym e) ∙ has m text here) ∙ ap (λ k. Some (cut k path)) (sym e)
  dir_to (suc len) m text le here none = elim (cases_lt m (suc len)) [
    | inl lt ↦ ap (λ b. cond b (Some (cut (suc len) path)) (find has_text (prefixes_to len path))) (lacks (suc len) (none (suc len) lt (omega arith)))
        ∙ dir_to len m text (omega (arith, lt)) here (λ k above within. none k above (omega (arith, within)))
    | inr ge ↦
        let e : m ≡ suc len = omega (arith, le, ge) in
        ap (λ b. cond b (Some (cut (suc len) path)) (find has_text (prefixes_to len path))) (ap (λ k. has_text (cut k path)) (sym e) ∙ has m text here)
        ∙ ap (λ k. Some (cut k path)) (sym e)
  ]

  -- ---- what is nearest

  pub text_found : (m : ℕ) (text : List Rule) → m ≤ length path.elements → access (cut m path) ≡ Some text → ((k : ℕ) → m < k → k ≤ length path.elements → access (cut k path) ≡ None)
      → Some text ≡ first_text (facts_of owner tree).access (prefixes path)
  text_found m text le here none = sym (text_to (length path.elements) m text le here none)

  pub dir_found : (m : ℕ) (text : List Rule) → m ≤ length path.elements → access (cut m path) ≡ Some text → ((k : ℕ) → m < k → k ≤ length path.elements → access (cut k path) ≡ None)
      → Some (cut m path) ≡ governing_prefix tree path
  unfolding governing_prefix
  dir_found m text le here none = sym (dir_to (length path.elements) m text le here none)

  pub text_none : ((k : ℕ) → k ≤ length path.elements → access (cut k path) ≡ None) → None ≡ first_text (facts_of owner tree).access (prefixes path)
  text_none none = sym (no_text_to (length path.elements) none)

  pub dir_none : ((k : ℕ) → k ≤ length path.elements → access (cut k path) ≡ None) → None ≡ governing_prefix tree path
  unfolding governing_prefix
  dir_none none = sym (no_dir_to (length path.elements) none)
