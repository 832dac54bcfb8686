-- Access texts that are kept by canonical texts are the list that is seen.
use Rattle.std.proofs.Common.{◌≡◌, Option, Bool, true, false, cond, List, [], ◌∷◌, refl, sym, ap, ◌∙◌, ℕ, Global, Some, None, inl, inr}
use Rattle.std.specs.Map.{lookup}
use Rattle.std.specs.Str.{bytes_eq}
use Rattle.std.specs.String.{string_bytes, string_eq}
use Rattle.std.specs.declared.string.String.{String}
use Rattle.std.proofs.lemmas.Bool.{and_parts, and_from, cases_Bool, cond_both, true≢false}
use Rattle.std.proofs.lemmas.Bool.Decides.{same_from_decides}
use Rattle.std.proofs.lemmas.Slice.Eq.{bytes_eq-Decides}
use Rattle.indexmap.specs.IndexMap.{insert_entry}
use Rattle.up_access.specs.declared.Rule.{Rule}
use Rattle.up_names.specs.PathNames.{PathName, IsCanonical, canonical}
use Rattle.up_names.specs.PathOrder.{path_eq}
use Rattle.up_names.specs.PathOrderLaws.{path_eq-Decides}
use Rattle.up_names.specs.PathParts.{path_in}
use Rattle.up_names.proofs.PathLaws.{path_in-canonical}
use Rattle.up_policy.specs.declared.marks.Marks.{Marks}
use Rattle.up_policy.specs.Marks.{PassStill, may_have}
use Rattle.up_policy.specs.Directories.{AccessList, are_canonical, by_path, is_canonical, text_at, passes, all_pass}

-- Two canonical texts are one exactly where their paths are one.
same_text : (path : PathName) → IsCanonical path → (text : List ℕ) → bytes_eq text (canonical (path_in text)) ≡ true → path_eq path (path_in text) ≡ bytes_eq (canonical path) text
same_text path c text kept =
    let written : text ≡ canonical (path_in text) = (bytes_eq-Decides text (canonical (path_in text))).0 kept in
    let paths = path_eq-Decides path (path_in text) in
    let texts = bytes_eq-Decides (canonical path) text in
    same_from_decides (path_eq path (path_in text)) (bytes_eq (canonical path) text) paths (
      λ same. sym (path_in-canonical path c) ∙ ap path_in (texts.0 same),
      λ same. texts.1 (ap canonical same ∙ sym written),
    )

-- a look-up by the text finds what is seen at the path
pub found_by_text : (texts : List (String Global × List Rule)) → are_canonical texts ≡ true → (path : PathName) → IsCanonical path →
    lookup (λ key. bytes_eq (canonical path) (string_bytes key)) texts ≡ text_at (by_path texts) path
found_by_text [] all path c = refl
found_by_text (kept ∷ texts) all path c =
    let both = and_parts (is_canonical kept) (are_canonical texts) all in
    ap (λ same. cond same (Some kept.1) (lookup (λ key. bytes_eq (canonical path) (string_bytes key)) texts)) (sym (same_text path c (string_bytes kept.0) both.0))
    ∙ ap (cond (path_eq path (path_in (string_bytes kept.0))) (Some kept.1)) (found_by_text texts both.1 path c)

-- what is found by a text that is a path's is what is seen at the path
pub seen_at : (texts : List (String Global × List Rule)) → are_canonical texts ≡ true → (seen : AccessList) → by_path texts ≡ seen → (path : PathName) → IsCanonical path →
    (text : List ℕ) → text ≡ canonical path → (found : Option (List Rule)) → found ≡ lookup (λ key. bytes_eq text (string_bytes key)) texts → found ≡ text_at seen path
seen_at texts all seen same path c text is found h =
    h ∙ (ap (λ t. lookup (λ key. bytes_eq t (string_bytes key)) texts) is ∙ (found_by_text texts all path c ∙ ap (λ s. text_at s path) same))

-- a text that is set by the canonical text of a path is set at the path
pub set_by_text : (texts : List (String Global × List Rule)) → are_canonical texts ≡ true → (path : PathName) → IsCanonical path → (key : String Global) → string_bytes key ≡ canonical path → (rules : List Rule) →
    by_path (insert_entry string_eq texts key rules) ≡ insert_entry path_eq (by_path texts) path rules
set_by_text [] all path c key is rules = ap (λ p. (p, rules) ∷ []) (ap path_in is ∙ path_in-canonical path c)
set_by_text (kept ∷ texts) all path c key is rules =
    let both = and_parts (is_canonical kept) (are_canonical texts) all in
    let seen : PathName × List Rule = (path_in (string_bytes kept.0), kept.1) in
    let same : string_eq key kept.0 ≡ path_eq path seen.0 = ap (λ text. bytes_eq text (string_bytes kept.0)) is ∙ sym (same_text path c (string_bytes kept.0) both.0) in
    ap (λ b. by_path (cond b ((kept.0, rules) ∷ texts) (kept ∷ insert_entry string_eq texts key rules))) same
    ∙ by_cases (path_eq path seen.0) ∙ ap (λ rest. cond (path_eq path seen.0) ((seen.0, rules) ∷ by_path texts) (seen ∷ rest)) (set_by_text texts both.1 path c key is rules)
  where
    by_cases : (b : Bool) → by_path (cond b ((kept.0, rules) ∷ texts) (kept ∷ insert_entry string_eq texts key rules))
        ≡ cond b ((path_in (string_bytes kept.0), rules) ∷ by_path texts) ((path_in (string_bytes kept.0), kept.1) ∷ by_path (insert_entry string_eq texts key rules))
    by_cases true = refl
    by_cases false = refl

-- and all are kept by canonical texts still
pub set_canonical : (texts : List (String Global × List Rule)) → are_canonical texts ≡ true → (path : PathName) → IsCanonical path → (key : String Global) → string_bytes key ≡ canonical path → (rules : List Rule) →
    are_canonical (insert_entry string_eq texts key rules) ≡ true
set_canonical [] all path c key is rules = and_from (is_canonical (key, rules)) true (own_text path c (string_bytes key) is) refl
  where
    own_text : (path : PathName) → IsCanonical path → (text : List ℕ) → text ≡ canonical path → bytes_eq text (canonical (path_in text)) ≡ true
    own_text path c text is = (bytes_eq-Decides text (canonical (path_in text))).1 (is ∙ ap canonical (sym (ap path_in is ∙ path_in-canonical path c)))
set_canonical (kept ∷ texts) all path c key is rules =
    let both = and_parts (is_canonical kept) (are_canonical texts) all in
    cond_both (string_eq key kept.0) ((kept.0, rules) ∷ texts) (kept ∷ insert_entry string_eq texts key rules) (λ set. are_canonical set ≡ true)
    (λ _. and_from (is_canonical (kept.0, rules)) _ both.0 both.1)
    (λ _. and_from (is_canonical kept) _ both.0 (set_canonical texts both.1 path c key is rules))

-- what passed passes still
pub all_pass_still : (old new : Marks) → PassStill old new → (texts : List (String Global × List Rule)) → all_pass old texts ≡ true → all_pass new texts ≡ true
all_pass_still old new still [] all = refl
all_pass_still old new still (kept ∷ texts) all =
    let both = and_parts (passes old kept) (all_pass old texts) all in
    and_from (passes new kept) (all_pass new texts) (still (path_in (string_bytes kept.0)) both.0) (all_pass_still old new still texts both.1)

-- a directory that passes is set
pub set_passes : (marks : Marks) (texts : List (String Global × List Rule)) → all_pass marks texts ≡ true → (key : String Global) (rules : List Rule) → passes marks (key, rules) ≡ true →
    all_pass marks (insert_entry string_eq texts key rules) ≡ true
set_passes marks [] all key rules own = and_from (passes marks (key, rules)) true own refl
set_passes marks (kept ∷ texts) all key rules own =
    let both = and_parts (passes marks kept) (all_pass marks texts) all in
    cond_both (string_eq key kept.0) ((kept.0, rules) ∷ texts) (kept ∷ insert_entry string_eq texts key rules) (λ set. all_pass marks set ≡ true)
    (λ _. and_from (passes marks (kept.0, rules)) _ both.0 both.1)
    (λ _. and_from (passes marks kept) _ both.0 (set_passes marks texts both.1 key rules own))

-- where a directory does not pass, it has no text
pub none_past : (marks : Marks) (texts : List (String Global × List Rule)) → all_pass marks texts ≡ true → (dir : PathName) → may_have marks dir ≡ false → text_at (by_path texts) dir ≡ None
none_past marks [] all dir past = refl
none_past marks (kept ∷ texts) all dir past =
    let both = and_parts (passes marks kept) (all_pass marks texts) all in
    let seen : PathName = path_in (string_bytes kept.0) in
    elim (cases_Bool (path_eq dir seen)) [
      | inl same ↦ absurd (true≢false (sym both.0 ∙ (ap (may_have marks) (sym ((path_eq-Decides dir seen).0 same)) ∙ past)))
      | inr other ↦ ap (λ b. cond b (Some kept.1) (text_at (by_path texts) dir)) other ∙ none_past marks texts both.1 dir past
    ]
