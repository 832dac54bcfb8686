-- The fields of a path, kept through what is done to it.
use Rattle.std.proofs.Common.{◌≡◌, ℕ, zero, suc, ◌+◌, ◌-◌, ◌<◌, ◌≤◌, Bool, true, false, cond, not, eqb, List, [], ◌∷◌, ◌++◌, length, take, get_or, refl, sym, ap, inl, inr, subst, ◌∙◌, arith, Ok, sub-one}
use Rattle.std.specs.List.{list_all}
use Rattle.std.proofs.lemmas.Bool.{and_parts, and_from, cases_lt, eq-eqb, eqb-true, ne_eqb, false≢true}
use mir.Val.{bool_byte}
use Rattle.std.proofs.lemmas.List.{length-append, append_assoc, take_at, nil_from_length, get_or_read}
use Rattle.std.proofs.lemmas.List.Folds.{list_all-append}
use Rattle.up_names.specs.PathNames.{PathName, is_name, canonical, cut, extended, IsCanonical}
use Rattle.up_names.specs.PathParts.{read_off, ends_from, IsKept}
use Rattle.up_names.specs.UserNames.{user_of}
use Rattle.up_names.proofs.Joined.{joined_text, joined-front, joined-push, ends_from-at, ends_from-take, ends_from-push, length-ends_from}
use Rattle.up_names.proofs.PathLaws.{IsProper, proper-canonical, canonical-proper, read_off-canonical}

-- the fields that a canonical path has
pub kept_of : (path : PathName) → IsProper path → (text ends : List ℕ) → text ≡ canonical path → ends ≡ ends_from (length path.owner + 1) path.elements → IsKept path.owner text ends
kept_of path proper text ends written ended =
    let same = ap (read_off path.owner) written ∙ read_off-canonical path proper in
    record {
      parses = subst IsCanonical (sym same) (proper-canonical path proper);
      written = written ∙ ap canonical (sym same);
      ended = ended ∙ ap (λ (p : PathName). ends_from (length path.owner + 1) p.elements) (sym same);
    }

-- the root of an owner
pub root_proper : (owner : List ℕ) → user_of owner ≡ Ok owner → length owner ≤ 254 → IsProper (record { owner = owner; elements = [] })
root_proper owner canonical short = record { owner = canonical; names = refl; short = omega (arith, length-append owner (47 ∷ [])) }

-- what a path of these fields is
pub kept_proper : {owner text ends : List ℕ} → IsKept owner text ends → IsProper (read_off owner text)
kept_proper k = canonical-proper _ k.parses

pub kept_len : {owner text ends : List ℕ} → IsKept owner text ends → length ends ≡ length (read_off owner text).elements
kept_len k = ap length k.ended ∙ length-ends_from _ _

list_all-take : (n : ℕ) (es : List (List ℕ)) → list_all is_name es ≡ true → list_all is_name (take n es) ≡ true
list_all-take zero es all = refl
list_all-take (suc n) [] all = refl
list_all-take (suc n) (e ∷ es) all = let both = and_parts (is_name e) (list_all is_name es) all in and_from (is_name e) _ both.0 (list_all-take n es both.1)

-- the text of the first n elements is a front of the text
canonical-front : (n : ℕ) (path : PathName) → (rest : List ℕ) × (canonical path ≡ canonical (cut n path) ++ rest)
canonical-front n path =
    let front = joined-front n path.elements in
    (front.0, ap (λ text. path.owner ++ 47 ∷ text) front.1 ∙ sym (append_assoc path.owner (47 ∷ joined_text (take n path.elements)) front.0))

pub canonical-cut : (n : ℕ) (path : PathName) → take (length (canonical (cut n path))) (canonical path) ≡ canonical (cut n path)
canonical-cut n path =
    let front = canonical-front n path in
    ap (take (length (canonical (cut n path)))) front.1 ∙ take_at (canonical (cut n path)) front.0 (length (canonical (cut n path))) refl

pub length-canonical-cut : (n : ℕ) (path : PathName) → length (canonical (cut n path)) ≤ length (canonical path)
length-canonical-cut n path =
    let front = canonical-front n path in
    omega (arith, ap length front.1, length-append (canonical (cut n path)) front.0)

pub cut_proper : (n : ℕ) (path : PathName) → IsProper path → IsProper (cut n path)
cut_proper n path proper = record {
  owner = proper.owner;
  names = list_all-take n path.elements proper.names;
  short = omega (arith, length-canonical-cut n path, proper.short);
}

pub cut_short : {owner text ends : List ℕ} → IsKept owner text ends → (n : ℕ) → length (canonical (cut n (read_off owner text))) ≤ 4096
cut_short {owner} {text} k n = let short = (kept_proper k).short in omega (arith, length-canonical-cut n (read_off owner text))

-- where the text of the first n elements ends
pub cut_end-suc : {owner text ends : List ℕ} → IsKept owner text ends → (n : ℕ) → n < length ends → get_or ends n 0 ≡ length (canonical (cut (suc n) (read_off owner text)))
cut_end-suc {owner} {text} {ends} k n h =
    let path = read_off owner text in
    let within : n < length path.elements = omega (arith, kept_len k) in
    ap (λ places. get_or places n 0) k.ended
    ∙ ends_from-at (length owner + 1) n path.elements within
    ∙ omega (arith, length-append owner (47 ∷ joined_text (take (suc n) path.elements)))

-- the same, of what is read there
pub cut_end-at : {owner text ends : List ℕ} → IsKept owner text ends → (n : ℕ) → 0 < n → n ≤ length ends → (place : ℕ) → place ≡ get_or ends (n - 1) place → place ≡ length (canonical (cut n (read_off owner text)))
cut_end-at {owner} {text} {ends} k zero above within place at = absurd (omega arith)
cut_end-at {owner} {text} {ends} k (suc n) above within place at =
    get_or_read ends n place within (rw sub-one at at) 0 ∙ cut_end-suc k n within

-- the fields of the first n elements
pub kept_cut : {owner text ends : List ℕ} → IsKept owner text ends → (n : ℕ) → IsKept owner (take (length (canonical (cut n (read_off owner text)))) text) (take n ends)
kept_cut {owner} {text} {ends} k n =
    let path = read_off owner text in
    kept_of (cut n path) (cut_proper n path (kept_proper k)) _ _
    (ap (take (length (canonical (cut n path)))) k.written ∙ canonical-cut n path)
    (ap (take n) k.ended ∙ ends_from-take (length owner + 1) n path.elements)

pub read_off-cut : {owner text ends : List ℕ} → IsKept owner text ends → (n : ℕ) → read_off owner (take (length (canonical (cut n (read_off owner text)))) text) ≡ cut n (read_off owner text)
read_off-cut {owner} {text} {ends} k n =
    let path = read_off owner text in
    ap (λ t. read_off owner (take (length (canonical (cut n path))) t)) k.written
    ∙ ap (read_off owner) (canonical-cut n path)
    ∙ read_off-canonical (cut n path) (cut_proper n path (kept_proper k))

-- one more element
pub extended_proper : (path : PathName) (e : List ℕ) → IsProper path → is_name e ≡ true → length (canonical (extended path e)) ≤ 4096 → IsProper (extended path e)
extended_proper path e proper named short = record {
  owner = proper.owner;
  names = list_all-append is_name path.elements (e ∷ []) ∙ and_from _ _ proper.names (and_from (is_name e) true named refl);
  short = short;
}

-- its text: a slash stands before the element but at a root
canonical-extended_root : (path : PathName) (e : List ℕ) → length path.elements ≡ 0 → canonical (extended path e) ≡ canonical path ++ e
canonical-extended_root path e none =
    let at_root = nil_from_length path.elements none in
    ap (λ es. path.owner ++ 47 ∷ joined_text (es ++ e ∷ [])) at_root
    ∙ sym (append_assoc path.owner (47 ∷ []) e)
    ∙ ap (λ es. (path.owner ++ 47 ∷ joined_text es) ++ e) (sym at_root)

canonical-extended_below : (path : PathName) (e : List ℕ) → 0 < length path.elements → canonical (extended path e) ≡ (canonical path ++ 47 ∷ []) ++ e
canonical-extended_below path e some =
    ap (λ text. path.owner ++ 47 ∷ text) (pushed path.elements some)
    ∙ sym (append_assoc path.owner (47 ∷ joined_text path.elements) (47 ∷ e))
    ∙ sym (append_assoc (canonical path) (47 ∷ []) e)
  where
    pushed : (es : List (List ℕ)) → 0 < length es → joined_text (es ++ e ∷ []) ≡ joined_text es ++ 47 ∷ e
    pushed [] some = absurd (omega arith)
    pushed (d ∷ es) some = joined-push d es e

-- the fields of a path with one more element
pub kept_extended : {owner text ends : List ℕ} → IsKept owner text ends → (e longer : List ℕ) → is_name e ≡ true
    → length (canonical (extended (read_off owner text) e)) ≤ 4096
    → longer ≡ canonical (extended (read_off owner text) e)
    → IsKept owner longer (ends ++ length longer ∷ []) × (read_off owner longer ≡ extended (read_off owner text) e)
kept_extended {owner} {text} {ends} k e longer named short written =
    let path = read_off owner text in
    let proper = extended_proper path e (kept_proper k) named short in (
      kept_of (extended path e) proper _ _ written
          (ap (λ places. places ++ length longer ∷ []) k.ended
          ∙ ap (λ n. ends_from (length owner + 1) path.elements ++ n ∷ []) (ap length written ∙ length-append owner (47 ∷ joined_text (path.elements ++ e ∷ [])) ∙ omega arith)
          ∙ sym (ends_from-push (length owner + 1) path.elements e)),
      ap (read_off owner) written ∙ read_off-canonical (extended path e) proper,
    )

-- the text of a path with one more element, behind what stands there
pub longer_text : {owner text ends : List ℕ} → IsKept owner text ends → (e longer : List ℕ)
    → (length ends ≡ 0 → longer ≡ text ++ e) → (0 < length ends → longer ≡ (text ++ 47 ∷ []) ++ e) → longer ≡ canonical (extended (read_off owner text) e)
longer_text {owner} {text} {ends} k e longer at_root below =
    let path = read_off owner text in
    elim (cases_lt 0 (length ends)) [
      | inl some ↦ below some ∙ ap (λ t. (t ++ 47 ∷ []) ++ e) k.written ∙ sym (canonical-extended_below path e (omega (arith, kept_len k)))
      | inr none ↦ at_root (omega arith) ∙ ap (λ t. t ++ e) k.written ∙ sym (canonical-extended_root path e (omega (arith, kept_len k)))
    ]

-- The same of a path that the fields are seen as. The text is that of the path, with as many places as it has elements.
module _ {owner text ends : List ℕ} (k : IsKept owner text ends) (path : PathName) (is : read_off owner text ≡ path) where
  pub text_seen : text ≡ canonical path
  text_seen = k.written ∙ ap canonical is

  pub len_seen : length ends ≡ length path.elements
  len_seen = kept_len k ∙ ap (λ (p : PathName). length p.elements) is

  pub proper_seen : IsProper path
  proper_seen = subst IsProper is (kept_proper k)

  -- the first n elements
  pub cut_seen : (n : ℕ) (front places : List ℕ) → front ≡ take (length (canonical (cut n path))) text → places ≡ take n ends → IsKept owner front places × (read_off owner front ≡ cut n path)
  cut_seen n front places fronts cuts =
      let at_front : front ≡ take (length (canonical (cut n (read_off owner text)))) text = fronts ∙ ap (λ p. take (length (canonical (cut n p))) text) (sym is) in (
        subst (λ f. IsKept owner f places) (sym at_front) (subst (λ ps. IsKept owner (take (length (canonical (cut n (read_off owner text)))) text) ps) (sym cuts) (kept_cut k n)),
        ap (read_off owner) at_front ∙ read_off-cut k n ∙ ap (cut n) is,
      )

  module _ (e longer : List ℕ) (below_root : Bool) (below : below_root ≡ not (eqb (length ends) 0)) (long : longer ≡ cond below_root (text ++ 47 ∷ []) text ++ e) where
    longer_read : longer ≡ canonical (extended (read_off owner text) e)
    longer_read =
        longer_text k e longer
        (λ none. long ∙ ap (λ b. cond b (text ++ 47 ∷ []) text ++ e) (below ∙ ap not (eq-eqb _ 0 none)))
        (λ some. long ∙ ap (λ b. cond b (text ++ 47 ∷ []) text ++ e) (below ∙ ap not (ne_eqb _ 0 (λ none. omega arith))))

    -- the text with one more element
    pub longer_seen : longer ≡ canonical (extended path e)
    longer_seen = longer_read ∙ ap (λ p. canonical (extended p e)) is

    -- and the fields
    pub extended_seen : (places : List ℕ) → places ≡ ends ++ length longer ∷ [] → is_name e ≡ true → length (canonical (extended path e)) ≤ 4096
        → IsKept owner longer places × (read_off owner longer ≡ extended path e)
    extended_seen places more named short =
        let kept = kept_extended k e longer named (subst (λ p. length (canonical (extended p e)) ≤ 4096) (sym is) short) longer_read in
        (subst (λ ps. IsKept owner longer ps) (sym more) kept.0, kept.1 ∙ ap (λ p. extended p e) is)

  -- how long the text is with one more element
  pub length_with : (e : List ℕ) (is_root : Bool) → is_root ≡ eqb (length ends) 0 → (length text + bool_byte (not is_root)) + length e ≡ length (canonical (extended path e))
  length_with e true root =
      let none = eqb-true (length ends) 0 (sym root) in
      omega (arith, ap length text_seen, len_seen, ap length (canonical-extended_root path e (omega (arith, len_seen))), length-append (canonical path) e)
  length_with e false root =
      let some : 0 < length ends = elim (cases_lt 0 (length ends)) [ inl h ↦ h | inr h ↦ absurd (false≢true (root ∙ eq-eqb (length ends) 0 (omega arith))) ] in
      omega (arith, ap length text_seen, len_seen, ap length (canonical-extended_below path e (omega (arith, len_seen))), length-append (canonical path ++ 47 ∷ []) e, length-append (canonical path) (47 ∷ []))
