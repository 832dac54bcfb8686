-- Canonical paths: which they are, and that their texts tell them apart.
use Rattle.std.proofs.Common.{◌≡◌, ℕ, ◌+◌, ◌≤◌, Bool, true, false, cond, not, ◌&&◌, List, [], ◌∷◌, ◌++◌, length, refl, sym, ap, ◌∙◌, Some, None, Result, Ok, Err, filter, codes, IsUtf8}
use Rattle.std.specs.List.{list_all, list_any, before_first, after_first, slice_split}
use Rattle.std.specs.Str.{bytes_eq, is_utf8, chars}
use lib.Utf8.{encode}
use Rattle.std.proofs.lemmas.Bool.{and_parts, and_from, not_from_false, not_from_true, and_right, cond_both, or_from, false_from_ne_true, false≢true, ltb-false, le-ltb}
use Rattle.std.proofs.lemmas.Str.{is_utf8-from_IsUtf8}
use Rattle.std.proofs.lemmas.Slice.Eq.{bytes_eq-Decides}
use Rattle.up_names.specs.PathNames.{PathName, is_slash, is_skipped, is_up, is_allowed_byte, is_element, is_name, cleaned, staying, pieces_of, first_bad, path_from, path_of, canonical, IsCanonical}
use Rattle.up_names.specs.PathParts.{elements_behind, path_in, read_off}
use Rattle.up_names.specs.UserNames.{user_of}
use Rattle.up_names.specs.declared.fault.NameFault.{NameFault}
use Rattle.up_names.specs.declared.fault.NameFault.TheVariants.{TooLong, Element}
use Rattle.up_names.proofs.Cleaning.{staying-all, staying-names, staying-only_names}
use Rattle.up_names.proofs.Owners.{no_slash, peel}
use Rattle.up_names.proofs.Firsts.{none_of_all, before_first-at, after_first-at, list_any-at, list_all_weaker}
use Rattle.up_names.proofs.Joined.{joined_text, stands_alone, split-joined, elements_behind-joined}

-- what a canonical path is made of
pub record IsProper (path : PathName) : Type 0 where
  pub owner : user_of path.owner ≡ Ok path.owner
  pub names : list_all is_name path.elements ≡ true
  pub short : length (canonical path) ≤ 4096

alone : (e : List ℕ) → is_name e ≡ true → stands_alone e ≡ true
unfolding is_element
alone [] h = let named = and_parts (is_element [] && false) true h in absurd (false≢true (and_parts (is_element []) false named.0).1)
alone (b ∷ bs) h =
    let element = and_parts (is_element (b ∷ bs) && not (is_skipped (b ∷ bs))) (not (is_up (b ∷ bs))) h in
    let bytes = and_parts (is_utf8 (b ∷ bs)) (list_all is_allowed_byte (b ∷ bs)) (and_parts (is_element (b ∷ bs)) _ element.0).0 in
    not_from_false _ (none_of_all is_allowed_byte is_slash (λ b slash. and_right _ (not (is_slash b)) (not_from_true _ slash)) (b ∷ bs) bytes.1)

names_alone : (es : List (List ℕ)) → list_all is_name es ≡ true → list_all stands_alone es ≡ true
names_alone es all = list_all_weaker is_name stands_alone alone es all

empty_element : is_element [] ≡ true
unfolding is_element is_utf8 chars encode
empty_element = refl

-- the pieces that the text of some elements is cut into
pieces_of_elements : List (List ℕ) → List (List ℕ)
pieces_of_elements [] = [] ∷ []
pieces_of_elements (e ∷ es) = e ∷ es

split-elements : (es : List (List ℕ)) → list_all is_name es ≡ true → slice_split is_slash (joined_text es) ≡ pieces_of_elements es
unfolding pieces_of_elements
split-elements [] all = refl
split-elements (e ∷ es) all = split-joined e es (names_alone (e ∷ es) all)

first_bad-none : (place : ℕ) (pieces : List (List ℕ)) → list_all is_element pieces ≡ true → first_bad place pieces ≡ None
first_bad-none place [] all = refl
first_bad-none place (piece ∷ rest) all =
    let both = and_parts (is_element piece) (list_all is_element rest) all in
    ap (λ b. cond b (first_bad (place + length piece + 1) rest) (Some place)) both.0 ∙ first_bad-none (place + length piece + 1) rest both.1

pub first_bad-all : (place : ℕ) (pieces : List (List ℕ)) → first_bad place pieces ≡ None → list_all is_element pieces ≡ true
first_bad-all place [] none = refl
first_bad-all place (piece ∷ rest) none =
    elim (is_element piece) as (λ b. cond b (first_bad (place + length piece + 1) rest) (Some place) ≡ None → (b && list_all is_element rest) ≡ true) [
      | true ↦ λ none. first_bad-all (place + length piece + 1) rest none
      | false ↦ λ none. cc
    ] none

filter-all : (test keep : List ℕ → Bool) (pieces : List (List ℕ)) → list_all test pieces ≡ true → list_all test (filter keep pieces) ≡ true
filter-all test keep [] all = refl
filter-all test keep (piece ∷ rest) all =
    let both = and_parts (test piece) (list_all test rest) all in
    let behind = filter-all test keep rest both.1 in
    cond_both (keep piece) (piece ∷ filter keep rest) (filter keep rest) (λ kept. list_all test kept ≡ true) (λ _. and_from _ _ both.0 behind) (λ _. behind)

filter-kept : (keep : List ℕ → Bool) (pieces : List (List ℕ)) → list_all keep (filter keep pieces) ≡ true
filter-kept keep [] = refl
filter-kept keep (piece ∷ rest) =
    cond_both (keep piece) (piece ∷ filter keep rest) (filter keep rest) (λ kept. list_all keep kept ≡ true) (λ h. and_from _ _ h (filter-kept keep rest)) (λ _. filter-kept keep rest)

filter-only : (keep : List ℕ → Bool) (pieces : List (List ℕ)) → list_all keep pieces ≡ true → filter keep pieces ≡ pieces
filter-only keep [] all = refl
filter-only keep (piece ∷ rest) all =
    let both = and_parts (keep piece) (list_all keep rest) all in
    ap (λ b. cond b (piece ∷ filter keep rest) (filter keep rest)) both.0 ∙ ap (λ rest. piece ∷ rest) (filter-only keep rest both.1)

all_names : (es : List (List ℕ)) → list_all is_element es ≡ true → list_all (λ e. not (is_skipped e)) es ≡ true → list_all (λ e. not (is_up e)) es ≡ true → list_all is_name es ≡ true
all_names [] elements kept named = refl
all_names (e ∷ es) elements kept named =
    let a = and_parts (is_element e) _ elements in
    let b = and_parts (not (is_skipped e)) _ kept in
    let c = and_parts (not (is_up e)) _ named in
    and_from _ _ (and_from _ _ (and_from _ _ a.0 b.0) c.0) (all_names es a.1 b.1 c.1)

-- cleaned elements are names
pub cleaned-names : (pieces : List (List ℕ)) → list_all is_element pieces ≡ true → list_all is_name (cleaned pieces) ≡ true
unfolding cleaned
cleaned-names pieces all =
    let kept = filter (λ piece. not (is_skipped piece)) pieces in
    all_names (staying is_up kept)
    (staying-all is_up is_element kept (filter-all is_element (λ piece. not (is_skipped piece)) pieces all))
    (staying-all is_up (λ piece. not (is_skipped piece)) kept (filter-kept (λ piece. not (is_skipped piece)) pieces))
    (staying-names is_up kept)

-- and names are clean
cleaned-elements : (es : List (List ℕ)) → list_all is_name es ≡ true → cleaned (pieces_of_elements es) ≡ es
unfolding cleaned pieces_of_elements
cleaned-elements [] all = refl
cleaned-elements (e ∷ es) all =
    ap (staying is_up) (filter-only (λ piece. not (is_skipped piece)) (e ∷ es) (list_all_weaker is_name (λ piece. not (is_skipped piece)) (λ e h. (and_parts (is_element e) _ (and_parts _ _ h).0).1) (e ∷ es) all))
    ∙ staying-only_names is_up (e ∷ es) (list_all_weaker is_name (λ piece. not (is_up piece)) (λ e h. (and_parts _ (not (is_up e)) h).1) (e ∷ es) all)

elements_of_pieces : (es : List (List ℕ)) → list_all is_name es ≡ true → list_all is_element (pieces_of_elements es) ≡ true
unfolding pieces_of_elements
elements_of_pieces [] all = and_from (is_element []) true empty_element refl
elements_of_pieces (e ∷ es) all = list_all_weaker is_name is_element (λ e h. (and_parts (is_element e) _ (and_parts _ _ h).0).0) (e ∷ es) all

-- a text with a slash, behind a name that has none
pub path_of-parts : (owner rest : List ℕ) → list_any is_slash owner ≡ false → length (owner ++ 47 ∷ rest) ≤ 4096
    → path_of (owner ++ 47 ∷ rest) ≡ path_from (length owner + 1) (slice_split is_slash rest) (user_of owner)
unfolding path_of pieces_of
path_of-parts owner rest none fits =
    let text = owner ++ 47 ∷ rest in
    ap (λ b. cond b (Err (TooLong (length text))) (path_from (length (before_first is_slash text) + 1) (pieces_of text) (user_of (before_first is_slash text)))) (le-ltb 4096 (length text) fits)
    ∙ ap (λ o. path_from (length o + 1) (pieces_of text) (user_of o)) (before_first-at is_slash owner 47 rest none refl)
    ∙ ap (λ b. path_from (length owner + 1) (cond b (slice_split is_slash (after_first is_slash text)) []) (user_of owner)) (list_any-at is_slash owner 47 rest refl)
    ∙ ap (λ r. path_from (length owner + 1) (slice_split is_slash r) (user_of owner)) (after_first-at is_slash owner 47 rest none refl)

-- a text without a slash
pub path_of-root : (text owner : List ℕ) → length text ≤ 4096 → user_of (before_first is_slash text) ≡ Ok owner → list_any is_slash text ≡ false
    → path_of text ≡ Ok (record { owner = owner; elements = [] })
unfolding path_of pieces_of cleaned
path_of-root text owner fits user none =
    let place = length (before_first is_slash text) + 1 in
    ap (λ b. cond b (Err (TooLong (length text))) (path_from place (pieces_of text) (user_of (before_first is_slash text)))) (le-ltb 4096 (length text) fits)
    ∙ ap (λ b. path_from place (cond b (slice_split is_slash (after_first is_slash text)) []) (user_of (before_first is_slash text))) none
    ∙ ap (path_from place []) user

-- no piece is bad
pub path_from-good : (place : ℕ) (pieces : List (List ℕ)) (owner : List ℕ) → first_bad place pieces ≡ None → path_from place pieces (Ok owner) ≡ Ok (record { owner = owner; elements = cleaned pieces })
path_from-good place pieces owner none = ap (λ bad. elim bad [ None ↦ Ok (record { owner = owner; elements = cleaned pieces }) | Some bad ↦ Err (Element bad) ]) none

-- a path of these parts is canonical
pub proper-canonical : (path : PathName) → IsProper path → IsCanonical path
proper-canonical path p =
    let place = length path.owner + 1 in
    path_of-parts path.owner (joined_text path.elements) (no_slash path.owner path.owner p.owner) p.short
    ∙ ap (λ pieces. path_from place pieces (user_of path.owner)) (split-elements path.elements p.names)
    ∙ ap (path_from place (pieces_of_elements path.elements)) p.owner
    ∙ path_from-good place (pieces_of_elements path.elements) path.owner (first_bad-none place _ (elements_of_pieces path.elements p.names))
    ∙ ap (λ elements. Ok (record { owner = path.owner; elements = elements })) (cleaned-elements path.elements p.names)

-- what a path is read from
pub record IsReadFrom (place : ℕ) (pieces : List (List ℕ)) (user : Result (List ℕ) NameFault) (path : PathName) : Type 0 where
  pub owner : user ≡ Ok path.owner
  pub good : first_bad place pieces ≡ None
  pub elements : path.elements ≡ cleaned pieces

err-ok : (fault : NameFault) (path : PathName) → ◌≡◌ {A = Result PathName NameFault} (Err fault) (Ok path) → ⊥
err-ok fault path e = cc

ok-same : (p q : PathName) → ◌≡◌ {A = Result PathName NameFault} (Ok p) (Ok q) → p ≡ q
ok-same p q e = cc

pub read_from : (place : ℕ) (pieces : List (List ℕ)) (user : Result (List ℕ) NameFault) (path : PathName) → path_from place pieces user ≡ Ok path → IsReadFrom place pieces user path
read_from place pieces (Err fault) path e = absurd (err-ok fault path e)
read_from place pieces (Ok owner) path e =
    elim (first_bad place pieces) as (λ bad. first_bad place pieces ≡ bad → ◌≡◌ {A = Result PathName NameFault} (elim bad [ None ↦ Ok (record { owner = owner; elements = cleaned pieces }) | Some bad ↦ Err (Element bad) ]) (Ok path) → IsReadFrom place pieces (Ok owner) path) [
      | None ↦ λ good e.
          let same = ok-same (record { owner = owner; elements = cleaned pieces }) path e in
          record { owner = ap (λ (p : PathName). Ok p.owner) same; good = good; elements = sym (ap (λ (p : PathName). p.elements) same) }
      | Some bad ↦ λ _ e. absurd (err-ok (Element bad) path e)
    ] refl e

-- and a canonical path has them
pub canonical-proper : (path : PathName) → IsCanonical path → IsProper path
unfolding path_of
canonical-proper path c =
    let text = canonical path in
    let fits = peel _ _ _ _ c in
    let read = read_from _ _ _ path fits.1 in
    let named = before_first-at is_slash path.owner 47 (joined_text path.elements) (no_slash (before_first is_slash text) path.owner read.owner) refl in
    record {
      owner = ap user_of (sym named) ∙ read.owner;
      names = ap (list_all is_name) read.elements ∙ cleaned-names (pieces_of text) (first_bad-all _ (pieces_of text) read.good);
      short = ltb-false 4096 (length text) fits.0;
    }

-- the elements are read off the text again
pub elements-read : (path : PathName) → IsProper path → elements_behind (after_first is_slash (canonical path)) ≡ path.elements
elements-read path p =
    ap elements_behind (after_first-at is_slash path.owner 47 (joined_text path.elements) (no_slash path.owner path.owner p.owner) refl)
    ∙ elements_behind-joined path.elements (names_alone path.elements p.names)

pub read_off-canonical : (path : PathName) → IsProper path → read_off path.owner (canonical path) ≡ path
read_off-canonical path p = ap (λ elements. record { owner = path.owner; elements = elements }) (elements-read path p)

-- a canonical text says whose path it is
pub path_in-canonical : (path : PathName) → IsCanonical path → path_in (canonical path) ≡ path
path_in-canonical path c =
    let p = canonical-proper path c in
    ap (λ owner. read_off owner (canonical path)) (before_first-at is_slash path.owner 47 (joined_text path.elements) (no_slash path.owner path.owner p.owner) refl)
    ∙ read_off-canonical path p

-- canonical paths with one text are one path
pub canonical-injective : (p q : PathName) → IsProper p → IsProper q → canonical p ≡ canonical q → p ≡ q
canonical-injective p q of_p of_q same =
    let owner : p.owner ≡ q.owner = sym (before_first-at is_slash p.owner 47 (joined_text p.elements) (no_slash p.owner p.owner of_p.owner) refl)
    ∙ ap (before_first is_slash) same
    ∙ before_first-at is_slash q.owner 47 (joined_text q.elements) (no_slash q.owner q.owner of_q.owner) refl in
    sym (read_off-canonical p of_p) ∙ ap (λ o. read_off o (canonical p)) owner ∙ ap (read_off q.owner) same ∙ read_off-canonical q of_q

-- text of allowed bytes is a name where it is neither skipped nor `..`
pub is_name_by_bytes : (e : List ℕ) → IsUtf8 e → (e ≡ [] → ⊥) → (e ≡ codes "." → ⊥) → (e ≡ codes ".." → ⊥) → list_all is_allowed_byte e ≡ is_name e
unfolding is_element
is_name_by_bytes e utf8 empty dot dots =
    let skipped = or_from _ _ (false_from_ne_true (bytes_eq e []) (λ h. empty ((bytes_eq-Decides e []).0 h))) (false_from_ne_true (bytes_eq e (codes ".")) (λ h. dot ((bytes_eq-Decides e (codes ".")).0 h))) in
    let up = false_from_ne_true (is_up e) (λ h. dots ((bytes_eq-Decides e (codes "..")).0 h)) in
    sym (
    ap (λ b. (b && list_all is_allowed_byte e) && not (is_skipped e) && not (is_up e)) (is_utf8-from_IsUtf8 e utf8)
    ∙ ap (λ b. list_all is_allowed_byte e && not b && not (is_up e)) skipped
    ∙ ap (λ b. list_all is_allowed_byte e && true && not b) up
    ∙ and_true (list_all is_allowed_byte e && true) ∙ and_true (list_all is_allowed_byte e))
  where
    and_true : (b : Bool) → (b && true) ≡ b
    and_true true = refl
    and_true false = refl
