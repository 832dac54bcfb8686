-- Laws of the definitions alone: a path that some text names is named by its canonical text.
use Rattle.std.proofs.Common.{◌≡◌, ℕ, ◌+◌, ◌<◌, ◌≤◌, Bool, true, false, cond, inl, inr, List, [], ◌∷◌, length, refl, sym, ap, subst, ◌∙◌, arith, Some, None, Ok}
use Rattle.std.specs.List.{list_all, list_any, before_first, after_first, slice_split}
use Rattle.std.proofs.lemmas.Bool.{ltb-false, cases_lt}
use Rattle.std.proofs.lemmas.List.{length-append, nil_from_length}
use Rattle.up_names.specs.PathNames.{PathName, is_slash, is_element, is_name, cleaned, pieces_of, first_bad, path_of, canonical, IsCanonical}
use Rattle.up_names.specs.PathParts.{after_piece}
use Rattle.up_names.specs.UserNames.{user_of}
use Rattle.up_names.proofs.Owners.{peel, at_most_254, no_longer}
use Rattle.up_names.proofs.UserLemmas.{user_of-again}
use Rattle.up_names.proofs.Firsts.{length-parts}
use Rattle.up_names.proofs.PathLaws.{IsReadFrom, read_from, cleaned-names, first_bad-all, proper-canonical}
use Rattle.up_names.proofs.PathPieces.{Going, going_begins, going_on, going_short}

-- all pieces taken, none of them bad
module _ {owner : List ℕ} {start : ℕ} {all : List (List ℕ)} where
  taken_all : (path : PathName) (place : ℕ) (rest : List (List ℕ)) → Going owner start all path place rest → first_bad place rest ≡ None → (last : PathName) × (end : ℕ) × Going owner start all last end []
  taken_all path place [] g none = (path, place, g)
  taken_all path place (piece ∷ rest) g none =
      elim (is_element piece) as (λ b. is_element piece ≡ b → cond b (first_bad (place + length piece + 1) rest) (Some place) ≡ None → (last : PathName) × (end : ℕ) × Going owner start all last end []) [
        | true ↦ λ good none.
            taken_all (after_piece path piece) (place + (length piece + 1)) rest (going_on g good (after_piece path piece) refl (place + (length piece + 1)) refl)
            (ap (λ n. first_bad n rest) (let n : place + (length piece + 1) ≡ place + length piece + 1 = omega arith in n) ∙ none)
        | false ↦ λ _ none. absurd (some-none place none)
      ] refl none
    where
      some-none : (n : ℕ) → Some n ≡ None → ⊥
      some-none n e = cc

root_short : (path : PathName) → length path.owner ≤ 254 → length path.elements ≡ 0 → length (canonical path) ≤ 4096
root_short path short none =
    subst (λ es. length (canonical (record { owner = path.owner; elements = es })) ≤ 4096) (sym (nil_from_length path.elements none)) (omega (arith, length-append path.owner (47 ∷ [])))

-- what the pieces of a text of at most 4,096 bytes make is short enough to be a text itself
pieces_short : (before behind : List ℕ) (path : PathName) → length before + 1 + length behind ≤ 4096
    → IsReadFrom (length before + 1) (slice_split is_slash behind) (user_of before) path → 0 < length path.elements → length (canonical path) ≤ 4096
pieces_short before behind path fits read some =
    let begun = going_begins path.owner (length before + 1) behind (omega (arith, no_longer before path.owner read.owner)) fits in
    let taken = taken_all (record { owner = path.owner; elements = [] }) (length before + 1) (slice_split is_slash behind) begun read.good in
    let last = taken.0 in
    let same : last ≡ path = ap (λ o. record { owner = o; elements = last.elements }) taken.2.owned
    ∙ ap (λ es. record { owner = path.owner; elements = es }) (taken.2.kept ∙ sym read.elements) in
    subst (λ p. length (canonical p) ≤ 4096) same (going_short taken.2 (omega (arith, ap (λ (p : PathName). length p.elements) same)))

short_again : (text : List ℕ) (path : PathName) → length text ≤ 4096
    → IsReadFrom (length (before_first is_slash text) + 1) (pieces_of text) (user_of (before_first is_slash text)) path → length (canonical path) ≤ 4096
unfolding pieces_of cleaned
short_again text path fits read =
    let before = before_first is_slash text in
    let behind = after_first is_slash text in
    let Read : Bool → Type 0 = λ b. IsReadFrom (length before + 1) (cond b (slice_split is_slash behind) []) (user_of before) path in
    elim (cases_lt 0 (length path.elements)) [
      | inr none ↦ root_short path (at_most_254 before path.owner read.owner) (omega arith)
      | inl some ↦ elim (list_any is_slash text) as (λ b. list_any is_slash text ≡ b → Read b → length (canonical path) ≤ 4096) [
        | true ↦ λ slash read.
            let parts = length-parts is_slash text behind (ap (λ b. cond b (Some behind) None) slash) in
            pieces_short before behind path (omega (arith, parts)) read some
        | false ↦ λ _ read. absurd (omega (arith, ap length read.elements))
      ] refl read
    ]

-- A path that some text names is named by its canonical text.
pub path_of-again : (text : List ℕ) (path : PathName) → path_of text ≡ Ok path → IsCanonical path
unfolding path_of
path_of-again text path e =
    let fits = peel _ _ _ _ e in
    let read = read_from _ _ _ path fits.1 in
    proper-canonical path (record {
      owner = user_of-again (before_first is_slash text) path.owner read.owner;
      names = ap (list_all is_name) read.elements ∙ cleaned-names (pieces_of text) (first_bad-all _ (pieces_of text) read.good);
      short = short_again text path (ltb-false 4096 (length text) fits.0) read;
    })
