-- The pieces of a path's text, taken one after the other.
use Rattle.std.proofs.Common.{◌≡◌, ℕ, zero, suc, ◌+◌, ◌-◌, ◌<◌, ◌≤◌, Bool, true, false, cond, not, List, [], ◌∷◌, ◌++◌, length, take, filter, refl, sym, ap, subst, ◌∙◌, arith, Some, None, Result, Ok, Err}
use Rattle.std.specs.List.{slice_split, onto_first}
use Rattle.std.proofs.lemmas.List.{length-append}
use Rattle.up_names.specs.PathNames.{PathName, is_slash, is_skipped, is_up, is_element, cleaned, first_bad, path_from, canonical, cut, extended}
use Rattle.up_names.specs.PathParts.{after_piece}
use Rattle.up_names.specs.declared.fault.NameFault.{NameFault}
use Rattle.up_names.specs.declared.fault.NameFault.TheVariants.{Element}
use Rattle.up_names.proofs.Cleaning.{walk, walk-staying}
use Rattle.up_names.proofs.Joined.{joined_text, length-joined}
use Rattle.up_names.proofs.PathLaws.{path_from-good}

-- the bytes of the pieces, with a slash after each
weight : List (List ℕ) → ℕ
weight [] = 0
weight (piece ∷ rest) = length piece + 1 + weight rest

weight-onto_first : (b : ℕ) (pieces : List (List ℕ)) → 0 < weight pieces → weight (onto_first b pieces) ≡ weight pieces + 1
unfolding weight
weight-onto_first b [] some = absurd (omega arith)
weight-onto_first b (piece ∷ rest) some = omega arith

weight-split : (test : ℕ → Bool) (text : List ℕ) → weight (slice_split test text) ≡ length text + 1
unfolding weight
weight-split test [] = refl
weight-split test (b ∷ text) =
    let rest = weight-split test text in
    elim (test b) as (λ t. weight (cond t ([] ∷ slice_split test text) (onto_first b (slice_split test text))) ≡ suc (length text) + 1) [
      | true ↦ omega (arith, rest)
      | false ↦ omega (arith, rest, weight-onto_first b (slice_split test text) (omega arith))
    ]

weight-take : (n : ℕ) (pieces : List (List ℕ)) → weight (take n pieces) ≤ weight pieces
unfolding weight
weight-take zero pieces = omega arith
weight-take (suc n) [] = omega arith
weight-take (suc n) (piece ∷ rest) = omega (arith, weight-take n rest)

weight-push : (pieces : List (List ℕ)) (last : List ℕ) → weight (pieces ++ last ∷ []) ≡ weight pieces + (length last + 1)
unfolding weight
weight-push [] last = omega arith
weight-push (piece ∷ rest) last = omega (arith, weight-push rest last)

weight-joined : (e : List ℕ) (es : List (List ℕ)) → length (joined_text (e ∷ es)) + 1 ≡ weight (e ∷ es)
unfolding weight
weight-joined e [] = omega arith
weight-joined e (f ∷ es) = omega (arith, length-joined e f es, weight-joined f es)

-- the bytes of the canonical text, with a slash after each element
reach : PathName → ℕ
reach path = length path.owner + 1 + weight path.elements

-- the canonical text ends before the last of these slashes
length-extended : (path : PathName) (e : List ℕ) → length (canonical (extended path e)) ≡ reach path + length e
unfolding reach weight
length-extended path e =
    length-append path.owner (47 ∷ joined_text (path.elements ++ e ∷ [])) ∙ omega (arith, joined path.elements, weight-push path.elements e)
  where
    joined : (es : List (List ℕ)) → length (joined_text (es ++ e ∷ [])) + 1 ≡ weight (es ++ e ∷ [])
    joined [] = weight-joined e []
    joined (f ∷ es) = weight-joined f (es ++ e ∷ [])

canonical_short : (owner : List ℕ) (es : List (List ℕ)) → length owner + 1 + weight es ≤ 4097 → 0 < length es → length (owner ++ 47 ∷ joined_text es) ≤ 4096
unfolding weight
canonical_short owner [] fits some = absurd (omega arith)
canonical_short owner (e ∷ es) fits some = omega (arith, length-append owner (47 ∷ joined_text (e ∷ es)), weight-joined e es)

-- a further piece adds no more than its bytes and a slash
reach-after_piece : (path : PathName) (piece : List ℕ) → reach (after_piece path piece) ≤ reach path + (length piece + 1)
unfolding reach
reach-after_piece path piece =
    elim (is_skipped piece) as (λ s. reach (cond s path (cond (is_up piece) (cut (length path.elements - 1) path) (extended path piece))) ≤ reach path + (length piece + 1)) [
      | true ↦ omega arith
      | false ↦ elim (is_up piece) as (λ u. reach (cond u (cut (length path.elements - 1) path) (extended path piece)) ≤ reach path + (length piece + 1)) [
        | true ↦ omega (arith, weight-take (length path.elements - 1) path.elements)
        | false ↦ omega (arith, weight-push path.elements piece)
      ]
    ]

-- what the answer of a test tells of the test
pub taken : (good : Bool) (path later : PathName) (fault : NameFault) → cond good (Ok path) (Err fault) ≡ Ok later → (good ≡ true) × (path ≡ later)
taken true path later fault e = (refl, ok_same path later e)
  where
    ok_same : (p q : PathName) → ◌≡◌ {A = Result PathName NameFault} (Ok p) (Ok q) → p ≡ q
    ok_same p q e = cc
taken false path later fault e = absurd (wrong fault later e)
  where
    wrong : (f : NameFault) (p : PathName) → ◌≡◌ {A = Result PathName NameFault} (Err f) (Ok p) → ⊥
    wrong f p e = cc

pub refused : (good : Bool) (path : PathName) (fault answer : NameFault) → cond good (Ok path) (Err fault) ≡ Err answer → (good ≡ false) × (fault ≡ answer)
refused true path fault answer e = absurd (wrong path answer e)
  where
    wrong : (p : PathName) (f : NameFault) → ◌≡◌ {A = Result PathName NameFault} (Ok p) (Err f) → ⊥
    wrong p f e = cc
refused false path fault answer e = (refl, err_same fault answer e)
  where
    err_same : (f g : NameFault) → ◌≡◌ {A = Result PathName NameFault} (Err f) (Err g) → f ≡ g
    err_same f g e = cc

abbrev keeps : List ℕ → Bool
keeps piece = not (is_skipped piece)

-- What is kept of the pieces read leads to the path of all of them.
pub record Going (owner : List ℕ) (start : ℕ) (all : List (List ℕ)) (path : PathName) (place : ℕ) (rest : List (List ℕ)) : Type 0 where
  pub owned : path.owner ≡ owner
  bad : first_bad place rest ≡ first_bad start all
  pub kept : walk is_up path.elements (filter keeps rest) ≡ cleaned all
  room : reach path + weight rest ≤ 4097
  within : place + weight rest ≤ 4097

pub going_begins : (owner : List ℕ) (start : ℕ) (text : List ℕ) → length owner + 1 ≤ start → start + length text ≤ 4096
    → Going owner start (slice_split is_slash text) (record { owner = owner; elements = [] }) start (slice_split is_slash text)
unfolding cleaned reach weight
going_begins owner start text behind short =
    let weighs = weight-split is_slash text in
    record {
      owned = refl;
      bad = refl;
      kept = walk-staying is_up (filter keeps (slice_split is_slash text));
      room = omega arith;
      within = omega arith;
    }

module _ {owner : List ℕ} {start : ℕ} {all : List (List ℕ)} {path : PathName} {place : ℕ} where
  module _ {piece : List ℕ} {rest : List (List ℕ)} (g : Going owner start all path place (piece ∷ rest)) where
    -- the piece fits
    pub going_fits : length (canonical (extended path piece)) ≤ 4096
    unfolding weight
    going_fits = omega (arith, length-extended path piece, g.room)

    pub going_within : place + (length piece + 1) ≤ 4097
    unfolding weight
    going_within = omega (arith, g.within)

    kept_on : walk is_up path.elements (filter keeps (piece ∷ rest)) ≡ walk is_up (after_piece path piece).elements (filter keeps rest)
    kept_on =
        elim (is_skipped piece) as (λ s. walk is_up path.elements (cond (not s) (piece ∷ filter keeps rest) (filter keeps rest))
        ≡ walk is_up (cond s path (cond (is_up piece) (cut (length path.elements - 1) path) (extended path piece))).elements (filter keeps rest)) [
          | true ↦ refl
          | false ↦ elim (is_up piece) as (λ u. walk is_up (cond u (take (length path.elements - 1) path.elements) (path.elements ++ piece ∷ [])) (filter keeps rest)
              ≡ walk is_up (cond u (cut (length path.elements - 1) path) (extended path piece)).elements (filter keeps rest)) [ true ↦ refl | false ↦ refl ]
        ]

    owner_on : (after_piece path piece).owner ≡ path.owner
    owner_on =
        elim (is_skipped piece) as (λ s. (cond s path (cond (is_up piece) (cut (length path.elements - 1) path) (extended path piece))).owner ≡ path.owner) [
          | true ↦ refl
          | false ↦ elim (is_up piece) as (λ u. (cond u (cut (length path.elements - 1) path) (extended path piece)).owner ≡ path.owner) [ true ↦ refl | false ↦ refl ]
        ]

    -- the piece is taken
    pub going_on : is_element piece ≡ true → (later : PathName) → after_piece path piece ≡ later → (next : ℕ) → next ≡ place + (length piece + 1) → Going owner start all later next rest
    unfolding weight
    going_on good later is next at = subst (λ p. Going owner start all p next rest) is (record {
      owned = owner_on ∙ g.owned;
      bad = ap (λ n. first_bad n rest) (at ∙ let n : place + (length piece + 1) ≡ place + length piece + 1 = omega arith in n)
          ∙ sym (ap (λ b. cond b (first_bad (place + length piece + 1) rest) (Some place)) good) ∙ g.bad;
      kept = sym kept_on ∙ g.kept;
      room = omega (arith, reach-after_piece path piece, g.room);
      within = omega (arith, g.within);
    })

    -- the piece is no element
    pub going_bad : is_element piece ≡ false → path_from start all (Ok owner) ≡ Err (Element place)
    going_bad bad =
        ap (λ o. elim o [ None ↦ Ok (record { owner = owner; elements = cleaned all }) | Some n ↦ Err (Element n) ])
        (sym g.bad ∙ ap (λ b. cond b (first_bad (place + length piece + 1) rest) (Some place)) bad)

  -- no piece is left
  pub going_ends : Going owner start all path place [] → path_from start all (Ok owner) ≡ Ok path
  going_ends g =
      path_from-good start all owner (sym g.bad)
      ∙ ap (λ elements. Ok (record { owner = owner; elements = elements })) (sym g.kept)
      ∙ ap (λ owner. Ok (record { owner = owner; elements = path.elements })) (sym g.owned)

  -- nor then is the text of the path too long, but for a root
  pub going_short : Going owner start all path place [] → 0 < length path.elements → length (canonical path) ≤ 4096
  unfolding weight reach
  going_short g some = canonical_short path.owner path.elements (omega (arith, g.room)) some
