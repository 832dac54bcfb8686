-- The pieces of a pattern's text, taken one after the other.
use Rattle.std.proofs.Common.{◌≡◌, ◌≢◌, ◌∙◌, ℕ, ◌+◌, ◌-◌, ◌≤◌, ◌<◌, Bool, cond, not, List, [], ◌∷◌, ◌++◌, length, take, map, filter, Option, Some, None, is_some, unwrap_or, Ok, Err, refl, sym, ap, arith, inl, inr}
use Rattle.std.specs.Option.{option_map}
use Rattle.std.specs.List.{position_from, slice_split}
use Rattle.std.proofs.lemmas.Iterator.Adapters.{position_from-zero}
use Rattle.std.proofs.lemmas.Bool.{cases_Bool}
use Rattle.std.proofs.lemmas.List.Sums.{count_by-le-length}
use Rattle.std.proofs.lemmas.List.Splits.{length-slice_split}
use Rattle.std.proofs.lemmas.List.{length-map, map-append, take-map}
use Rattle.up_names.specs.PathNames.{cleaned, is_skipped, is_slash, is_up}
use Rattle.up_names.proofs.Cleaning.{walk, walk-staying}
use Rattle.up_pattern.specs.declared.fault.PatternFault.{PatternFault}
use Rattle.up_pattern.specs.declared.fault.PatternFault.TheVariants.{Element, OutOfMemory}
use Rattle.up_pattern.specs.declared.fault.ElementFault.{ElementFault}
use Rattle.up_pattern.specs.declared.fault.ElementFault.TheVariants as element
use Rattle.up_pattern.specs.PatternGives.{piece_fault}
use Rattle.up_pattern.specs.declared.terms.Term.{Term}
use Rattle.up_pattern.specs.Patterns.{after_piece, element_of, elements_of, elements_unless, is_bad, terms_in}

option_map-none : {X Y : Type 0} (f : X → Y) (o : Option X) → option_map f o ≡ None → o ≡ None
option_map-none f None none = refl
option_map-none f (Some x) none = cc none

option_map-some : {X Y : Type 0} (f : X → Y) (o : Option X) (y : Y) → option_map f o ≡ Some y → (x : X) × (o ≡ Some x) × (f x ≡ y)
option_map-some f None y some = cc some
option_map-some f (Some x) y some = (x, refl, cc some)

abbrev keeps : List ℕ → Bool
keeps piece = not (is_skipped piece)

-- What is kept of the pieces read leads to the elements of all of them: `pieces` are those whose terms are kept.
pub record Going (all : List (List ℕ)) (elements : List (List Term)) (place : ℕ) (rest : List (List ℕ)) : Type 0 where
  pieces : List (List ℕ)
  read : elements ≡ map terms_in pieces
  kept : walk is_up pieces (filter keeps rest) ≡ cleaned all
  bad : position_from is_bad place rest ≡ position_from is_bad 0 all
  within : place + length rest ≤ 4097

pub going_begins : (text : List ℕ) → length text ≤ 4096 → Going (slice_split is_slash text) [] 0 (slice_split is_slash text)
unfolding cleaned
going_begins text short =
    let pieces = length-slice_split is_slash text in
    let slashes = count_by-le-length is_slash text in
    record {
      pieces = [];
      read = refl;
      kept = walk-staying is_up (filter keeps (slice_split is_slash text));
      bad = refl;
      within = omega arith;
    }

module _ {all : List (List ℕ)} {elements : List (List Term)} {place : ℕ} where
  module _ {piece : List ℕ} {rest : List (List ℕ)} (g : Going all elements place (piece ∷ rest)) where
    pub going_within : place < 4097
    going_within = let w = g.within in omega arith

    -- a good piece leaves the terms of these pieces, which lead on as before
    going_to : (terms : List Term) → element_of piece ≡ Some terms → (later : List (List Term)) (pieces : List (List ℕ)) → later ≡ map terms_in pieces
        → walk is_up pieces (filter keeps rest) ≡ walk is_up g.pieces (filter keeps (piece ∷ rest)) → Going all later (place + 1) rest
    going_to terms good later pieces read on = record {
      pieces = pieces;
      read = read;
      kept = on ∙ g.kept;
      bad = sym (ap (λ found. cond (not (is_some found)) (Some place) (position_from is_bad (place + 1) rest)) good) ∙ g.bad;
      within = let w = g.within in omega arith;
    }

    dropped : take (length elements - 1) elements ≡ map terms_in (take (length g.pieces - 1) g.pieces)
    dropped =
        let n : length elements ≡ length g.pieces = ap length g.read ∙ length-map g.pieces terms_in in
        ap (λ k. take (k - 1) elements) n ∙ ap (take (length g.pieces - 1)) g.read ∙ take-map terms_in (length g.pieces - 1) g.pieces

    pushed : (terms : List Term) → element_of piece ≡ Some terms → elements ++ terms ∷ [] ≡ map terms_in (g.pieces ++ piece ∷ [])
    pushed terms good =
        let last : terms ≡ terms_in piece = sym (ap (λ found. unwrap_or found []) good) in
        ap (λ front. front ++ terms ∷ []) g.read ∙ ap (λ t. map terms_in g.pieces ++ t ∷ []) last ∙ sym (map-append terms_in g.pieces (piece ∷ []))

    -- the piece is taken
    pub going_on : (terms : List Term) → element_of piece ≡ Some terms → (later : List (List Term)) → after_piece elements piece terms ≡ later
        → Going all later (place + 1) rest
    going_on terms good later is = elim (cases_Bool (is_skipped piece)) [
      | inl skipped ↦ going_to terms good later g.pieces (sym is ∙ rw skipped g.read) (rw skipped refl)
      | inr some ↦ elim (cases_Bool (is_up piece)) [
        | inl up ↦ going_to terms good later (take (length g.pieces - 1) g.pieces) (sym is ∙ rw (some, up) dropped) (rw (some, up) refl)
        | inr name ↦ going_to terms good later (g.pieces ++ piece ∷ []) (sym is ∙ rw (some, name) (pushed terms good)) (rw (some, name) refl)
      ]
    ]

    -- the piece is bad
    pub going_bad : element_of piece ≡ None → elements_of all ≡ Err (Element place)
    unfolding elements_of
    going_bad none =
        let here : position_from is_bad place (piece ∷ rest) ≡ Some place = rw none refl in
        ap (λ found. elements_unless found all) (position_from-zero is_bad all ∙ sym g.bad ∙ here)

    -- what the reader of the piece tells
    pub going_fault : (fault : ElementFault) (answer : PatternFault) → answer ≡ piece_fault place fault
        → (fault ≢ element.OutOfMemory → option_map (after_piece elements piece) (element_of piece) ≡ None)
        → answer ≢ OutOfMemory → elements_of all ≡ Err answer
    going_fault element.Malformed answer is bad known = going_bad (option_map-none (after_piece elements piece) (element_of piece) (bad (λ e. cc e))) ∙ ap Err (sym is)
    going_fault element.OutOfMemory answer is bad known = absurd (known is)

    pub going_taken : (later : List (List Term)) → option_map (after_piece elements piece) (element_of piece) ≡ Some later → Going all later (place + 1) rest
    going_taken later taken =
        let read = option_map-some (after_piece elements piece) (element_of piece) later taken in
        going_on read.0 read.1 later read.2

  -- no piece is left
  pub going_ends : Going all elements place [] → elements_of all ≡ Ok elements
  unfolding elements_of
  going_ends g =
      ap (λ found. elements_unless found all) (position_from-zero is_bad all ∙ sym g.bad)
      ∙ ap Ok (ap (map terms_in) (sym g.kept) ∙ sym g.read)
