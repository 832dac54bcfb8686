-- How a text goes to a sink piece by piece. For the loops of every crate that writes.
use Rattle.std.proofs.Common.{◌≡◌, ℕ, ◌-◌, List, [], ◌++◌, length, take, drop, refl, sym, ap, subst, ◌∙◌, append_assoc, append-nil, take-append-drop}
use Rattle.std.proofs.lemmas.List.{take_rest}
use Rattle.std.proofs.KnownBytes.{Appends-nil, Appends-trans}
use Rattle.std.specs.Io.KnownBytes.{Appends}
use Rattle.std.specs.declared.option.Option.{Option}
use Rattle.up_ends.specs.Writing.{Going, WritesPart}

-- nothing is written yet
pub Going-none : (held : Option (List ℕ)) (all : List ℕ) → Going held held all all
Going-none held all = record { front = []; written = Appends-nil held; whole = refl }

-- a piece is written, and what follows it is left
pub Going-more : {old mid now : Option (List ℕ)} {all : List ℕ} (piece rest : List ℕ) → Going old mid (piece ++ rest) all → Appends mid now piece → Going old now rest all
Going-more {old} {mid} {now} piece rest before written = record {
  front = before.front ++ piece;
  written = Appends-trans old mid now before.front piece before.written written;
  whole = append_assoc before.front piece rest ∙ before.whole;
}

-- n bytes of what was left are written
pub Going-taken : {old mid now : Option (List ℕ)} {all : List ℕ} (n : ℕ) (left : List ℕ) → Going old mid left all → Appends mid now (take n left) → Going old now (take (length left - n) (drop n left)) all
Going-taken {old} {mid} {now} {all} n left before written =
    let cut : left ≡ take n left ++ take (length left - n) (drop n left) =
    sym (take-append-drop n left) ∙ ap (λ xs. take n left ++ xs) (sym (take_rest left n)) in
    Going-more (take n left) _ (subst (λ xs. Going old mid xs all) cut before) written

-- nothing is left
pub Going-all : {old now : Option (List ℕ)} {all : List ℕ} → Going old now [] all → Appends old now all
Going-all {old} {now} before = subst (Appends old now) (sym (append-nil before.front) ∙ before.whole) before.written

-- nothing written is a part
pub WritesPart-none : (held : Option (List ℕ)) (all : List ℕ) → WritesPart held held all
WritesPart-none held all = (all, Going-none held all)

-- what was written so far is a part
pub WritesPart-so_far : {old now : Option (List ℕ)} {rest all : List ℕ} → Going old now rest all → WritesPart old now all
WritesPart-so_far {old} {now} {rest} before = (rest, before)

-- all of it is a part
pub WritesPart-all : {old now : Option (List ℕ)} (all : List ℕ) → Appends old now all → WritesPart old now all
WritesPart-all all written = ([], record { front = all; written = written; whole = append-nil all })

-- a part of the next piece was written, as after a fault in it
pub WritesPart-step : {old mid now : Option (List ℕ)} {all : List ℕ} (piece rest : List ℕ) → Going old mid (piece ++ rest) all → WritesPart mid now piece → WritesPart old now all
WritesPart-step {old} {mid} {now} {all} piece rest before part =
    let split : piece ++ rest ≡ part.1.front ++ (part.0 ++ rest) =
    ap (λ xs. xs ++ rest) (sym part.1.whole) ∙ append_assoc part.1.front part.0 rest in
    (part.0 ++ rest, Going-more part.1.front (part.0 ++ rest) (subst (λ xs. Going old mid xs all) split before) part.1.written)

-- for a loop that writes
pub ruleset writing_steps = (Going-taken)
