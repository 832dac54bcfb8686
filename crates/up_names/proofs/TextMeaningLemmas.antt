-- The meaning of a text, line by line.
use Rattle.std.proofs.Common.{◌≡◌, ◌∙◌, ℕ, ◌+◌, ◌<◌, ◌≤◌, List, [], ◌∷◌, ◌++◌, map, length, ap, sym, refl, Option, Some, None, option_map, Result, Ok, Err, arith, append_assoc}
use denote.Ref.{Bor}
use Rattle.std.proofs.lemmas.List.{append-nil}
use Rattle.std.specs.List.{flat_map, position_or_len}
use Rattle.std.specs.Option.{is_none, MatchOption}
use Rattle.up_names.specs.declared.fault.TextFault.{TextFault}
use Rattle.up_names.specs.declared.fault.TextFault.TheVariants.{BadText}
use Rattle.up_names.specs.ControlTexts.{control_lines}
use Rattle.up_names.specs.TextMeanings.{all_some, meaning_of}

-- the meaning of lines, the first of which has this number
abbrev meaning_from : {X : Type 0} → ℕ → List (Option (List X)) → Result (List X) TextFault
meaning_from number lines = elim (all_some lines) [
  | Some said ↦ Ok (flat_map (λ values. values) said)
  | None ↦ Err (BadText (position_or_len is_none lines + number))
]

-- what was said before, and then what is meant
abbrev with_front : {X : Type 0} → List X → Result (List X) TextFault → Result (List X) TextFault
with_front front (Ok values) = Ok (front ++ values)
with_front front (Err fault) = Err fault

-- What was said so far, before what the lines of the rest say, is what all lines of the text say. The first line of the
-- rest has this number.
pub record Reads {X : Type 0} (said : List ℕ → Option (List X)) (text rest : List ℕ) (number : ℕ) (front : List X) : Type 0 where
  whole : with_front front (meaning_from number (map said (control_lines rest))) ≡ meaning_of (map said (control_lines text))
  pub counted : number + length rest ≤ length text + 1

from_first : {X : Type 0} (lines : List (Option (List X))) → with_front [] (meaning_from 1 lines) ≡ meaning_of lines
unfolding meaning_of
from_first {X = X} lines = at (all_some lines)
  where
    at : (said : Option (List (List X))) → with_front [] (elim said [ Some parts ↦ Ok (flat_map (λ values. values) parts) | None ↦ Err (BadText (position_or_len is_none lines + 1)) ]) ≡ elim said [ Some parts ↦ Ok (flat_map (λ values. values) parts) | None ↦ Err (BadText (position_or_len is_none lines + 1)) ]
    at (Some parts) = refl
    at None = refl

bad_first : {X : Type 0} (number : ℕ) (front : List X) (lines : List (Option (List X))) → with_front front (meaning_from number (None ∷ lines)) ≡ Err (BadText number)
bad_first number front lines = ap (λ n. Err (BadText n)) (omega arith)

good_first : {X : Type 0} (number : ℕ) (front said : List X) (lines : List (Option (List X))) → with_front front (meaning_from number (Some said ∷ lines)) ≡ with_front (front ++ said) (meaning_from (number + 1) lines)
good_first {X = X} number front said lines = at (all_some lines)
  where
    at : (rest : Option (List (List X))) → with_front front (elim (option_map (λ values. said ∷ values) rest) [ Some parts ↦ Ok (flat_map (λ values. values) parts) | None ↦ Err (BadText (1 + position_or_len is_none lines + number)) ]) ≡ with_front (front ++ said) (elim rest [ Some parts ↦ Ok (flat_map (λ values. values) parts) | None ↦ Err (BadText (position_or_len is_none lines + (number + 1))) ])
    at (Some parts) = ap Ok (sym (append_assoc front said (flat_map (λ values. values) parts)))
    at None = ap (λ n. Err (BadText n)) (omega arith)

pub Reads-begins : {X : Type 0} (said : List ℕ → Option (List X)) (text : List ℕ) → Reads said text text 1 []
Reads-begins said text = record { whole = from_first (map said (control_lines text)); counted = omega arith }

spoilt : {X : Type 0} (front : List X) (said : Option (List X)) → option_map (λ more. front ++ more) said ≡ None → said ≡ None
spoilt front None e = refl
spoilt front (Some more) e = absurd (cc)

bad_line : {X : Type 0} (said : List ℕ → Option (List X)) (text rest line : List ℕ) (lines : List (List ℕ)) (number : ℕ) (front : List X) → Reads said text rest number front → control_lines rest ≡ line ∷ lines → option_map (λ more. front ++ more) (said line) ≡ None → meaning_of (map said (control_lines text)) ≡ Err (BadText number)
bad_line said text rest line lines number front reads cut bad =
    sym reads.whole ∙ ap (λ ls. with_front front (meaning_from number (map said ls))) cut ∙ ap (λ o. with_front front (meaning_from number (o ∷ map said lines))) (spoilt front (said line) bad) ∙ bad_first number front (map said lines)

-- a line that is bad, the last or not, is the first one
pub Reads-spoilt : {X : Type 0} (said : List ℕ → Option (List X)) (text rest line : List ℕ) (after : Option (Bor (List ℕ))) (number : ℕ) (front : List X) → Reads said text rest number front → MatchOption after (control_lines rest ≡ line ∷ []) (λ a. control_lines rest ≡ line ∷ control_lines a.now) → option_map (λ more. front ++ more) (said line) ≡ None → meaning_of (map said (control_lines text)) ≡ Err (BadText number)
Reads-spoilt said text rest line None number front reads cut bad = bad_line said text rest line [] number front reads cut bad
Reads-spoilt said text rest line (Some after) number front reads cut bad = bad_line said text rest line (control_lines after.now) number front reads cut bad

-- one line more is read
read_on : {X : Type 0} (said : List ℕ → Option (List X)) (line : List ℕ) (lines : List (List ℕ)) (number : ℕ) (front now : List X) → option_map (λ more. front ++ more) (said line) ≡ Some now → with_front front (meaning_from number (map said (line ∷ lines))) ≡ with_front now (meaning_from (number + 1) (map said lines))
read_on {X = X} said line lines number front now good = at (said line) good
  where
    at : (o : Option (List X)) → option_map (λ more. front ++ more) o ≡ Some now → with_front front (meaning_from number (o ∷ map said lines)) ≡ with_front now (meaning_from (number + 1) (map said lines))
    at None e = absurd (cc)
    at (Some more) e =
        let same : front ++ more ≡ now = cc in
        good_first number front more (map said lines) ∙ ap (λ f. with_front f (meaning_from (number + 1) (map said lines))) same

pub Reads-goes : {X : Type 0} (said : List ℕ → Option (List X)) (text rest line after : List ℕ) (number : ℕ) (front now : List X) → Reads said text rest number front → control_lines rest ≡ line ∷ control_lines after → length after < length rest → option_map (λ more. front ++ more) (said line) ≡ Some now → Reads said text after (number + 1) now
Reads-goes said text rest line after number front now reads cut shorter good = record {
  whole = sym (read_on said line (control_lines after) number front now good) ∙ sym (ap (λ ls. with_front front (meaning_from number (map said ls))) cut) ∙ reads.whole;
  counted = omega (arith, reads.counted, shorter);
}

-- the last line is read
pub Reads-ends : {X : Type 0} (said : List ℕ → Option (List X)) (text rest line : List ℕ) (number : ℕ) (front now : List X) → Reads said text rest number front → control_lines rest ≡ line ∷ [] → option_map (λ more. front ++ more) (said line) ≡ Some now → meaning_of (map said (control_lines text)) ≡ Ok now
Reads-ends said text rest line number front now reads cut good =
    sym reads.whole ∙ ap (λ ls. with_front front (meaning_from number (map said ls))) cut ∙ read_on said line [] number front now good ∙ ap Ok (append-nil now)
