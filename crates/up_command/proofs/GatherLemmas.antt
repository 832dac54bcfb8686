-- How a loop that gathers what it prints keeps its meaning, and its count of faults.
use Rattle.std.proofs.Common.{◌≡◌, ℕ, [], ◌++◌, Option, Result, Ok, Err, sym, ap, ◌∙◌, append_assoc, append-nil}
use Rattle.std.specs.Io.KnownBytes.{Appends}
use Rattle.std.specs.Prelude.{IsErrOf}
use Rattle.up_command.specs.declared.output.Stop.{Stop}
use Rattle.up_command.specs.declared.output.Stop.TheVariants as out
use Rattle.up_ends.proofs.Going.{Going-all, Going-more}
use Rattle.up_ends.specs.Writing.{Going, WritesPart}
use Rattle.up_lists.specs.Counts.{StaysUnless}
use Rattle.up_names.specs.Texts.{Text}

not_both : {X : Type 0} {x : X} {e : Stop} → ◌≡◌ {A = Result X Stop} (Ok x) (Err e) → ⊥
not_both both = absurd (cc)

-- a write that did not fail left the count as it was
pub still_written : {X : Type 0} {x : X} (before mid now : ℕ) (result : Result X Stop) → result ≡ Ok x → StaysUnless mid now (IsErrOf result out.WriteFault) → mid ≡ before → now ≡ before
still_written before mid now result was quiet same = quiet.stays (λ bad. not_both (sym was ∙ bad)) ∙ same

-- what was gathered, and a text behind it, are a part of the whole; this much of them is gathered still
pub going-more : (old mid now : Option Text) (gathered kept text all : Text) → Going old mid gathered all → Going mid now kept (gathered ++ text) → Going old now kept (all ++ text)
going-more old mid now gathered kept text all before more =
    let regroup : more.front ++ kept ≡ gathered ++ text = more.whole in
    let whole : before.front ++ (more.front ++ kept) ≡ all ++ text =
    ap (λ xs. before.front ++ xs) regroup ∙ (sym (append_assoc before.front gathered text) ∙ ap (λ xs. xs ++ text) before.whole) in
    let start : Going old mid (more.front ++ kept) (all ++ text) = record { front = before.front; written = before.written; whole = whole } in
    Going-more more.front kept start more.written

-- a part of what was gathered was written
pub part-more : (old mid now : Option Text) (gathered text all : Text) → Going old mid gathered all → WritesPart mid now (gathered ++ text) → WritesPart old now (all ++ text)
part-more old mid now gathered text all before part = (part.0, going-more old mid now gathered part.0 text all before part.1)

-- all of it was
pub all-more : (old mid now : Option Text) (gathered text all : Text) → Going old mid gathered all → Appends mid now (gathered ++ text) → Appends old now (all ++ text)
all-more old mid now gathered text all before whole =
    let done : Going mid now [] (gathered ++ text) = record { front = gathered ++ text; written = whole; whole = append-nil (gathered ++ text) } in
    Going-all (going-more old mid now gathered [] text all before done)
