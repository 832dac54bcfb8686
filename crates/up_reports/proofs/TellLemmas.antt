-- How a last line and its status are answered and printed.
use Rattle.std.proofs.Common.{◌≡◌, ◌∙◌, ℕ, false, [], ◌∷◌, Option, Result, Ok, Err, refl, sym, ap, subst, arith}
use Rattle.std.specs.Prelude.{IfOk}
use Rattle.std.specs.Io.KnownBytes.{Appends}
use Rattle.std.specs.declared.alloc.AllocError.{AllocError}
use Rattle.up_command.specs.Statuses.{Answer, IsOneOf, code_of, is_cut_short}
use Rattle.up_ends.proofs.Going.{WritesPart-none}
use Rattle.up_ends.specs.Writing.{WritesPart}
use Rattle.up_journal.specs.Damages.{Damage}
use Rattle.up_journal.specs.Damages as damage
use Rattle.up_journal.specs.Opened.{why_of}
use Rattle.up_journal.specs.declared.fault.OpenWhy.{OpenWhy}
use Rattle.up_journal.specs.declared.fault.OpenWhy.TheVariants as why
use Rattle.up_names.specs.Texts.{Text}
use Rattle.up_reports.specs.Telling.{AnswersOne, IsLast, TellsLast, refused_by, told_of}
use Rattle.up_reports.specs.declared.refused.Refused.{Refused}
use Rattle.up_reports.specs.declared.telling.Last.{Last}

-- ---- what was told

is_last : (code : ℕ) → IsOneOf (3 ∷ 4 ∷ code ∷ []) code
is_last code = grind (arith)

-- it was printed whole
pub told_whole : (held held_now : Option Text) (text : Text) (code : ℕ) → Appends held held_now text → WritesPart held held_now text → AnswersOne held held_now (record { text = text; status = code }) code
told_whole held held_now text code whole part = record { one = is_last code; answers = record { whole = λ _. (whole, refl); part = part } }

-- or the sink failed
pub told_part : (held held_now : Option Text) (text : Text) (code : ℕ) → WritesPart held held_now text → AnswersOne held held_now (record { text = text; status = code }) 3
told_part held held_now text code part = record { one = refl; answers = record { whole = λ bad. absurd (cc); part = part } }

-- or there was no memory for all of it
pub told_wanting : (held held_now : Option Text) (text : Text) (code : ℕ) → WritesPart held held_now text → AnswersOne held held_now (record { text = text; status = code }) 4
told_wanting held held_now text code part = record { one = refl; answers = record { whole = λ bad. absurd (cc); part = part } }

made_of : (answer : Answer) (text : Text) (status : ℕ) → text ≡ answer.text → status ≡ answer.status → record { text = text; status = status } ≡ answer
made_of answer text status one two = ap (λ t. record { text = t; status = status }) one ∙ ap (λ s. record { text = answer.text; status = s }) two

no_memory : (held held_now : Option Text) (answer : Answer) (status : ℕ) → status ≡ 4 → held_now ≡ held → AnswersOne held held_now answer status
no_memory held held_now answer status is same =
    subst (AnswersOne held held_now answer) (sym is) (record { one = refl; answers = record { whole = λ bad. absurd (cc); part = subst (λ now. WritesPart held now answer.text) (sym same) (WritesPart-none held answer.text) } })

pub tells_answer : (held held_now : Option Text) (last : Result Last AllocError) (answer : Answer) (status : ℕ) → IsLast last answer → TellsLast held held_now last status → AnswersOne held held_now answer status
tells_answer held held_now (Ok last) answer status made told = subst (λ a. AnswersOne held held_now a status) (made_of answer last.line.items (code_of last.status) made.0 made.1) told
tells_answer held held_now (Err e) answer status made told = no_memory held held_now answer status told.0 told.1

-- ---- which statuses that are

only_8 : (n : ℕ) → IsOneOf (3 ∷ 4 ∷ 8 ∷ []) n → IsOneOf (3 ∷ 4 ∷ 6 ∷ 8 ∷ []) n
only_8 n is = grind (arith)

only_6 : (n : ℕ) → IsOneOf (3 ∷ 4 ∷ 6 ∷ []) n → IsOneOf (3 ∷ 4 ∷ 6 ∷ 8 ∷ []) n
only_6 n is = grind (arith)

only_4 : (n : ℕ) → IsOneOf (3 ∷ 4 ∷ 4 ∷ []) n → IsOneOf (3 ∷ 4 ∷ 6 ∷ 8 ∷ []) n
only_4 n is = grind (arith)

-- it is that of the answer, unless it is 3 or 4
pub is_answer : (held held_now : Option Text) (answer : Answer) (status : ℕ) → AnswersOne held held_now answer status → is_cut_short status ≡ false → status ≡ answer.status
is_answer held held_now answer status one fine = (one.answers.whole fine).1

pub refused_codes : (held held_now : Option Text) (refused : Refused) (status : ℕ) → AnswersOne held held_now (told_of refused) status → IsOneOf (3 ∷ 4 ∷ 6 ∷ 8 ∷ []) status
refused_codes held held_now refused status one = by refused.why one.one
  where
    by : (r : OpenWhy) → IsOneOf (3 ∷ 4 ∷ (refused_by refused.which r).status ∷ []) status → IsOneOf (3 ∷ 4 ∷ 6 ∷ 8 ∷ []) status
    by (why.Damaged gate) is = only_8 status is
    by (why.Chain gate wanted got) is = only_8 status is
    by why.OldFormat is = only_8 status is
    by why.Fault is = only_6 status is
    by why.OutOfMemory is = only_4 status is

-- 6 is that of a fault of a disk alone
pub refused_six : (held held_now : Option Text) (refused : Refused) (status : ℕ) → AnswersOne held held_now (told_of refused) status → status ≡ 6 → refused.why ≡ why.Fault
refused_six held held_now refused status one six = by refused.why (sym six ∙ is_answer held held_now (told_of refused) status one (ap is_cut_short six))
  where
    by : (r : OpenWhy) → 6 ≡ (refused_by refused.which r).status → r ≡ why.Fault
    by (why.Damaged gate) is = absurd (cc)
    by (why.Chain gate wanted got) is = absurd (cc)
    by why.OldFormat is = absurd (cc)
    by why.Fault is = refl
    by why.OutOfMemory is = absurd (cc)

four : (code : ℕ) → IsOneOf (3 ∷ 4 ∷ 4 ∷ []) code → (code ≡ 3 → ⊥) → (code ≡ 6 → ⊥) → IsOneOf (0 ∷ 4 ∷ []) code
four code one write disk = grind (arith)

six : (code : ℕ) → IsOneOf (3 ∷ 4 ∷ 6 ∷ []) code → (code ≡ 3 → ⊥) → (code ≡ 6 → ⊥) → IsOneOf (0 ∷ 4 ∷ []) code
six code one write disk = grind (arith)

-- where no log is refused for its content, and neither the sink nor a disk failed, it is 4
pub refused_complete : (held held_now : Option Text) (refused : Refused) (status : ℕ) → AnswersOne held held_now (told_of refused) status → ((damaged : Damage) → refused.why ≡ why_of damaged → ⊥) → (status ≡ 3 → ⊥) → (status ≡ 6 → ⊥)
    → IsOneOf (0 ∷ 4 ∷ []) status
refused_complete held held_now refused status one well write disk = by refused.why refl one.one
  where
    by : (r : OpenWhy) → refused.why ≡ r → IsOneOf (3 ∷ 4 ∷ (refused_by refused.which r).status ∷ []) status → IsOneOf (0 ∷ 4 ∷ []) status
    by (why.Damaged gate) is code = absurd (well (damage.Damaged gate) is)
    by (why.Chain gate wanted got) is code = absurd (well (damage.Chain gate wanted got) is)
    by why.OldFormat is code = absurd (well damage.OldFormat is)
    by why.Fault is code = six status code write disk
    by why.OutOfMemory is code = four status code write disk

-- ---- no answer is a write fault

pub never_3 : (last : Result Last AllocError) (answer : Answer) → IsLast last answer → (answer.status ≡ 3 → ⊥) → IfOk last (λ l. code_of l.status ≡ 3 → ⊥)
never_3 (Ok last) answer made not = λ bad. not (sym made.1 ∙ bad)
never_3 (Err e) answer made not = tt

pub refused_never : (refused : Refused) → (told_of refused).status ≡ 3 → ⊥
refused_never refused bad = by refused.why bad
  where
    by : (r : OpenWhy) → (refused_by refused.which r).status ≡ 3 → ⊥
    by (why.Damaged gate) bad = absurd (cc)
    by (why.Chain gate wanted got) bad = absurd (cc)
    by why.OldFormat bad = absurd (cc)
    by why.Fault bad = absurd (cc)
    by why.OutOfMemory bad = absurd (cc)

pub ruleset tellings = (told_whole, told_part, tells_answer, never_3, refused_never)
