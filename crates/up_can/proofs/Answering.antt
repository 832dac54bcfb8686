-- What a call that wrote nothing answers.
use Rattle.std.proofs.Common.{◌≡◌, ℕ, ◌<◌, List, [], ◌∷◌, length, IfSome, Option, Some, None, true, refl, arith}
use Rattle.std.proofs.KnownBytes.{Appends-nil}
use Rattle.std.proofs.lemmas.Bool.{lt-ltb}
use Rattle.up_ends.proofs.Going.{WritesPart-none}
use Rattle.up_names.specs.Texts.{Text}
use Rattle.up_command.specs.Statuses.{Answer, AnswersWith, IsOneOf, input_limit}
use Rattle.up_can.specs.CanAnswers.{can_answer, is_can}

-- the answer to a script that is longer than one may be
can_answer_long : (words : List Text) (input : Text) → is_can words ≡ true → input_limit < length input → can_answer words input ≡ record { text = []; status = 7 }
can_answer_long words input can long = rw can (rw (lt-ltb input_limit (length input) long) refl)

-- a script was not read: that is the answer where it is too long, and where the status is another one, that cut the answer short
pub answers_unread : (left held : Option Text) (words : List Text) (status : ℕ) → is_can words ≡ true → IsOneOf (2 ∷ 4 ∷ 7 ∷ []) status → (status ≡ 7 → IfSome left (λ input. input_limit < length input))
    → IfSome left (λ input. AnswersWith held held (can_answer words input) status)
answers_unread None held words status can unread long = tt
answers_unread (Some input) held words status can unread long = record {
  whole = λ not_cut.
      let is_7 : status ≡ 7 = grind (arith) in
      rw (can_answer_long words input can (long is_7)) (Appends-nil held, is_7);
  part = WritesPart-none held (can_answer words input).text;
}
