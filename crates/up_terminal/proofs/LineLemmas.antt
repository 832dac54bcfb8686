-- What one line came to, by what its parts answered.
use Rattle.std.proofs.Common.{◌≡◌, inl, inr, ℕ, [], ◌∷◌, length, Option, Some, None, Result, Ok, Err, refl, arith}
use Rattle.up_names.specs.Texts.{Text, UserName}
use Rattle.up_wire.specs.declared.replies.Reply.{Reply}
use Rattle.up_wire.specs.declared.requests.Request.{Request}
use Rattle.up_terminal.specs.Answers.{LineCame}
use Rattle.up_terminal.specs.Lines.{line_of}
use Rattle.up_terminal.specs.Sessions.{DoneAndPrinted, LineRan, Named}
use Rattle.up_terminal.specs.declared.stop.Stop.{Stop}
use Rattle.up_terminal.specs.declared.stop.Stop.TheVariants as stop
use Rattle.up_terminal.specs.declared.terminal_line.TerminalLine.{TerminalLine}

-- a text of no byte
pub empty_line : (line : Text) → length line ≡ 0 → line ≡ []
empty_line [] none = refl
empty_line (b ∷ line) none = absurd (omega (arith, none))

module _ {S : Type 0} (answers : S → Request → Option Reply → S → Type 0) (user : UserName) where
  -- what a line says was done, and printed, or not
  pub line_says : (held now : Option Text) (a b : S) (line : Text) (number : ℕ) (says : TerminalLine) (result : Result (Unit {0}) Stop) → line_of user line ≡ Some says → DoneAndPrinted answers user held now a says result b → LineRan answers user number held now a line result b
  line_says held now a b line number says (Ok done) is ran = (ran.0, (LineCame.says is ran.1.0, ran.1.1))
  line_says held now a b line number says (Err stop.AskFault) is ran = (LineCame.says is ran.0, ran.1)
  line_says held now a b line number says (Err stop.WriteFault) is ran = inl (ran.0, (LineCame.says is ran.1.0, ran.1.1))
  line_says held now a b line number says (Err stop.OutOfMemory) is (inl came, same) = (inl (LineCame.says is came), same)
  line_says held now a b line number says (Err stop.OutOfMemory) is (inr did, same) = (inr (did.0, LineCame.says is did.1), same)
  line_says held now a b line number says (Err stop.BadLine) is ran = absurd ran
  line_says held now a b line number says (Err stop.ReadFault) is ran = absurd ran
  line_says held now a b line number says (Err stop.TooLong) is ran = absurd ran

  -- it is malformed, and was named, or not
  pub line_named : (held now : Option Text) (a : S) (line : Text) (number : ℕ) (result : Result (Unit {0}) Stop) → line_of user line ≡ None → Named number held now result → LineRan answers user number held now a line result a
  line_named held now a line number (Ok done) none named = absurd named
  line_named held now a line number (Err stop.BadLine) none named = (none, (refl, named))
  line_named held now a line number (Err stop.WriteFault) none named = inr (none, (refl, named))
  line_named held now a line number (Err stop.OutOfMemory) none named = (inl LineCame.unread, named)
  line_named held now a line number (Err stop.AskFault) none named = absurd named
  line_named held now a line number (Err stop.ReadFault) none named = absurd named
  line_named held now a line number (Err stop.TooLong) none named = absurd named
