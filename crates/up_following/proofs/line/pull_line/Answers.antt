-- A rest of a line has a word, if an empty one.
use Rattle.std.proofs.Common.{◌≡◌, ◌<◌, List, [], ◌∷◌, length, None, refl, sym, ap, ◌∙◌, arith}
use Rattle.std.specs.Option.{option_copied}
use Rattle.up_names.specs.Texts.{Text}
use Rattle.up_text.specs.Lines.{line_words, words_left}
use Rattle.up_text.proofs.CutLemmas.{some-words}
use Rattle.up_following.specs.FollowLines.{pull_line}
use Rattle.up_following.proofs.line.pull_line.Goals as goal

further : (words : List Text) → 0 < length words → None ≡ pull_line words
further [] some = absurd (omega (arith, some))
further (word ∷ more) some = refl

pub returns-in-Some : goal.returns-in-Some
returns-in-Some c =
    further (line_words c.in-Some.field-0.now) (some-words c.in-Some.field-0.now) ∙ ap (λ words. pull_line (words_left (option_copied words))) (sym c.in-Some.is)
