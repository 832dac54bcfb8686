-- The words of a program, as far as they were read.
use Rattle.std.proofs.Common.{◌≡◌, ◌++◌, ◌∷◌, [], List, true, false, refl, sym, ap, ◌∙◌, append_assoc, append-nil}
use Rattle.std.specs.Prelude.{◌&&◌, Bool, if◌then◌else◌}
use Rattle.std.specs.List.{list_all}
use Rattle.std.specs.Str.{IsUtf8, is_utf8}
use Rattle.std.proofs.lemmas.Str.{IsUtf8-from_is_utf8, is_utf8-from_IsUtf8}
use Rattle.up_names.specs.Texts.{Text}
use Rattle.upspin.specs.ProgramWords.{program_words}

-- the words so far and those that are left are all of them, and all are texts where those that are left are
pub record WordsGoing (read left given : List Text) : Type 0 where
  pub whole : read ++ left ≡ given
  pub texts : list_all is_utf8 left ≡ list_all is_utf8 given

pub words_first : (given : List Text) → WordsGoing [] given given
words_first given = record { whole = refl; texts = refl }

pub words_step : {read left given : List Text} (more : List Text) (word : Text) (after : List Text)
    → WordsGoing read left given → left ≡ word ∷ after → IsUtf8 word → more ≡ read ++ word ∷ [] → WordsGoing more after given
words_step {read} {left} {given} more word after going cut good next = record {
  whole = ap (λ ws. ws ++ after) next ∙ (append_assoc read (word ∷ []) after ∙ (ap (λ ws. read ++ ws) (sym cut) ∙ going.whole));
  texts = ap (λ b. b && list_all is_utf8 after) (sym (is_utf8-from_IsUtf8 word good)) ∙ (ap (list_all is_utf8) (sym cut) ∙ going.texts);
}

no_text : (b : Bool) → (b ≡ true → ⊥) → b ≡ false
no_text true not = absurd (not refl)
no_text false not = refl

pub words_bad : {read left given : List Text} (word : Text) (after : List Text)
    → WordsGoing read left given → left ≡ word ∷ after → (IsUtf8 word → ⊥) → [] ≡ program_words given
words_bad {read} {left} {given} word after going cut bad =
    let not_one : is_utf8 word ≡ false = no_text (is_utf8 word) (λ t. bad (IsUtf8-from_is_utf8 word t)) in
    let none : list_all is_utf8 given ≡ false =
    sym going.texts ∙ (ap (list_all is_utf8) cut ∙ ap (λ b. b && list_all is_utf8 after) not_one) in
    sym (ap (λ b. if b then given else []) none)

pub words_end : {read left given : List Text} → WordsGoing read left given → left ≡ [] → read ≡ program_words given
words_end {read} {left} {given} going over =
    let all : list_all is_utf8 given ≡ true = sym going.texts ∙ ap (list_all is_utf8) over in
    sym (append-nil read) ∙ (ap (λ ws. read ++ ws) (sym over) ∙ (going.whole ∙ sym (ap (λ b. if b then given else []) all)))
