-- A word that is a text goes behind the others; at one that is none there are none.
use Rattle.std.proofs.Common.{◌++◌, ◌∷◌, [], ap, map, string_bytes, subst, sym, ◌∙◌}
use Rattle.std.proofs.lemmas.List.{map-append}
use Rattle.std.specs.Str.{IsUtf8}
use Rattle.upspin.proofs.ProgramLemmas.{words_bad, words_step}
use Rattle.upspin.proofs.arguments.program_words.Goals as goal

pub returns-in-Err : goal.returns-in-Err
returns-in-Err c =
    ap (map string_bytes) c.new.ensures.items
    ∙ words_bad c.in-Some.word.now c.in-Some.rest.now c.loop-word.invariant c.in-Some.ensures.cases.0
    (λ text. c.in-Err.ensures.cases.0 (subst IsUtf8 (sym c.as_slice.ensures) text))

pub loop-word-preserved : goal.loop-word-preserved
loop-word-preserved c =
    words_step (map string_bytes c.push.new.self.items) c.in-Some.word.now c.in-Some.rest.now c.loop-word.invariant
    c.in-Some.ensures.cases.0 (subst IsUtf8 c.as_slice.ensures c.in-Ok.ensures.cases.1)
    (ap (map string_bytes) c.in_ok-push-in-Ok.ensures.items
    ∙ (map-append string_bytes c.loop-word.words.items (c.in_ok-from_str-in-Ok.field-0 ∷ [])
    ∙ ap (λ word. map string_bytes c.loop-word.words.items ++ word ∷ [])
    (c.in_ok-from_str-in-Ok.ensures.ok ∙ (c.in-Ok.ensures.cases.0 ∙ c.as_slice.ensures))))
