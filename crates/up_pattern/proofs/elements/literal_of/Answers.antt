use Rattle.std.proofs.Common.{◌≡◌, ◌∙◌, ◌++◌, sym, ap, rules, arith}
use Rattle.std.specs.Prelude.{encode_utf8}
use Rattle.std.specs.String.{string_bytes}
use Rattle.up_pattern.specs.Elements.{prepended}
use Rattle.up_pattern.proofs.Literals.{literal_of-drop_char, literal_of-drop_end, literal_of-drop_other}
use Rattle.up_pattern.proofs.Parts.{prepended-append, prepended-nil, prepended-none}
use Rattle.up_pattern.proofs.elements.literal_of.Goals as goal

pub returns-in_default : goal.returns-in_default
returns-in_default c =
    let none = literal_of-drop_other c.args.terms.now c.loop-term.term-index c.term-item.result (omega arith) c.term-item.is c.in_default.not-Char in
    sym (sym c.loop-term.invariant ∙ prepended-none (string_bytes c.loop-term.text) _ none)

pub loop-term-preserved : goal.loop-term-preserved
loop-term-preserved c =
    let step = literal_of-drop_char c.args.terms.now c.loop-term.term-index c.term-item.result c.in-Char.c (omega arith) c.term-item.is c.in-Char.is in
    let pushed : string_bytes c.push.new.self ≡ string_bytes c.loop-term.text ++ encode_utf8 c.in-Char.c = search rules in
    rw pushed (
    prepended-append (string_bytes c.loop-term.text) (encode_utf8 c.in-Char.c) _ ∙ ap (prepended (string_bytes c.loop-term.text)) (sym step)
    ∙ c.loop-term.invariant
    )

pub returns : goal.returns
returns c =
    let end = literal_of-drop_end c.args.terms.now c.loop-term.term-index (omega arith) in
    sym (sym c.loop-term.invariant ∙ prepended-nil (string_bytes c.loop-term.text) _ end)
