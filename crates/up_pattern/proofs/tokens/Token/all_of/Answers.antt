use Rattle.std.proofs.Common.{◌≡◌, ◌∙◌, ◌+◌, ◌++◌, refl, true, false, [], ◌∷◌, length, sym, ap, rules, arith}
use Rattle.std.specs.Str.{chars}
use Rattle.std.proofs.lemmas.Iterator.{YieldsList-from_chars}
use Rattle.std.proofs.lemmas.Iterator.Consumers.{YieldsList-turn, YieldsList-end}
use Rattle.std.proofs.lemmas.List.{length_push}
use Rattle.up_pattern.specs.Elements.{escapes, prepended}
use Rattle.up_pattern.proofs.Lexing.{tokens_behind-end, tokens_behind-escape, tokens_behind-token}
use Rattle.up_pattern.proofs.Parts.{prepended-nil, prepended-none, prepended-push}
use Rattle.up_pattern.proofs.tokens.Token.all_of.Goals as goal

pub loop-character-preserved-then-escapes : goal.loop-character-preserved-then-escapes
loop-character-preserved-then-escapes c =
    let at = YieldsList-turn (YieldsList-from_chars c.args.text.now c.utf8.text cc) c.loop-character.yielded _ c.loop-character.yielded_by _ _ c.in-Some.character c.in-Some.is c.next.ensures.steps in
    let cs = chars c.args.text.now in
    let n = length_push c.loop-character.yielded c.in-Some.character in
    let opens : escapes c.loop-character.is_escaped c.in-Some.character ≡ true = search rules in
    let step = tokens_behind-escape c.loop-character.is_escaped cs _ c.in-Some.character at opens in
    rw n (ap (prepended c.loop-character.tokens.items) (sym step) ∙ c.loop-character.invariant)

pub loop-character-preserved : goal.loop-character-preserved
loop-character-preserved c =
    let at = YieldsList-turn (YieldsList-from_chars c.args.text.now c.utf8.text cc) c.loop-character.yielded _ c.loop-character.yielded_by _ _ c.in-Some.character c.in-Some.is c.next.ensures.steps in
    let cs = chars c.args.text.now in
    let n = length_push c.loop-character.yielded c.in-Some.character in
    let opens : escapes c.loop-character.is_escaped c.in-Some.character ≡ false = search rules in
    let step = tokens_behind-token c.loop-character.is_escaped cs _ c.in-Some.character at opens in
    let pushed : c.push.new.self.items ≡ c.loop-character.tokens.items ++ (record { character = c.in-Some.character; is_escaped = c.loop-character.is_escaped }) ∷ [] = search rules in
    rw (n, pushed) (
    prepended-push c.loop-character.tokens.items _ _ ∙ ap (prepended c.loop-character.tokens.items) (sym step) ∙ c.loop-character.invariant
    )

pub returns-then-is_escaped : goal.returns-then-is_escaped
returns-then-is_escaped c =
    let end = YieldsList-end (YieldsList-from_chars c.args.text.now c.utf8.text cc) c.loop-character.yielded _ c.loop-character.yielded_by _ _ c.in-None.is c.next.ensures.steps in
    let none = tokens_behind-end c.loop-character.is_escaped (chars c.args.text.now) (length c.loop-character.yielded) (omega (arith, end.1)) in
    λ _. sym c.loop-character.invariant ∙ prepended-none c.loop-character.tokens.items _ (none ∙ rw c.if-is_escaped.true refl)

pub returns : goal.returns
returns c =
    let end = YieldsList-end (YieldsList-from_chars c.args.text.now c.utf8.text cc) c.loop-character.yielded _ c.loop-character.yielded_by _ _ c.in-None.is c.next.ensures.steps in
    let none = tokens_behind-end c.loop-character.is_escaped (chars c.args.text.now) (length c.loop-character.yielded) (omega (arith, end.1)) in
    sym c.loop-character.invariant ∙ prepended-nil c.loop-character.tokens.items _ (none ∙ rw c.if-is_escaped.false refl)
