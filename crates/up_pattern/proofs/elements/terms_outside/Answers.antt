use Rattle.std.proofs.Common.{◌≡◌, ◌∙◌, ◌++◌, [], ◌∷◌, true, false, None, Some, refl, sym, ap, rules}
use Rattle.std.specs.Str.{byte}
use Rattle.std.proofs.lemmas.Result.{err_from_is_err_and}
use Rattle.std.proofs.lemmas.List.{nil_from_length}
use Rattle.up_pattern.specs.Elements.{class_of, in_front, is_sign, prepended, term_of, terms_behind}
use Rattle.up_pattern.proofs.Closing.{terms_behind-class, terms_behind-nil, terms_behind-token, terms_behind-unclosed}
use Rattle.up_pattern.proofs.Parts.{prepended-nil, prepended-none, prepended-push}
use Rattle.up_pattern.proofs.elements.terms_outside.Goals as goal

pub returns-in_default-split_at_close : goal.returns-in_default-split_at_close
returns-in_default-split_at_close c =
    let opens : is_sign (byte "[") c.in-Some.token.now ≡ true = search rules in
    let front = ap (terms_behind None) c.in-Some.ensures.cases.0 in
    let none = terms_behind-unclosed c.in-Some.token.now c.in-Some.others.now opens c.in_default-split_at_close.ensures in
    λ _. sym c.loop-token.invariant ∙ prepended-none c.loop-token.terms _ (front ∙ none)

pub returns-in_err-class_of : goal.returns-in_err-class_of
returns-in_err-class_of c =
    let opens : is_sign (byte "[") c.in-Some.token.now ≡ true = search rules in
    let front = ap (terms_behind None) c.in-Some.ensures.cases.0 in
    let class = terms_behind-class c.in-Some.token.now c.in-Some.others.now c.in-Some-split_at_close.inside.now c.in-Some-split_at_close.after.now opens c.in-Some-split_at_close.ensures in
    let p = err_from_is_err_and c.from_residual.result c.from_residual.ensures.1 in
    rw (p.1, p.2) (λ other.
    let none : in_front (class_of c.in-Some-split_at_close.inside.now) (terms_behind None c.in-Some-split_at_close.after.now) ≡ None =
    rw (c.in_err-class_of.ensures other) refl in
    sym c.loop-token.invariant ∙ prepended-none c.loop-token.terms _ (front ∙ class ∙ none))

pub loop-token-preserved-then-is_sign : goal.loop-token-preserved-then-is_sign
loop-token-preserved-then-is_sign c =
    let opens : is_sign (byte "[") c.in-Some.token.now ≡ true = search rules in
    let front = ap (terms_behind None) c.in-Some.ensures.cases.0 in
    let class = terms_behind-class c.in-Some.token.now c.in-Some.others.now c.in-Some-split_at_close.inside.now c.in-Some-split_at_close.after.now opens c.in-Some-split_at_close.ensures in
    let found : class_of c.in-Some-split_at_close.inside.now ≡ Some c.in_ok-class_of.field-0 = c.in_ok-class_of.ensures in
    let term : in_front (class_of c.in-Some-split_at_close.inside.now) (terms_behind None c.in-Some-split_at_close.after.now)
    ≡ prepended (c.in_ok-class_of.field-0 ∷ []) (terms_behind None c.in-Some-split_at_close.after.now) = rw found refl in
    let pushed : c.push.new.self ≡ c.loop-token.terms ++ c.in_ok-class_of.field-0 ∷ [] = search rules in
    rw pushed (prepended-push c.loop-token.terms _ _ ∙ ap (prepended c.loop-token.terms) (sym (front ∙ class ∙ term)) ∙ c.loop-token.invariant)

pub loop-token-preserved : goal.loop-token-preserved
loop-token-preserved c =
    let other : is_sign (byte "[") c.in-Some.token.now ≡ false = search rules in
    let front = ap (terms_behind None) c.in-Some.ensures.cases.0 in
    let step = terms_behind-token c.in-Some.token.now c.in-Some.others.now other in
    let pushed : c.push-else-is_sign.new.self ≡ c.loop-token.terms ++ term_of c.in-Some.token.now ∷ [] = search rules in
    rw pushed (prepended-push c.loop-token.terms _ _ ∙ ap (prepended c.loop-token.terms) (sym (front ∙ step)) ∙ c.loop-token.invariant)

pub returns : goal.returns
returns c =
    let none = ap (terms_behind None) (nil_from_length c.loop-token.left.now c.in_default.ensures.cases) in
    sym c.loop-token.invariant ∙ prepended-nil c.loop-token.terms _ (none ∙ terms_behind-nil)
