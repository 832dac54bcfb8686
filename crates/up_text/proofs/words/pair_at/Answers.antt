-- Two digits behind a `%`, or none.
use Rattle.std.proofs.Common.{◌≡◌, ◌∙◌, ap, sym, ◌∷◌, []}
use Rattle.std.proofs.lemmas.List.{nil_from_length}
use Rattle.up_text.specs.Words.{decoded_bytes}
use Rattle.up_text.proofs.DecodeLemmas.{decoded-pair, decoded-bad_pair, decoded-half_pair, decoded-no_pair}
use Rattle.up_text.proofs.words.pair_at.Goals as goal

pub returns-in_err-high-clause-none : goal.returns-in_err-high-clause-none
returns-in_err-high-clause-none c =
    let bytes = c.args.bytes.now in
    let none : bytes ≡ [] = nil_from_length bytes c.in_err-high.ensures.cases in
    rw c.from_residual.ensures (ap (λ bs. decoded_bytes (37 ∷ bs)) none ∙ decoded-no_pair)

pub returns-in_err-low-clause-none : goal.returns-in_err-low-clause-none
returns-in_err-low-clause-none c =
    let high = c.in_ok-high.high.now in
    let none = nil_from_length c.in_ok-high.rest.now c.in_err-low.ensures.cases in
    let bytes = c.in_ok-high.ensures.cases.0 ∙ ap (λ bs. high ∷ bs) none in
    rw c.from_residual-in_err-low.ensures (ap (λ bs. decoded_bytes (37 ∷ bs)) bytes ∙ decoded-half_pair high)

pub returns-in_err-byte-clause-none : goal.returns-in_err-byte-clause-none
returns-in_err-byte-clause-none c =
    let high = c.in_ok-high.high.now in
    let low = c.in_ok-low.low.now in
    let rest = c.in_ok-low.rest.now in
    let bytes = c.in_ok-high.ensures.cases.0 ∙ ap (λ bs. high ∷ bs) c.in_ok-low.ensures.cases.0 in
    rw c.from_residual-in_err-byte.ensures
    (ap (λ bs. decoded_bytes (37 ∷ bs)) bytes ∙ decoded-bad_pair high low rest (sym c.in_err-byte.ensures))

pub returns-clause-some : goal.returns-clause-some
returns-clause-some c =
    let high = c.in_ok-high.high.now in
    let low = c.in_ok-low.low.now in
    let rest = c.in_ok-low.rest.now in
    let bytes = c.in_ok-high.ensures.cases.0 ∙ ap (λ bs. high ∷ bs) c.in_ok-low.ensures.cases.0 in
    ap (λ bs. decoded_bytes (37 ∷ bs)) bytes ∙ decoded-pair high low c.in_ok-byte.byte rest (sym c.in_ok-byte.ensures)
