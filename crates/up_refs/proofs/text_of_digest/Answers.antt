use Rattle.std.proofs.Common.{◌≡◌, ◌∙◌, Some, ap, rules}
use Rattle.std.specs.String.{string_bytes}
use Rattle.std.proofs.lemmas.Result.{IfOk-weaker}
use Rattle.up_refs.specs.References.{reference_in, text_of}
use Rattle.up_refs.proofs.Texts.{reference_in-text_of}
use Rattle.up_refs.proofs.text_of_digest.Goals as goal

pub returns-clause-read : goal.returns-clause-read
returns-clause-read c =
    let bytes = c.args.digest.now in
    let again = reference_in-text_of bytes c.told-digest c.fits-digest in
    IfOk-weaker c.encode_upper.result (λ text. string_bytes text ≡ text_of bytes) (λ text. reference_in (string_bytes text) ≡ Some bytes)
    (λ text same. ap reference_in same ∙ again) (search rules)
