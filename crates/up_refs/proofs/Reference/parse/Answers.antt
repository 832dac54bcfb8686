use Rattle.std.proofs.Common.{◌≡◌, ◌∙◌, Some, is_some, ap, rules}
use Rattle.up_refs.specs.References.{reference_in}
use Rattle.up_refs.proofs.Texts.{is_some-reference_in, text_of-reference_in}
use Rattle.up_refs.proofs.Reference.parse.Goals as goal

pub returns-clause-spelled : goal.returns-clause-spelled
unfolding reference_in
returns-clause-spelled c =
    let found : reference_in c.args.text.now ≡ Some c.in_ok-digest.digest = search rules in
    text_of-reference_in c.args.text.now c.in_ok-digest.digest found

pub returns-in_err-digest-clause-found : goal.returns-in_err-digest-clause-found
unfolding reference_in
returns-in_err-digest-clause-found c =
    let value : c.from_residual.result ≡ reference_in c.args.text.now = search rules in
    ap is_some value ∙ is_some-reference_in c.args.text.now
