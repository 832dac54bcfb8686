use Rattle.std.proofs.Common.{sym, ap, ◌∙◌}
use Rattle.up_answers.specs.Fetching.{parsed_as}
use Rattle.up_edits.specs.Texts.{bytes_of_all}
use Rattle.up_edits.proofs.TextLemmas.{put_is_parsed, put_is_refused}
use Rattle.up_edits.proofs.texts.text_put.Goals as goal

pub returns-in-Err : goal.returns-in-Err
returns-in-Err c =
    put_is_refused c.args.owner.now c.args.fetched.now c.args.entry.now (cc) c.in-Err.refusal
    (sym c.in-Err.is ∙ (c.in_ok-text.ensures ∙ ap (bytes_of_all c.args.fetched.now) c.as_slice.ensures))

pub returns : goal.returns
returns c =
    put_is_parsed c.args.owner.now c.args.fetched.now c.args.entry.now (cc) c.in-Ok.text c.in_ok-parsed.parsed
    (sym c.in-Ok.is ∙ (c.in_ok-text.ensures ∙ ap (bytes_of_all c.args.fetched.now) c.as_slice.ensures))
    (c.in_ok-parsed.ensures ∙ ap (λ kind. parsed_as c.args.owner.now kind c.in-Ok.text) c.control_kind.ensures)
