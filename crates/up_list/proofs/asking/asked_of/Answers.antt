use Rattle.std.proofs.Common.{ap, sym, subst, ◌∙◌}
use Rattle.up_entry.specs.Checking.{Gives}
use Rattle.up_wire.specs.declared.requests.Request.{Request}
use Rattle.up_wire.specs.declared.requests.Request.TheVariants as request
use Rattle.up_list.specs.Asking.{asked_of}
use Rattle.up_list.proofs.asking.asked_of.Goals as goal

pub returns-in-GroupText : goal.returns-in-GroupText
returns-in-GroupText c =
    subst (λ (r : Request). Gives (λ asked. asked) c.group_asked.result (asked_of c.args.user.now r))
    (ap request.GroupText c.as_slice-in-GroupText.ensures ∙ sym c.in-GroupText.is) (c.group_asked.ensures c.args.user.now)

pub returns-in-Watch : goal.returns-in-Watch
returns-in-Watch c =
    subst (λ (r : Request). Gives (λ asked. asked) c.watch_asked.result (asked_of c.args.user.now r))
    (ap (λ text. request.Watch text c.in-Watch.sequence) c.as_slice-in-Watch.ensures ∙ sym c.in-Watch.is) (c.watch_asked.ensures c.args.user.now)
