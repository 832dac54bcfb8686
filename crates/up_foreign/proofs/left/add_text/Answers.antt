use Rattle.std.proofs.Common.{ap, sym, ◌∙◌}
use Rattle.std.specs.Option.{option_copied}
use Rattle.up_foreign.proofs.LeftLemmas.{text_left, text_unread}
use Rattle.up_foreign.proofs.left.add_text.Goals as goal

pub returns-in-Some-clause-added : goal.returns-in-Some-clause-added
returns-in-Some-clause-added c =
    text_left c.args.owner.now c.args.loaded.now c.args.name.now c.add_items.result c.items.result.now c.in-Some.text.now c.add_items.new.groups.entries (sym (ap option_copied c.in-Some.is) ∙ c.text.ensures) c.items.ensures c.add_items.ensures.added

pub returns-in-None-clause-added : goal.returns-in-None-clause-added
returns-in-None-clause-added c = text_unread c.args.owner.now c.args.loaded.now c.args.name.now c.args.groups.now.entries (sym (ap option_copied c.in-None.is) ∙ c.text.ensures)
