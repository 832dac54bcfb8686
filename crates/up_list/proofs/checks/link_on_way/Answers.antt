use Rattle.std.proofs.Common.{sym, ap, ◌∙◌}
use Rattle.std.specs.Option.{option_and_then}
use Rattle.up_list.specs.Entries.{if_link}
use Rattle.up_list.proofs.LinkLemmas.{first_link_on_way}
use Rattle.up_list.proofs.checks.link_on_way.Goals as goal

pub returns-clause-found : goal.returns-clause-found
returns-clause-found g c =
    let look = g.O.Onlooker.look c.args.onlooker.now in
    c.if_link.ensures ∙ (ap (option_and_then if_link) c.in_ok-item_on_way.ensures.found ∙ sym (first_link_on_way look.owner look.tree c.args.path.now c.item_on_way.ensures.rooted))
