use Rattle.std.proofs.Common.{sym, ◌∙◌}
use Rattle.up_mem_tree.specs.Kept.{slots_of}
use Rattle.up_mem_tree.proofs.Noted.{front_low, front_of, none_above, rest_high, split_at, unders_unnamed}
use Rattle.up_mem_tree.proofs.changes_below.changes_above.Goals as goal

pub returns-in-Some : goal.returns-in-Some
returns-in-Some c =
    let records = c.args.kept.now.log.items in
    let path = c.args.path.now in
    c.positions_above.ensures (front_of records path c.args.above) _ (c.positions_at.ensures ∙ c.requires.noted.told c.in-Some.id path c.in-Some.ensures ∙ split_at records path c.args.above)
    (front_low records path c.args.above) (rest_high records path c.args.above)

pub returns-in-None : goal.returns-in-None
returns-in-None c =
    let kept = c.args.kept.now in
    let path = c.args.path.now in
    sym (none_above kept.log.items path c.args.above (unders_unnamed kept.owner kept.log.items (slots_of kept) c.requires.stands.linked path c.in-None.ensures))
