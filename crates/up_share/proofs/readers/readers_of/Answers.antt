use Rattle.up_share.proofs.ToldLemmas.{told_meaning, told_readers, told_test, told_unread}
use Rattle.up_share.proofs.readers.readers_of.Goals as goal

pub returns-clause-items : goal.returns-clause-items
returns-clause-items g c =
    told_readers (g.F.Facts.tree c.args.facts.now) (g.F.Facts.group_paths c.args.facts.now) c.args.loaded.now c.args.path.now (g.met.F.Facts.groups_listed c.args.facts.now) c.requires.plain _ c.rules_of-rules.result.now c.nearest.ensures c.rules_of-rules.ensures
    c.in_ok-items.items c.in_ok-items.ensures.items c.told.result c.told.ensures.items

pub returns-clause-test : goal.returns-clause-test
returns-clause-test g c =
    told_test (g.F.Facts.tree c.args.facts.now) (g.F.Facts.group_paths c.args.facts.now) c.args.loaded.now c.args.path.now (g.met.F.Facts.groups_listed c.args.facts.now) c.requires.plain _ c.rules_of-rules.result.now c.nearest.ensures c.rules_of-rules.ensures
    c.in_ok-items.items c.in_ok-items.ensures.items c.told.result c.told.ensures.items

pub returns-clause-meaning : goal.returns-clause-meaning
returns-clause-meaning g c =
    told_meaning (g.F.Facts.tree c.args.facts.now) (g.F.Facts.group_paths c.args.facts.now) c.args.loaded.now c.args.path.now (g.met.F.Facts.groups_listed c.args.facts.now) c.requires.plain _ c.rules_of-rules.result.now c.nearest.ensures c.rules_of-rules.ensures
    c.in_ok-items.items c.in_ok-items.ensures.items c.told.result c.told.ensures.items

pub returns-clause-unread : goal.returns-clause-unread
returns-clause-unread g c =
    told_unread (g.F.Facts.tree c.args.facts.now) (g.F.Facts.group_paths c.args.facts.now) c.args.loaded.now c.args.path.now (g.met.F.Facts.groups_listed c.args.facts.now) c.requires.plain _ c.rules_of-rules.result.now c.nearest.ensures c.rules_of-rules.ensures
    _ _ c.new-unread.ensures c.in_ok-items.ensures.unread c.told.result c.told.ensures.unread
