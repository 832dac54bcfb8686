use Rattle.std.proofs.Common.{◌≡◌, filter, ap, subst, ◌∙◌}
use Rattle.std.specs.Prelude.{IfOk}
use Rattle.std.specs.Map.{keys_of}
use Rattle.up_names.specs.PathNames.{PathName}
use Rattle.up_list.proofs.FrontLemmas.{front_owner}
use Rattle.up_log_tree.specs.Trees.{tree_of}
use Rattle.up_foreign.specs.declared.items.Wanted.TheVariants.{Matching}
use Rattle.up_foreign.proofs.StartLemmas.{candidates_start, many_of}
use Rattle.up_foreign.proofs.items.items_matching.Goals as goal

pub items_from-requires-clause-start : goal.items_from-requires-clause-start
items_from-requires-clause-start c =
    candidates_start c.args.pattern.now c.args.front.now (Matching c.args.pattern c.len.result) (many_of c.args.pattern c.args.front.now c.len.result c.len.ensures c.requires.front) c.requires.front

pub items_from-requires-clause-owned : goal.items_from-requires-clause-owned
items_from-requires-clause-owned c = ap (λ (p : PathName). p.owner) c.requires.front ∙ (front_owner c.args.pattern.now ∙ c.requires.owned)

pub returns-clause-found : goal.returns-clause-found
returns-clause-found c =
    subst (λ test. IfOk c.items_from.result (λ found. keys_of found.entries ≡ filter test (keys_of (tree_of c.args.tree.now.log))))
    (λ i name. many_of c.args.pattern c.args.front.now c.len.result c.len.ensures c.requires.front name i) c.items_from.ensures.found
