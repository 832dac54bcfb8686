use Rattle.std.proofs.Common.{◌-◌, ◌++◌, [], ap, sym, subst, take, ◌∙◌}
use Rattle.std.specs.Map.{keys_of}
use Rattle.up_log_tree.specs.Trees.{tree_of}
use Rattle.up_foreign.specs.Items.{wanted}
use Rattle.up_foreign.proofs.WalkLemmas.{Walks, found_owned, walks_begun, walks_ended, walks_next}
use Rattle.up_foreign.proofs.items.items_from.Goals as goal

pub loop-init : goal.loop-init
loop-init c =
    subst (Walks (tree_of c.args.tree.now.log) c.args.looked_for.now c.args.start.now (keys_of c.in_ok-walk.walk.found.entries)) (sym c.in_ok-walk.ensures.places)
    (walks_begun (tree_of c.args.tree.now.log) c.args.looked_for.now c.args.start.now (keys_of c.in_ok-walk.walk.found.entries) c.in_ok-walk.ensures.found)

-- no place is left
pub returns-in_default-clause-found : goal.returns-in_default-clause-found
returns-in_default-clause-found c =
    walks_ended c.args.tree.now.owner c.args.tree.now.log c.recall.ensures.log c.args.looked_for.now c.args.start.now c.requires.owned c.requires.start
    (keys_of c.loop.walk.found.entries) c.loop.walk.places.items c.loop.invariant
    (c.in_default.ensures.items ∙ ap (λ rest. rest ++ []) (c.in_default.ensures.rest ∙ ap (λ n. take (n - 1) c.loop.walk.places.items) c.in_default.ensures.cases.0))

pub returns-in_default-clause-owned : goal.returns-in_default-clause-owned
returns-in_default-clause-owned c =
    found_owned c.args.tree.now.owner c.args.tree.now.log c.recall.ensures.log (wanted c.args.looked_for.now) (keys_of c.loop.walk.found.entries)
    (walks_ended c.args.tree.now.owner c.args.tree.now.log c.recall.ensures.log c.args.looked_for.now c.args.start.now c.requires.owned c.requires.start
    (keys_of c.loop.walk.found.entries) c.loop.walk.places.items c.loop.invariant
    (c.in_default.ensures.items ∙ ap (λ rest. rest ++ []) (c.in_default.ensures.rest ∙ ap (λ n. take (n - 1) c.loop.walk.places.items) c.in_default.ensures.cases.0)))

-- a place is looked into
pub loop-preserved : goal.loop-preserved
loop-preserved c =
    walks_next (tree_of c.args.tree.now.log) c.args.looked_for.now c.args.start.now (keys_of c.loop.walk.found.entries) c.loop.walk.places.items c.pop.new.self.items c.in-Some.dir
    (keys_of c.look_into.new.walk.found.entries) c.look_into.new.walk.places.items c.loop.invariant c.in-Some.ensures.items c.in_ok-look_into.ensures.found c.in_ok-look_into.ensures.places
