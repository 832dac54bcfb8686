use Rattle.std.proofs.Common.{refl, sym, ap, ◌∙◌}
use Rattle.std.specs.Prelude.{option_map}
use Rattle.up_snap.specs.Shown.{old_path, shown_root}
use Rattle.up_mem_tree.specs.Nodes.{node_of}
use Rattle.up_snap.proofs.ShortLemmas.{short_path}
use Rattle.up_snap.proofs.StandingLemmas.{made_shown, none_shown, some_shown}
use Rattle.up_snap.proofs.standing.standing_by.Goals as goal

pub returns-then-not-below-clause-found : goal.returns-then-not-below-clause-found
returns-then-not-below-clause-found c =
    let path = c.args.path.now in
    made_shown c.args.tree.now.owner c.args.tree.now.log path c.args.shown (shown_root path.owner c.args.shown.time) refl (sym c.in_ok-below.ensures ∙ c.if-not-below.true)

pub returns-in-Some-clause-found : goal.returns-in-Some-clause-found
returns-in-Some-clause-found c =
    let path = c.args.path.now in
    let owner = c.args.tree.now.owner in
    some_shown owner c.args.tree.now.log path c.args.shown (shown_root path.owner c.args.shown.time) (old_path owner path) c.in-Some.node
    refl (sym c.in_ok-below.ensures ∙ c.if-not-below.false)
    (short_path path c.as_str-text.ensures.again) refl
    (sym (ap (option_map node_of) c.in-Some.is) ∙ c.in_ok-node.ensures)

pub returns-in-None-clause-found : goal.returns-in-None-clause-found
returns-in-None-clause-found c =
    let path = c.args.path.now in
    let owner = c.args.tree.now.owner in
    none_shown owner c.args.tree.now.log path c.args.shown (shown_root path.owner c.args.shown.time) (old_path owner path)
    refl (sym c.in_ok-below.ensures ∙ c.if-not-below.false)
    (short_path path c.as_str-text.ensures.again) refl
    (sym (ap (option_map node_of) c.in-None.is) ∙ c.in_ok-node.ensures)
