use Rattle.std.proofs.Common.{◌≡◌, ap, sym, ◌∙◌, Some}
use Rattle.std.specs.Option.{option_and_then, option_copied, option_map}
use Rattle.up_log_tree.specs.Trees.{tree_of}
use Rattle.up_list.specs.Checks.{first_link, ways}
use Rattle.up_list.specs.Entries.{if_link}
use Rattle.up_list.specs.States.{name_of}
use Rattle.up_list.proofs.LinkLemmas.{first_link_on_way}
use Rattle.up_list.proofs.ViewLemmas.{rooted_log}
use Rattle.up_list.proofs.state.link_on_way.Goals as goal

pub returns-in_ok-clone-in-Some : goal.returns-in_ok-clone-in-Some
returns-in_ok-clone-in-Some c =
    let tree = tree_of c.args.tree.now.log in
    let met : option_copied c.link_of.result ≡ first_link tree (ways c.args.path.now) =
    c.link_of.ensures ∙ (ap (option_and_then if_link) c.standing.ensures ∙ sym (first_link_on_way c.args.tree.now.owner tree c.args.path.now (rooted_log c.args.tree.now.owner c.args.tree.now.log c.recall.ensures.log))) in
    ap Some c.in_ok-clone-in-Some.ensures.cases
    ∙ ap (option_map name_of) (sym (ap option_copied c.in-Some.is) ∙ met)

pub returns-in-None : goal.returns-in-None
returns-in-None c =
    let tree = tree_of c.args.tree.now.log in
    let met : option_copied c.link_of.result ≡ first_link tree (ways c.args.path.now) =
    c.link_of.ensures ∙ (ap (option_and_then if_link) c.standing.ensures ∙ sym (first_link_on_way c.args.tree.now.owner tree c.args.path.now (rooted_log c.args.tree.now.owner c.args.tree.now.log c.recall.ensures.log))) in
    ap (option_map name_of) (sym (ap option_copied c.in-None.is) ∙ met)
