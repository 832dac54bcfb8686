use Rattle.std.proofs.Common.{◌≡◌, Some, None, sym, ap, ◌∙◌}
use Rattle.std.specs.Option.{option_copied}
use Rattle.up_answers.specs.Answers.{log_owner}
use Rattle.up_host.specs.Alone.{tree_for}
use Rattle.up_host.specs.Peers.{text_by}
use Rattle.up_host.proofs.PlaceLemmas.{found_is}
use Rattle.up_host.proofs.host.Host.text_of.Goals as goal

pub text_in-requires : goal.text_in-requires
text_in-requires g c =
    sym (found_is c.deref.result.now c.args.owner.now c.in-Some.held.now (sym c.tree_of.ensures ∙ ap option_copied c.in-Some.is) ∙ c.requires)

pub returns-in-Some : goal.returns-in-Some
returns-in-Some g c = λ n.
    let trees = c.deref.ensures.value ∙ ap (λ h. h.trees) c.self.view_is in
    let found : tree_for c.args.self.now.trees (log_owner c.args.path.now.owner) ≡ Some c.in-Some.held.now =
    sym (ap (λ ts. tree_for ts (log_owner c.args.path.now.owner)) trees) ∙ sym (ap (tree_for c.deref.result.now) c.requires) ∙ sym c.tree_of.ensures ∙ ap option_copied c.in-Some.is in
    c.text_in.ensures n ∙ ap (λ t. text_by t c.args.asker.now c.args.path.now) (sym found)

pub returns-in-None : goal.returns-in-None
returns-in-None g c = λ n.
    let trees = c.deref.ensures.value ∙ ap (λ h. h.trees) c.self.view_is in
    let found : tree_for c.args.self.now.trees (log_owner c.args.path.now.owner) ≡ None =
    sym (ap (λ ts. tree_for ts (log_owner c.args.path.now.owner)) trees) ∙ sym (ap (tree_for c.deref.result.now) c.requires) ∙ sym c.tree_of.ensures ∙ ap option_copied c.in-None.is in
    c.elsewhere.ensures ∙ ap (λ t. text_by t c.args.asker.now c.args.path.now) (sym found)
