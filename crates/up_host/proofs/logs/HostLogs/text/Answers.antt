use Rattle.std.proofs.Common.{◌≡◌, Some, ap, sym, ◌∙◌}
use Rattle.std.specs.Option.{option_copied}
use Rattle.up_calls.specs.Loads.{group_text_answer, load_of}
use Rattle.up_host.proofs.PlaceLemmas.{found_is}
use Rattle.up_host.proofs.TiedLemmas.{text_told}
use Rattle.up_host.specs.Alone.{tree_for}
use Rattle.up_tree.specs.States.{log_of}
use Rattle.up_host.proofs.logs.HostLogs.text.Goals as goal

pub read_text-requires : goal.read_text-requires
read_text-requires g c = sym (found_is c.deref.result.now c.owner.result.now c.in-Some.held.now (sym c.tree_of.ensures ∙ ap option_copied c.in-Some.is) ∙ c.owner.ensures)

pub returns-clause-given : goal.returns-clause-given
returns-clause-given g c =
    let trees = c.deref.ensures.value ∙ ap (λ h. h.trees) c.self.view_is in
    let found : tree_for c.args.self.now.trees c.args.name.now.owner ≡ Some c.in-Some.held.now =
    sym (ap (λ ts. tree_for ts c.args.name.now.owner) trees) ∙ sym (ap (tree_for c.deref.result.now) c.owner.ensures) ∙ sym c.tree_of.ensures ∙ ap option_copied c.in-Some.is in
    text_told g.D.Disk c.args.self.now.operator c.args.self.now c.args.name.now c.in-Some.held.now c.in_ok-answer.answer found
    (c.in_ok-answer.ensures ∙ ap (λ operator. load_of c.args.name.now.owner (group_text_answer (log_of c.in-Some.held.now.state) operator c.args.name.now)) (ap (λ h. h.operator) c.self.view_is))
