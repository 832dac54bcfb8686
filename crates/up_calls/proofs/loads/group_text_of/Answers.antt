use Rattle.std.proofs.Common.{◌≡◌, [], sym, ap, ◌∙◌}
use Rattle.up_calls.proofs.GroupTextLemmas.{group_text_is, no_group}
use Rattle.up_calls.proofs.loads.group_text_of.Goals as goal
use Rattle.up_list.specs.Looks.{look_now}
use Rattle.up_list.specs.Reads.{group_text_reply}
use Rattle.up_tree.specs.States.{log_of}
use Rattle.up_wire.specs.Bounds.{bounded}

pub returns-then-not-is_group : goal.returns-then-not-is_group
returns-then-not-is_group g c = λ n.
    sym (no_group (log_of c.args.state.now) c.args.user.now c.args.path.now c.as_str-text.ensures.again (sym c.is_group.ensures ∙ c.if-not-is_group.true))

pub returns-in-Ok : goal.returns-in-Ok
returns-in-Ok g c = λ n.
    let look : c.new-look.result ≡ look_now (log_of c.args.state.now) [] c.args.user.now =
    let a = c.new-look.ensures in let b = c.memory.ensures.owner in let d = c.memory.ensures.log in let e = c.new-nothing.ensures in cc
    in
    c.bounded.ensures ∙ ap bounded (c.in-Ok.ensures ∙ ap (λ l. group_text_reply l c.args.path.now) look)
    ∙ sym (group_text_is (log_of c.args.state.now) c.args.user.now c.args.path.now c.as_str-text.ensures.again (sym c.is_group.ensures ∙ c.if-not-is_group.false) c.requires)
