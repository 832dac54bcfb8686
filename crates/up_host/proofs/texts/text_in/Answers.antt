use Rattle.std.proofs.Common.{◌≡◌, false, sym, ◌∙◌, bytes_eq}
use Rattle.up_calls.proofs.GroupTextLemmas.{no_group}
use Rattle.up_host.proofs.OldTextLemmas.{old_text_given}
use Rattle.up_host.proofs.texts.text_in.Goals as goal
use Rattle.up_tree.specs.States.{log_of}

pub returns-then-not-is_group : goal.returns-then-not-is_group
returns-then-not-is_group g c = λ n.
    sym (no_group (log_of c.args.state.now) c.args.asker.now c.args.path.now c.as_str-text.ensures.again (sym c.is_group.ensures ∙ c.if-not-is_group.true))

pub returns-in-Ok : goal.returns-in-Ok
returns-in-Ok g c = λ n.
    let other : bytes_eq c.args.path.now.owner c.args.state.now.owner ≡ false = let a = c.eq.ensures in let b = c.owner.ensures in let d = c.owner-2.ensures in let e = c.if-eq.false in cc in
    old_text_given (log_of c.args.state.now) c.args.asker.now c.args.path.now c.as_str-text.ensures.again c.memory.result.now.owner c.memory.result.now.log c.in-Ok.reply c.bounded.result
    c.memory.ensures.owner c.memory.ensures.log c.in-Ok.ensures c.bounded.ensures (sym c.is_group.ensures ∙ c.if-not-is_group.false) (other, c.requires)
