use Rattle.std.proofs.Common.{◌++◌, ap, append_assoc, ◌∙◌}
use Rattle.std.specs.Prelude.{codes, decimal}
use Rattle.up_command.specs.Printed.{ended}
use Rattle.up_command.proofs.saying.bad_line.Goals as goal

pub returns : goal.returns
returns c =
    c.in_ok-say_count.ensures
    ∙ ap (λ text. text ++ ended (codes "bad line " ++ decimal c.args.number)) c.new-line.ensures.items
    ∙ append_assoc (codes "bad line ") (decimal c.args.number) (codes "\n")
