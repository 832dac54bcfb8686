use Rattle.std.proofs.Common.{◌≡◌, ◌++◌, append_assoc, ap, ◌∙◌, codes}
use Rattle.up_names.specs.Texts.{Text}
use Rattle.up_storm.proofs.Saying.{on_ok_then}
use Rattle.up_storm.specs.Logs.{logged}
use Rattle.up_storm.specs.Telling.{sessions_text}
use Rattle.up_storm.proofs.telling.say_behind.Goals as goal

pub returns : goal.returns
returns c =
    let before : Text = c.args.out.now.items in
    let log : Text = logged (codes "b@storm.example") c.args.second.now in
    let rest : Text = sessions_text 0 c.args.said.now in
    on_ok_then c.say_sessions.result (c.say_sessions.new.out.items ≡ c.say_log.new.out.items ++ rest) (c.say_sessions.new.out.items ≡ before ++ (log ++ rest))
    (λ same. same ∙ ap (λ (t : Text). t ++ rest) c.in_ok-say_log.ensures ∙ append_assoc before log rest) c.say_sessions.ensures
