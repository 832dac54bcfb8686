use Rattle.std.proofs.Common.{ap, sym, ◌∙◌}
use Rattle.std.specs.Prelude.{option_map}
use Rattle.std.proofs.lemmas.Result.{IfOk-weaker}
use Rattle.up_list.specs.Reads.{file_text}
use Rattle.up_snap.specs.Standing.{standing_node}
use Rattle.up_snap.proofs.look.text_at.Goals as goal

pub returns-in-Some : goal.returns-in-Some
returns-in-Some c =
    let tree = c.args.tree.now in
    let path = c.args.path.now in
    let same = ap file_text (sym (ap (option_map (standing_node tree.owner path)) c.in-Some.is) ∙ c.in_ok-found.ensures.found) in
    IfOk-weaker c.text.result _ _ (λ text e. e tree.owner path ∙ same) c.text.ensures

pub returns-in-None : goal.returns-in-None
returns-in-None c =
    let tree = c.args.tree.now in
    ap file_text (sym (ap (option_map (standing_node tree.owner c.args.path.now)) c.in-None.is) ∙ c.in_ok-found.ensures.found)
