use Rattle.std.proofs.Common.{Ok, length, option_copied, sym, ap, ◌∙◌, arith}
use Rattle.up_names.specs.PathNames.{is_slash}
use Rattle.up_names.specs.UserNames.{user_of}
use Rattle.up_names.proofs.Firsts.{length-parts, none_behind}
use Rattle.up_names.proofs.Owners.{no_longer}
use Rattle.up_names.proofs.PathLaws.{path_of-root}
use Rattle.up_names.proofs.path_parts.parse_path.Goals as goal

pub parse_pieces-requires-clause-behind : goal.parse_pieces-requires-clause-behind
parse_pieces-requires-clause-behind c = omega (arith, no_longer c.cut_at_slash.result.0.now c.in_ok-owner.owner c.in_ok-owner.ensures)

pub parse_pieces-requires-clause-short : goal.parse_pieces-requires-clause-short
parse_pieces-requires-clause-short c =
    let found = sym c.cut_at_slash.ensures.behind ∙ ap option_copied c.in-Some.is in
    omega (arith, length-parts is_slash c.args.text.now c.in-Some.pieces.now found, ap length c.cut_at_slash.ensures.before)

pub returns-in_ok-root-in-None : goal.returns-in_ok-root-in-None
returns-in_ok-root-in-None c =
    let text = c.args.text.now in
    let owner = c.in_ok-owner.owner in
    let user = ap user_of (sym c.cut_at_slash.ensures.before) ∙ c.in_ok-owner.ensures in
    path_of-root text owner (omega arith) user (none_behind is_slash text (sym c.cut_at_slash.ensures.behind ∙ ap option_copied c.in-None.is))
    ∙ ap Ok (sym c.in_ok-root-in-None.ensures)
