use Rattle.std.proofs.Common.{sym, ap, ◌∙◌, Some}
use Rattle.std.specs.Prelude.{unwrap_or}
use Rattle.up_names.specs.PathNames.{PathName}
use Rattle.up_rights.specs.declared.Right.TheVariants as right
use Rattle.up_wire.specs.declared.replies.Reply.TheVariants.{Ok}
use Rattle.up_wire.specs.declared.replies.Done.TheVariants as done
use Rattle.up_list.specs.Checks.{check, ways}
use Rattle.up_list.specs.Entries.{entry_at}
use Rattle.up_list.specs.Globs.{rows}
use Rattle.up_list.proofs.FrontLemmas.{front_owner}
use Rattle.up_list.proofs.PassLemmas.{front_directory, rows_or_refusal}
use Rattle.up_list.proofs.globs.rows_reply.Goals as goal

pub front_refusal-requires : goal.front_refusal-requires
front_refusal-requires g c = ap (λ (p : PathName). p.owner) c.requires.front ∙ (front_owner c.args.pattern.now ∙ c.requires.owned)

pub returns-in-Some : goal.returns-in-Some
returns-in-Some g c =
    let look = g.O.Onlooker.look c.args.onlooker.now in
    let front = c.args.front in
    sym (rows_or_refusal look c.args.pattern.now (check look (ways front) front (Some right.List)) (entry_at look.tree front)
    ∙ ap (λ o. unwrap_or o (Ok (done.Rows (rows look c.args.pattern.now)))) (sym c.in_ok-refusal.ensures.refusal ∙ c.in-Some.is))

-- what stands there is no link, since links were tested, and no file
pub rows_below-requires-clause-directory : goal.rows_below-requires-clause-directory
rows_below-requires-clause-directory g c =
    let look = g.O.Onlooker.look c.args.onlooker.now in
    front_directory look c.args.front (Some right.List) (sym c.in-None.is ∙ c.in_ok-refusal.ensures.refusal)

pub rows_below-requires-clause-rooted : goal.rows_below-requires-clause-rooted
rows_below-requires-clause-rooted g c = c.in_ok-refusal.ensures.rooted c.in-None.is
