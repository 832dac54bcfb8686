use Rattle.std.proofs.Common.{ap, sym, ◌∙◌, refl}
use Rattle.std.specs.Option.{option_copied, option_map}
use Rattle.std.proofs.lemmas.Result.{IfOk-weaker}
use Rattle.up_list.specs.Entries.{entry_of}
use Rattle.up_log_tree.specs.Fits.{snapshot_user}
use Rattle.up_snap.proofs.StandingLemmas.{first_moment, first_position, told_none, told_some}
use Rattle.up_snap.proofs.listing.made_item.Goals as goal

pub item_by-requires-clause-calendar : goal.item_by-requires-clause-calendar
item_by-requires-clause-calendar c =
    first_moment c.args.tree.now.owner c.args.tree.now.log c.args.path.now (snapshot_user c.args.tree.now.owner) c.recall.ensures.log c.in-Some.shown.now (sym (ap option_copied c.in-Some.is) ∙ c.requires)

pub item_by-requires-clause-position : goal.item_by-requires-clause-position
item_by-requires-clause-position c =
    first_position c.args.tree.now.owner c.args.tree.now.log c.args.path.now (snapshot_user c.args.tree.now.owner) c.recall.ensures.log c.in-Some.shown.now (sym (ap option_copied c.in-Some.is) ∙ c.requires)

pub returns-in-Some : goal.returns-in-Some
returns-in-Some c =
    let tree = c.args.tree.now in
    let same = ap (option_map entry_of) (told_some tree.owner tree.log c.args.path.now (snapshot_user tree.owner) c.recall.ensures.log c.in-Some.shown.now refl (sym (ap option_copied c.in-Some.is) ∙ c.requires)) in
    IfOk-weaker c.item_by.result _ _ (λ found e. e ∙ same) c.item_by.ensures

pub returns-in-None : goal.returns-in-None
returns-in-None c =
    let tree = c.args.tree.now in
    ap (option_map entry_of) (told_none tree.owner tree.log c.args.path.now (snapshot_user tree.owner) c.recall.ensures.log refl (sym (ap option_copied c.in-None.is) ∙ c.requires))
