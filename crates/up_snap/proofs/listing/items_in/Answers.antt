use Rattle.std.proofs.Common.{length, map, ap, sym, ◌∙◌, arith}
use Rattle.up_list.specs.Founds.{entry_found}
use Rattle.up_log_tree.specs.Fits.{snapshot_user}
use Rattle.up_snap.specs.Shown.{first_to}
use Rattle.up_snap.proofs.KeptLemmas.{first_below, first_taken}
use Rattle.up_snap.proofs.MadeLemmas.{nothing_listed}
use Rattle.up_snap.proofs.listing.items_in.Goals as goal

pub kept_items-requires-clause-taken : goal.kept_items-requires-clause-taken
kept_items-requires-clause-taken c =
    let tree = c.args.tree.now in
    first_taken (snapshot_user tree.owner) tree.log c.args.dir.now c.in-Some.shown
    (ap (λ o. first_to o tree.log c.args.dir.now (length tree.log)) (sym c.requires) ∙ (sym c.in_ok-shown.ensures ∙ c.in-Some.is))

pub kept_items-requires-clause-below : goal.kept_items-requires-clause-below
kept_items-requires-clause-below c =
    let tree = c.args.tree.now in
    first_below (snapshot_user tree.owner) tree.log c.args.dir.now c.in-Some.shown
    (ap (λ o. first_to o tree.log c.args.dir.now (length tree.log)) (sym c.requires) ∙ (sym c.in_ok-shown.ensures ∙ c.in-Some.is))
    (let size = c.len.ensures in let long = c.if-len-lt4.false in omega (arith, size, long))

pub returns-in-None : goal.returns-in-None
returns-in-None c =
    let tree = c.args.tree.now in
    ap (map entry_found) c.new.ensures.items
    ∙ nothing_listed tree.owner tree.log c.recall.ensures.log c.args.dir.now
    (ap (λ o. first_to o tree.log c.args.dir.now (length tree.log)) (sym c.requires) ∙ (sym c.in_ok-shown.ensures ∙ c.in-None.is))
