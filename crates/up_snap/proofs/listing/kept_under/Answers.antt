use Rattle.std.proofs.Common.{filter, map, ap, sym, ◌∙◌}
use Rattle.std.specs.Option.{option_copied, option_map}
use Rattle.up_list.specs.Founds.{entry_found}
use Rattle.up_mem_tree.specs.Slots.{named_paths}
use Rattle.up_log_tree.specs.Trees.{is_parent}
use Rattle.up_snap.specs.Listed.{kept_entry}
use Rattle.up_snap.proofs.ListedLemmas.{made_all, made_step}
use Rattle.up_snap.proofs.listing.kept_under.Goals as goal

pub loop-i-init : goal.loop-i-init
loop-i-init c = ap (map entry_found) c.new-items.ensures.items

pub returns-in_default : goal.returns-in_default
returns-in_default c =
    let tree = c.args.tree.now in
    made_all (kept_entry tree.log c.args.dir.now c.args.n) (filter (is_parent c.args.old.now) (named_paths tree.log)) c.loop-i.i (map entry_found c.loop-i.items.items)
    (sym c.named.ensures ∙ ap option_copied c.in_default.is) c.loop-i.invariant

pub loop-i-preserved : goal.loop-i-preserved
loop-i-preserved c =
    let tree = c.args.tree.now in
    made_step (kept_entry tree.log c.args.dir.now c.args.n) (filter (is_parent c.args.old.now) (named_paths tree.log)) c.loop-i.i c.in-Some.path.now (option_map entry_found c.in_ok-found.found) (map entry_found c.loop-i.items.items) _
    (sym c.named.ensures ∙ ap option_copied c.in-Some.is) c.in_ok-found.ensures c.loop-i.invariant c.in_ok-push_found.ensures
