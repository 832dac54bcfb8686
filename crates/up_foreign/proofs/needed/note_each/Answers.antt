use Rattle.std.proofs.Common.{refl, sym, ap, ◌∙◌}
use Rattle.std.specs.Map.{keys_of}
use Rattle.std.specs.Option.{option_copied}
use Rattle.up_log_tree.specs.Trees.{tree_of}
use Rattle.up_foreign.specs.Foreign.{in_tree, needed_in}
use Rattle.up_foreign.proofs.PlaceLemmas.{each_next, key_owned}
use Rattle.up_foreign.proofs.needed.note_each.Goals as goal

pub loop-i-init : goal.loop-i-init
loop-i-init c = (c.requires.noted, refl)

pub note_now-requires-clause-owned : goal.note_now-requires-clause-owned
note_now-requires-clause-owned c = key_owned c.args.tree.now.owner (keys_of c.args.paths.now.entries) c.loop-i.i c.in-Some.path.now c.requires.owned (sym (ap option_copied c.in-Some.is) ∙ c.key_at.ensures)

-- one path more
pub loop-i-preserved : goal.loop-i-preserved
loop-i-preserved c = (
  c.in_ok-note_now.ensures.noted,
  each_next (needed_in c.args.tree.now.owner c.args.loaded.now) (in_tree (tree_of c.args.tree.now.log)) (keys_of c.args.paths.now.entries) c.args.names.now c.loop-i.names c.note_now.new.names c.loop-i.i c.in-Some.path.now
      (sym (ap option_copied c.in-Some.is) ∙ c.key_at.ensures) c.loop-i.invariant.1 c.in_ok-note_now.ensures.added,
)
