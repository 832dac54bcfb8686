use Rattle.std.proofs.Common.{ap, sym, subst, ◌∙◌}
use Rattle.std.specs.Prelude.{IfSome}
use Rattle.std.specs.Option.{option_copied}
use Rattle.up_mem_tree.specs.Kept.{paths_of, slots_of}
use Rattle.up_mem_tree.specs.Slots.{IsDeepest}
use Rattle.up_mem_tree.proofs.changes_below.make_room.Goals as goal

pub make_room_for-requires-clause-deepest : goal.make_room_for-requires-clause-deepest
make_room_for-requires-clause-deepest c =
    subst (λ o. IfSome o (λ path. IsDeepest (paths_of c.args.kept.now) (slots_of c.args.kept.now) path c.args.start)) (sym c.path_of_change.ensures ∙ ap option_copied c.in-Some.is) c.requires.start
