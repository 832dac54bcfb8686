use Rattle.std.proofs.Common.{◌≡◌, ◌-◌, ◌+◌, ◌<◌, Some, refl, sym, subst, ap, ◌∙◌, arith}
use Rattle.std.specs.Option.{option_copied}
use Rattle.up_names.specs.PathNames.{cut}
use Rattle.up_mem_tree.specs.Kept.{paths_of, slots_of}
use Rattle.up_mem_tree.specs.Slots.{IsDeepest}
use Rattle.up_log_tree.specs.Trees.{tree_at}
use Rattle.up_mem_tree.proofs.Governing.{dir_found, dir_none, text_found, text_none}
use Rattle.up_mem_tree.proofs.Upward.{never, no_text_at_all, no_text_below, none_from_root, none_higher, up_to}
use Rattle.up_mem_tree.proofs.kept.Kept.nearest_at.Goals as goal

pub loop-up-init : goal.loop-up-init
loop-up-init c =
    let self = c.args.self.now in
    let path = c.args.path.now in
    let deep = subst (IsDeepest (paths_of self) (slots_of self) path) c.in-Some.is c.deepest.ensures in
    let some = deep.some c.in-Some.depth c.in-Some.deepest refl in
    let whole : c.in-Some.depth - 0 ≡ c.in-Some.depth = omega arith in (
      omega arith,
      some.0,
      some.1 ∙ ap (λ m. Some (cut m path)) (sym whole),
      λ m lt le. no_text_below self c.requires.stands path c.args.n c.in-Some.depth c.in-Some.deepest deep m (omega (arith, lt)) le,
    )

pub returns-in-Some-access_in-clause-text : goal.returns-in-Some-access_in-clause-text
returns-in-Some-access_in-clause-text c =
    let self = c.args.self.now in
    let path = c.args.path.now in
    let i = c.loop-up.invariant in
    text_found self.owner (tree_at self.log.items c.args.n) path (c.in-Some.depth - c.loop-up.up) c.in-Some-access_in.text.now (omega (arith, i.0, i.1))
    (sym (c.in-Some-access_in.ensures (cut (c.in-Some.depth - c.loop-up.up) path) i.2)) i.3

pub returns-in-Some-access_in-clause-dir : goal.returns-in-Some-access_in-clause-dir
returns-in-Some-access_in-clause-dir c =
    let self = c.args.self.now in
    let path = c.args.path.now in
    let i = c.loop-up.invariant in
    dir_found self.owner (tree_at self.log.items c.args.n) path (c.in-Some.depth - c.loop-up.up) c.in-Some-access_in.text.now (omega (arith, i.0, i.1))
    (sym (c.in-Some-access_in.ensures (cut (c.in-Some.depth - c.loop-up.up) path) i.2)) i.3

pub unreachable-requires : goal.unreachable-requires
unreachable-requires c =
    let self = c.args.self.now in
    let path = c.args.path.now in
    let i = c.loop-up.invariant in
    let m = c.in-Some.depth - c.loop-up.up in
    never self c.requires.stands path m c.loop-up.id (omega (arith, c.loop-up-test.true)) (omega (arith, i.0, i.1)) i.2 c.id_above.result (c.id_above.ensures (cut m path) i.2) c.in_default-id_above.is

pub loop-up-preserved : goal.loop-up-preserved
loop-up-preserved c =
    let self = c.args.self.now in
    let path = c.args.path.now in
    let i = c.loop-up.invariant in
    let m = c.in-Some.depth - c.loop-up.up in
    let positive : 0 < m = omega (arith, c.loop-up-test.true) in
    let less : m - 1 ≡ c.in-Some.depth - (c.loop-up.up + 1) = omega arith in
    let here = sym (c.access_in.ensures (cut m path) i.2) ∙ ap option_copied c.in_default-access_in.is in (
      omega (arith, c.loop-up-test.true),
      i.1,
      up_to self c.requires.stands path m c.loop-up.id positive (omega (arith, i.0, i.1)) i.2 c.id_above.result (c.id_above.ensures (cut m path) i.2) c.in-Some-id_above.above c.in-Some-id_above.is
          ∙ ap (λ k. Some (cut k path)) less,
      λ k lt le. none_higher self c.requires.stands path c.args.n m positive here i.3 k (omega (arith, lt, less)) le,
    )

pub returns-in-Some-access_in-2-clause-text : goal.returns-in-Some-access_in-2-clause-text
returns-in-Some-access_in-2-clause-text c =
    let self = c.args.self.now in
    let path = c.args.path.now in
    let i = c.loop-up.invariant in
    let root : c.in-Some.depth - c.loop-up.up ≡ 0 = omega (arith, c.loop-up-test.false) in
    text_found self.owner (tree_at self.log.items c.args.n) path 0 c.in-Some-access_in-2.text.now (omega arith)
    (sym (c.in-Some-access_in-2.ensures (cut 0 path) (i.2 ∙ ap (λ m. Some (cut m path)) root))) (λ k lt le. i.3 k (omega (arith, lt, root)) le)

pub returns-in-Some-access_in-2-clause-dir : goal.returns-in-Some-access_in-2-clause-dir
returns-in-Some-access_in-2-clause-dir c =
    let self = c.args.self.now in
    let path = c.args.path.now in
    let i = c.loop-up.invariant in
    let root : c.in-Some.depth - c.loop-up.up ≡ 0 = omega (arith, c.loop-up-test.false) in
    dir_found self.owner (tree_at self.log.items c.args.n) path 0 c.in-Some-access_in-2.text.now (omega arith)
    (sym (c.in-Some-access_in-2.ensures (cut 0 path) (i.2 ∙ ap (λ m. Some (cut m path)) root))) (λ k lt le. i.3 k (omega (arith, lt, root)) le)

pub returns-in-None-clause-text : goal.returns-in-None-clause-text
returns-in-None-clause-text c =
    let self = c.args.self.now in
    let path = c.args.path.now in
    let i = c.loop-up.invariant in
    let root : c.in-Some.depth - c.loop-up.up ≡ 0 = omega (arith, c.loop-up-test.false) in
    text_none self.owner (tree_at self.log.items c.args.n) path
    (none_from_root self c.requires.stands path c.args.n (c.in-Some.depth - c.loop-up.up) root (sym (c.in-None.ensures (cut (c.in-Some.depth - c.loop-up.up) path) i.2)) i.3)

pub returns-in-None-clause-dir : goal.returns-in-None-clause-dir
returns-in-None-clause-dir c =
    let self = c.args.self.now in
    let path = c.args.path.now in
    let i = c.loop-up.invariant in
    let root : c.in-Some.depth - c.loop-up.up ≡ 0 = omega (arith, c.loop-up-test.false) in
    dir_none self.owner (tree_at self.log.items c.args.n) path
    (none_from_root self c.requires.stands path c.args.n (c.in-Some.depth - c.loop-up.up) root (sym (c.in-None.ensures (cut (c.in-Some.depth - c.loop-up.up) path) i.2)) i.3)

pub returns-in_default-clause-text : goal.returns-in_default-clause-text
returns-in_default-clause-text c =
    let self = c.args.self.now in
    text_none self.owner (tree_at self.log.items c.args.n) c.args.path.now
    (no_text_at_all self c.requires.stands c.args.path.now c.args.n (subst (IsDeepest (paths_of self) (slots_of self) c.args.path.now) c.in_default.is c.deepest.ensures))

pub returns-in_default-clause-dir : goal.returns-in_default-clause-dir
returns-in_default-clause-dir c =
    let self = c.args.self.now in
    dir_none self.owner (tree_at self.log.items c.args.n) c.args.path.now
    (no_text_at_all self c.requires.stands c.args.path.now c.args.n (subst (IsDeepest (paths_of self) (slots_of self) c.args.path.now) c.in_default.is c.deepest.ensures))
