use Rattle.std.proofs.Common.{◌+◌, length, subst, ap, sym, ◌∙◌, arith}
use Rattle.std.specs.FinMap.Entries.{find}
use Rattle.std.proofs.lemmas.Result.{on_ok_weaker}
use Rattle.up_names.specs.PathNames.{PathName, cut, is_under}
use Rattle.up_names.specs.PathOrder.{path_cmp}
use Rattle.up_snap.specs.Listed.{IsNaming}
use Rattle.up_snap.proofs.MadeLemmas.{naming_less, naming_more, naming_without, sooner_some}
use Rattle.up_snap.specs.Shown.{shown_root}
use Rattle.up_snap.proofs.ReadLemmas.{not_so}
use Rattle.up_snap.proofs.UnderLemmas.{moment_length}
use Rattle.up_snap.proofs.listing.add_name.Goals as goal

pub returns-then-not-may_bear : goal.returns-then-not-may_bear
returns-then-not-may_bear c times naming =
    naming_less c.args.snap_user.now c.args.dir.now c.args.time c.args.tree.now.log times _ naming c.requires.short
    (not_so (is_under (shown_root c.args.snap_user.now c.args.time) c.args.dir.now) c.may_bear.result (c.may_bear.ensures c.args.snap_user.now) c.if-not-may_bear.true)

pub returns-in_default : goal.returns-in_default
returns-in_default c times naming =
    naming_without c.args.snap_user.now c.args.dir.now c.args.time c.args.tree.now.log times _ naming (sym c.snap_at.ensures ∙ c.in_default.is)

pub returns-then-not-is_under : goal.returns-then-not-is_under
returns-then-not-is_under c times naming =
    naming_less c.args.snap_user.now c.args.dir.now c.args.time c.args.tree.now.log times _ naming c.requires.short
    (ap (λ r. is_under r c.args.dir.now) (sym c.in_ok-root.ensures) ∙ (sym c.is_under.ensures ∙ c.if-not-is_under.true))

pub front_of-requires : goal.front_of-requires
front_of-requires c =
    let size = ap (λ (p : PathName). length p.elements) c.in_ok-root.ensures in
    let four = moment_length c.args.time in
    let len = c.len.ensures in
    let short = c.requires.short in
    omega (arith, size, four, len, short)

pub returns : goal.returns
returns c =
    let snap_user = c.args.snap_user.now in
    let dir = c.args.dir.now in
    let some = sooner_some (find path_cmp c.in_ok-name.name c.args.names.now.entries) (record { position = c.in-Some.position; time = c.args.time }) in
    on_ok_weaker c.put_first.result
    (λ put times naming.
    subst (IsNaming snap_user c.args.tree.now.log dir _) (sym (put some.0 some.1))
    (naming_more snap_user dir c.args.time c.args.tree.now.log times _ naming c.requires.short
    (ap (λ r. is_under r dir) (sym c.in_ok-root.ensures) ∙ (sym c.is_under.ensures ∙ c.if-not-is_under.false))
    c.in-Some.position (sym c.snap_at.ensures ∙ c.in-Some.is) c.in_ok-name.name
    (c.in_ok-name.ensures ∙ ap (λ n. cut (n + 1) c.in_ok-root.root) c.len.ensures ∙ ap (cut (length dir.elements + 1)) c.in_ok-root.ensures)
    some.0 some.1))
    c.put_first.ensures
