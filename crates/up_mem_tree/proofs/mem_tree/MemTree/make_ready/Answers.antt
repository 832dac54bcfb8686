use Rattle.std.proofs.Common.{subst, sym}
use Rattle.up_mem_tree.specs.Groups.{AreGroupChanges}
use Rattle.up_mem_tree.specs.MemTrees.{IsMemTree, TreeLog}
use Rattle.up_log_tree.specs.Fits.{Fits}
use Rattle.up_mem_tree.proofs.Othered.{named_more}
use Rattle.up_mem_tree.proofs.Readied.{made, not_made, same_others}
use Rattle.up_mem_tree.proofs.Within.{same_stands}
use Rattle.up_mem_tree.proofs.mem_tree.MemTree.make_ready.Goals as goal

pub invariant_of-self-in-Ok : goal.invariant_of-self-in-Ok
invariant_of-self-in-Ok c =
    let e = c.in-Ok.ensures in
    let old = c.self.inside.kept in
    let new = c.made_known.new.kept in
    let groups = c.reserve_one.new.positions in
    let fits : Fits old.owner old.log.items c.args.rec = subst (λ (v : TreeLog). Fits v.owner v.log c.args.rec) (sym c.self.view_is) c.requires in
    let grouped : AreGroupChanges old.log.items groups.items = subst (AreGroupChanges old.log.items) (sym c.reserve_one.ensures.items) c.self.invariant.grouped in
    let others = c.made_known.new.others in
    subst (IsMemTree new c.made_known.new.changes_below.items groups others) (sym c.hold-in-Ok.ensures)
    (made old new c.made_known.new.changes_below.items groups others c.args.rec c.in-Ok.ready e.same c.self.invariant.stands e.noted grouped c.in_default.ensures.room fits e.rec e.enters e.notes
    (named_more old.owner c.self.inside.others others old.log.items e.kept c.self.invariant.others) e.others)

pub invariant_of-self-in-Err-made_known : goal.invariant_of-self-in-Err-made_known
invariant_of-self-in-Err-made_known c =
    let e = c.in-Err-made_known.ensures in
    let old = c.self.inside.kept in
    let new = c.made_known.new.kept in
    let groups = c.reserve_one.new.positions in
    let grouped : AreGroupChanges old.log.items groups.items = subst (AreGroupChanges old.log.items) (sym c.reserve_one.ensures.items) c.self.invariant.grouped in
    let others = c.made_known.new.others in
    subst (IsMemTree new c.made_known.new.changes_below.items groups others) (sym c.hold.ensures)
    (not_made new c.made_known.new.changes_below.items groups others (same_stands old new e.same c.self.invariant.stands) e.noted (subst (λ log. AreGroupChanges log groups.items) (sym e.same.log) grouped)
    (same_others old new others e.same (named_more old.owner c.self.inside.others others old.log.items e.kept c.self.invariant.others)))
