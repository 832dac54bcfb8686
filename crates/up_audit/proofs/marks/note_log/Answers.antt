use Rattle.std.proofs.Common.{◌≡◌, ◌+◌, ◌-◌, length, refl, ap, ◌∙◌, arith}
use Rattle.std.specs.Option.{option_copied}
use Rattle.up_audit.proofs.NoteLemmas.{notes_none, snap_next, told_all, told_next}
use Rattle.up_audit.proofs.marks.note_log.Goals as goal
use Rattle.up_audit.specs.Marks.{last_snap}

pub loop-i-init : goal.loop-i-init
loop-i-init c = record { snap = refl; notes = notes_none c.args.used.now.noted.entries }

pub note_told-requires : goal.note_told-requires
note_told-requires c =
    let e : c.loop-i.i ≡ c.loop-i.i + 1 - 1 = omega arith in
    c.loop-i.invariant.snap ∙ ap (last_snap c.args.tree.now.log) e

pub loop-i-preserved : goal.loop-i-preserved
loop-i-preserved c = record {
  snap = snap_next c.args.tree.now.log c.loop-i.i c.loop-i.snap c.snap_after-snap.result (option_copied c.rec_at.result) c.loop-i.invariant.snap c.rec_at.ensures c.snap_after-snap.ensures;
  notes = told_next c.args.tree.now.log c.loop-i.i c.loop-i.invariant.notes c.in_ok-note_told.ensures;
}

pub returns : goal.returns
returns c =
    let all : c.loop-i.i ≡ length c.args.tree.now.log = omega (arith, c.loop-i-test.false, c.loop-i.auto.i-end, c.position-i-end.ensures.count) in
    told_all c.args.tree.now.log c.loop-i.i all c.loop-i.invariant.notes
