use Rattle.std.proofs.Common.{◌≡◌, ◌≤◌, ◌+◌, [], ◌∷◌, ◌++◌, List, length, option_map, refl, sym, ◌∙◌, ap, subst, arith}
use Rattle.std.proofs.lemmas.Grind.{common_steps}
use Rattle.up_refs.specs.Sha256.{sha256}
use Rattle.up_disk.specs.Disk.{written}
use Rattle.up_journal.specs.Gates.{behind_gate}
use Rattle.up_journal.specs.Journal.{gate_behind}
use Rattle.up_journal.specs.Kept.{sizes_of}
use Rattle.up_journal.specs.declared.limits.Limits.{Limits}
use Rattle.up_journal.specs.declared.limits.Span.{Span}
use Rattle.up_journal.proofs.Appended.{Appended, Refused, appended, on_err, record_front, refused, small_by}
use Rattle.up_journal.proofs.Kept.{kept_gate, still_crash}
use Rattle.up_journal.proofs.Bases.{length-behind_gate}
use Rattle.up_journal.proofs.journal.Journal.append.Given.{Over}
use Rattle.up_journal.proofs.journal.Journal.append.Goals as goal

pub write_record-requires-clause-end : goal.write_record-requires-clause-end
write_record-requires-clause-end g c =
    let small = small_by _ c.args.self.now c.self.view_is c.self.inside.gate (length c.args.payload.now)
    (kept_gate g.D.Disk c.self.inside.disk c.self.inside.limits c.self.inside.spans.items c.self.inside.gate c.self.inside.head c.self.inside.doubtful c.self.invariant (g.met.D.Disk.sized c.self.inside.disk))
    c.self.invariant.good.device (sym c.if-would_be_full.ensures) in
    let frame : c.deref.result.now ≡ behind_gate c.self.inside.head c.args.payload.now = c.deref.ensures.value ∙ c.in_ok-behind.ensures.bytes in
    omega (arith, small, ap length frame, length-behind_gate c.self.inside.head c.args.payload.now c.self.invariant.gates.long)

pub write_record-requires-clause-sized : goal.write_record-requires-clause-sized
write_record-requires-clause-sized g c =
    let frame : c.deref.result.now ≡ behind_gate c.self.inside.head c.args.payload.now = c.deref.ensures.value ∙ c.in_ok-behind.ensures.bytes in
    omega (arith, ap length frame, length-behind_gate c.self.inside.head c.args.payload.now c.self.invariant.gates.long)

pub returns-in_err-behind-clause-crash : goal.returns-in_err-behind-clause-crash
returns-in_err-behind-clause-crash g c =
    let j = c.self.inside in
    let laws = g.met.D.Disk in
    rw (c.made_ready.ensures.spans, ← c.self.view_is)
    (still_crash g.D.Disk laws.only_now j.disk j.limits j.spans.items j.gate j.head j.doubtful c.self.invariant (laws.sized j.disk) (laws.told j.disk) c.args.payload.now)

-- what holds after a refusal of the disk
after_refusal : (g : Over) (c : goal.After-drop-behind g)
    → Refused g.D.Disk c.self.inside.disk c.write_record.new.disk c.self.inside.limits c.self.inside.spans.items c.self.inside.gate c.self.inside.head c.args.payload.now c.self.inside.doubtful c.write_record.new.doubtful
after_refusal g c =
    let j = c.self.inside in
    let laws = g.met.D.Disk in
    let w = c.write_record in
    let small = small_by _ c.args.self.now c.self.view_is c.self.inside.gate (length c.args.payload.now)
    (kept_gate g.D.Disk c.self.inside.disk c.self.inside.limits c.self.inside.spans.items c.self.inside.gate c.self.inside.head c.self.inside.doubtful c.self.invariant (g.met.D.Disk.sized c.self.inside.disk))
    c.self.invariant.good.device (sym c.if-would_be_full.ensures) in
    let frame : c.deref.result.now ≡ behind_gate c.self.inside.head c.args.payload.now = c.deref.ensures.value ∙ c.in_ok-behind.ensures.bytes in
    let fits = subst (λ (l : Limits). length c.args.payload.now ≤ l.largest) (sym (ap (λ v. v.limits) c.self.view_is)) c.requires in
    refused g.D.Disk laws.sized laws.told laws.leaves_read j.disk w.new.disk j.limits j.spans.items j.gate j.head c.args.payload.now c.deref.result.now j.doubtful c.self.invariant
    frame fits small w.ensures.told w.ensures.any_moment w.new.doubtful w.ensures.no_shorter c.in_err-write_record.ensures.doubtful c.in_err-write_record.ensures.refused

pub invariant_of-self-in_err-write_record : goal.invariant_of-self-in_err-write_record
invariant_of-self-in_err-write_record g c = rw c.made_ready.ensures.spans (after_refusal g c).kept

pub returns-in_err-write_record-clause-log : goal.returns-in_err-write_record-clause-log
returns-in_err-write_record-clause-log g c = rw (c.made_ready.ensures.spans, ← c.self.view_is) (on_err _ (after_refusal g c).log)

pub returns-in_err-write_record-clause-further : goal.returns-in_err-write_record-clause-further
returns-in_err-write_record-clause-further g c = rw (← c.self.view_is) (on_err _ (after_refusal g c).further)

pub returns-in_err-write_record-clause-crash : goal.returns-in_err-write_record-clause-crash
returns-in_err-write_record-clause-crash g c = rw (c.made_ready.ensures.spans, ← c.self.view_is) (after_refusal g c).crash

-- what holds once the record is written
after_write : (g : Over) (c : goal.After-drop-behind-2 g)
    → Appended g.D.Disk c.self.inside.disk c.write_record.new.disk c.self.inside.limits c.self.inside.spans.items c.push_reserved.new.self.items c.self.inside.gate
    (c.self.inside.gate + (37 + length c.args.payload.now)) c.of-self-inside.result c.args.payload.now c.self.inside.doubtful
after_write g c =
    let j = c.self.inside in
    let laws = g.met.D.Disk in
    let w = c.write_record in
    let small = small_by _ c.args.self.now c.self.view_is c.self.inside.gate (length c.args.payload.now)
    (kept_gate g.D.Disk c.self.inside.disk c.self.inside.limits c.self.inside.spans.items c.self.inside.gate c.self.inside.head c.self.inside.doubtful c.self.invariant (g.met.D.Disk.sized c.self.inside.disk))
    c.self.invariant.good.device (sym c.if-would_be_full.ensures) in
    let frame : c.deref.result.now ≡ behind_gate c.self.inside.head c.args.payload.now = c.deref.ensures.value ∙ c.in_ok-behind.ensures.bytes in
    let fits = subst (λ (l : Limits). length c.args.payload.now ≤ l.largest) (sym (ap (λ v. v.limits) c.self.view_is)) c.requires in
    let span : Span = record { at = j.gate + 37; size = length c.args.payload.now } in
    let more : c.push_reserved.new.self.items ≡ j.spans.items ++ span ∷ [] = c.push_reserved.ensures.items ∙ ap (λ (ss : List Span). ss ++ span ∷ []) c.made_ready.ensures.spans in
    let bytes : c.deref-2.result.now ≡ behind_gate j.head c.args.payload.now = c.deref-2.ensures.value ∙ c.in_ok-behind.ensures.bytes in
    let next = c.of-self-inside.ensures ∙ ap sha256 (record_front j.head c.args.payload.now c.deref-2.result.now c.len-2.result bytes (c.len-2.ensures ∙ sym c.deref-2.ensures.len)) in
    appended g.D.Disk laws.sized laws.told laws.leaves_read j.disk w.new.disk j.limits j.spans.items j.gate j.head c.args.payload.now c.deref.result.now j.doubtful c.self.invariant
    frame fits small w.ensures.told w.ensures.any_moment c.push_reserved.new.self.items span (j.gate + (37 + length c.args.payload.now)) c.of-self-inside.result more refl refl (omega arith) next
    c.in_ok-write_record.ensures.size c.in_ok-write_record.ensures.written

pub overflow_add-self-inside : goal.overflow_add-self-inside
overflow_add-self-inside g c =
    let small = small_by _ c.args.self.now c.self.view_is c.self.inside.gate (length c.args.payload.now)
    (kept_gate g.D.Disk c.self.inside.disk c.self.inside.limits c.self.inside.spans.items c.self.inside.gate c.self.inside.head c.self.inside.doubtful c.self.invariant (g.met.D.Disk.sized c.self.inside.disk))
    c.self.invariant.good.device (sym c.if-would_be_full.ensures) in
    omega (arith, small)

pub overflow_add-self-2 : goal.overflow_add-self-2
overflow_add-self-2 g c =
    let small = small_by _ c.args.self.now c.self.view_is c.self.inside.gate (length c.args.payload.now)
    (kept_gate g.D.Disk c.self.inside.disk c.self.inside.limits c.self.inside.spans.items c.self.inside.gate c.self.inside.head c.self.inside.doubtful c.self.invariant (g.met.D.Disk.sized c.self.inside.disk))
    c.self.invariant.good.device (sym c.if-would_be_full.ensures) in
    omega (arith, small)

pub invariant_of-self-2 : goal.invariant_of-self-2
invariant_of-self-2 g c = rw c.in_ok-write_record.ensures.settled (after_write g c).kept

pub returns-clause-appended : goal.returns-clause-appended
returns-clause-appended g c = rw (← c.self.view_is) (after_write g c).log

pub returns-clause-written : goal.returns-clause-written
returns-clause-written g c =
    let j = c.self.inside in
    let frame : c.deref.result.now ≡ behind_gate c.self.inside.head c.args.payload.now = c.deref.ensures.value ∙ c.in_ok-behind.ensures.bytes in
    rw (← c.self.view_is) (c.in_ok-write_record.ensures.content
    ∙ ap (λ place. option_map (written place (1 ∷ c.deref.result.now)) (g.D.Disk.content j.disk)) (kept_gate g.D.Disk j.disk j.limits j.spans.items j.gate j.head j.doubtful c.self.invariant (g.met.D.Disk.sized j.disk))
    ∙ ap (λ behind. option_map (written (gate_behind (sizes_of j.spans.items)) (1 ∷ behind)) (g.D.Disk.content j.disk)) frame)

pub returns-clause-crash : goal.returns-clause-crash
returns-clause-crash g c = rw (c.in_ok-write_record.ensures.settled, ← c.self.view_is) (after_write g c).crash

pub returns-clause-sizes : goal.returns-clause-sizes
returns-clause-sizes g c = grind (arith, common_steps)

pub returns-clause-head : goal.returns-clause-head
returns-clause-head g c = grind (arith, common_steps)

pub returns-clause-position : goal.returns-clause-position
returns-clause-position g c = grind (arith, common_steps)

pub slice_bounds-of-count : goal.slice_bounds-of-count
slice_bounds-of-count g c = grind (arith, common_steps)
