use Rattle.std.proofs.Common.{◌≡◌, ◌<◌, ◌^◌, ℕ, List, length, take, IfSome, ap, sym, subst, ◌∙◌, arith}
use Rattle.std.proofs.lemmas.Grind.{common_steps}
use Rattle.std.specs.List.{AllByRecursion}
use Rattle.up_disk.specs.Disk.{LeavesOnly}
use Rattle.up_journal.specs.Kept.{sizes_of}
use Rattle.up_journal.specs.Moving.{IsCopied, IsOver, IsSwitched, IsTooLong, KeepUpTo}
use Rattle.up_journal.specs.declared.limits.Span.{Span}
use Rattle.up_journal.proofs.Copies.{below_all, copied_by, copied_named, full_named, image_told, moving_by, over_by}
use Rattle.up_journal.proofs.moves.copy.Goals as goal

pub returns-in-Err-clause-full : goal.returns-in-Err-clause-full
returns-in-Err-clause-full g c n is =
    let d = g.D.Disk in
    let old = c.args.old.now in
    let limits = c.args.limits in
    let spans = c.in_ok-spans.spans.items in
    let over = subst (λ (ss : List Span). IsTooLong limits (sizes_of ss) c.in-Err.records) c.deref.ensures.value c.in-Err.ensures.over in
    subst (λ (k : ℕ). IfSome (d.content old) (IsOver limits k)) (full_named c.in-Err.records n is)
    (over_by limits (d.content old) (d.size_of old) c.in-Err.records spans (g.met.D.Disk.sized old) c.in_ok-spans.ensures.log c.in_ok-spans.ensures.within over)

pub gathered-requires-clause-fitting : goal.gathered-requires-clause-fitting
gathered-requires-clause-fitting g c =
    subst (λ (ss : List Span). AllByRecursion (λ (size : ℕ). size < 2 ^ 32) (sizes_of ss)) (sym c.deref-2.ensures.value) (below_all c.args.limits.largest (sizes_of c.in_ok-spans.spans.items) c.requires.largest c.in_ok-spans.ensures.fitting)

pub write_image-requires-clause-named : goal.write_image-requires-clause-named
write_image-requires-clause-named g c = ap (λ (l : List ℕ). take 8 l) c.deref-3.ensures.value ∙ c.in_ok-image.ensures.named

pub returns-in_err-write_image-clause-crash : goal.returns-in_err-write_image-clause-crash
returns-in_err-write_image-clause-crash g c only unnamed =
    let d = g.D.Disk in
    let old = c.args.old.now in
    let image = c.in_ok-image.image.items in
    let spans = c.in_ok-spans.spans.items in
    let e = c.in_ok-spans.ensures in
    let made = image_told (d.content old) (d.content c.old_spans.new.disk) image spans c.deref-2.result.now c.old_spans.ensures.read.same c.deref-2.ensures.value c.in_ok-image.ensures.image in
    moving_by d c.args.new.now c.write_image.new.disk c.args.limits (d.content old) (d.size_of old) spans image c.requires (g.met.D.Disk.sized old) e.log e.within e.fitting made
    (subst (λ (l : List ℕ). LeavesOnly d.moment d.left_since c.args.new.now c.write_image.new.disk (IsSwitched l)) c.deref-3.ensures.value (c.write_image.ensures.any_moment only unnamed))

pub returns-clause-copied : goal.returns-clause-copied
returns-clause-copied g c n is =
    let d = g.D.Disk in
    let old = c.args.old.now in
    let limits = c.args.limits in
    let image = c.in_ok-image.image.items in
    let spans = c.in_ok-spans.spans.items in
    let e = c.in_ok-spans.ensures in
    let made = image_told (d.content old) (d.content c.old_spans.new.disk) image spans c.deref-2.result.now c.old_spans.ensures.read.same c.deref-2.ensures.value c.in_ok-image.ensures.image in
    let kept = subst (λ (ss : List Span). KeepUpTo limits (sizes_of ss) (length ss)) c.deref.ensures.value c.in-Ok.ensures.kept in
    let count = c.len.ensures ∙ sym c.deref.ensures.len ∙ ap (λ (ss : List Span). length ss) c.deref.ensures.value in
    let written = subst (λ (l : List ℕ). IfSome (d.content c.write_image.new.disk) (λ bytes. bytes ≡ l)) c.deref-3.ensures.value c.in_ok-write_image.ensures.content in
    subst (λ (k : ℕ). IfSome (d.content old) (λ bytes. IsCopied d limits k bytes c.write_image.new.disk)) (copied_named c.len.result n is)
    (copied_by d c.write_image.new.disk limits (d.content old) (d.size_of old) c.len.result spans image c.requires (g.met.D.Disk.sized old) e.log e.within e.fitting kept made count written c.in_ok-write_image.ensures.durable)

pub returns-clause-crash : goal.returns-clause-crash
returns-clause-crash g c only unnamed =
    let d = g.D.Disk in
    let old = c.args.old.now in
    let image = c.in_ok-image.image.items in
    let spans = c.in_ok-spans.spans.items in
    let e = c.in_ok-spans.ensures in
    let made = image_told (d.content old) (d.content c.old_spans.new.disk) image spans c.deref-2.result.now c.old_spans.ensures.read.same c.deref-2.ensures.value c.in_ok-image.ensures.image in
    moving_by d c.args.new.now c.write_image.new.disk c.args.limits (d.content old) (d.size_of old) spans image c.requires (g.met.D.Disk.sized old) e.log e.within e.fitting made
    (subst (λ (l : List ℕ). LeavesOnly d.moment d.left_since c.args.new.now c.write_image.new.disk (IsSwitched l)) c.deref-3.ensures.value (c.write_image.ensures.any_moment only unnamed))

pub returns-in_err-spans-clause-crash : goal.returns-in_err-spans-clause-crash
returns-in_err-spans-clause-crash g c = grind (arith, common_steps)
