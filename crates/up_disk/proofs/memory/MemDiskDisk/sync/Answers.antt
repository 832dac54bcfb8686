use Rattle.std.proofs.Common.{◌≡◌, ◌+◌, length, Some, arith, rules, sym, subst, ◌∙◌, ap, refl}
use Rattle.up_disk.proofs.Kept.{pushed, kept_to, elapses_to, length_pushed, synced_more, synced_only, image_synced}
use Rattle.up_disk.specs.Image.{landing_of}
use Rattle.up_disk.specs.Pending.{MayLeave, synced_calls}
use Rattle.up_disk.specs.MemoryLaws.{leaves_bytes}
use Rattle.up_disk.proofs.memory.MemDiskDisk.sync.Goals as goal

pub invariant_of-self-2 : goal.invariant_of-self-2
invariant_of-self-2 c =
    let self = c.args.self.now in
    let more = pushed self.calls.items _ _ _ c.push_reserved.ensures.items c.in_ok-begin.ensures.items in
    let longer = length_pushed self.calls.items _ _ more in
    record {
      kept = kept_to self.first self.bytes.items self.bytes.items self.calls.items _ _ more self.kept refl;
      counted = (let count : c.len-self.result ≡ length self.calls.items + 1 = omega (arith, longer) in count) ∙ sym (synced_more self.calls.items) ∙ ap synced_calls (sym more);
      within = omega (arith, c.len-self.ensures);
    }

pub returns : goal.returns
returns c =
    let self = c.args.self.now in
    let more = pushed self.calls.items _ _ _ c.push_reserved.ensures.items c.in_ok-begin.ensures.items in
    record {
      durable = λ image left. ap Some (sym (synced_only self.first self.bytes.items self.calls.items _ more self.kept image left));
      content = refl;
      size = refl;
      crash = λ image left. subst (MayLeave self.first self.first self.calls.items) (sym (synced_only self.first self.bytes.items self.calls.items _ more self.kept image left)) (leaves_bytes self.first self.bytes.items self.calls.items self.kept);
      time = elapses_to self.first self.calls.items _ _ more;
      cause = search rules;
      quiet = search rules;
      called = c.in_ok-begin.ensures.called;
      only_listed = tt;
      lands = record { content = refl; images = λ choice. ap Some (image_synced (landing_of choice) self.first self.bytes.items self.calls.items _ more self.kept) };
      untouched = tt;
    }
