use Rattle.std.proofs.Common.{Some, length, arith, rules, sym, ◌∙◌, ap, length-take}
use Rattle.up_disk.proofs.Kept.{pushed, kept_to, leaves_to, elapses_to, length_pushed, synced_cut, image_is_cut}
use Rattle.up_disk.specs.Image.{landing_of}
use Rattle.up_disk.specs.Pending.{synced_calls}
use Rattle.up_disk.proofs.memory.MemDiskDisk.cut.Goals as goal

pub invariant_of-self-2 : goal.invariant_of-self-2
invariant_of-self-2 c =
    let self = c.args.self.now in
    let more = pushed self.calls.items _ _ _ c.push_reserved.ensures.items c.in_ok-begin.ensures.items in
    let longer = length_pushed self.calls.items _ _ more in
    record {
      kept = kept_to self.first self.bytes.items c.truncate.new.self.items self.calls.items _ _ more self.kept c.truncate.ensures.items;
      counted = self.counted ∙ sym (synced_cut self.calls.items c.args.size) ∙ ap synced_calls (sym more);
      within = omega (arith, self.within, longer);
    }

pub returns : goal.returns
returns c =
    let self = c.args.self.now in
    let more = pushed self.calls.items _ _ _ c.push_reserved.ensures.items c.in_ok-begin.ensures.items in
    let size = ap length c.truncate.ensures.items ∙ length-take c.args.size self.bytes.items in
    record {
      cut = ap Some c.truncate.ensures.items;
      failed = tt;
      size_is = omega (arith, size, c.requires);
      no_shorter = omega (arith, size, c.requires);
      no_longer = omega (arith, size, c.requires);
      crash = λ image left. leaves_to self.first self.calls.items _ _ more image left;
      time = elapses_to self.first self.calls.items _ _ more;
      cause = search rules;
      quiet = search rules;
      called = c.in_ok-begin.ensures.called;
      only_listed = tt;
      lands = record { content = ap Some c.truncate.ensures.items; images = λ choice. image_is_cut (landing_of choice) self.first self.calls.items _ c.args.size more };
      untouched = tt;
    }
