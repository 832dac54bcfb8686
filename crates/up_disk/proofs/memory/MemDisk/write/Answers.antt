use Rattle.std.proofs.Common.{Some, ◌≡◌, arith, sym, ◌∙◌, ap, subst, take, length, length-take-le, List, ℕ, rules}
use Rattle.up_disk.proofs.Kept.{pushed, kept_to, leaves_to, elapses_to, length_pushed, put_within, steps_front, synced_write, image_written}
use Rattle.up_disk.specs.Image.{image_after, landed_write, landing_of}
use Rattle.up_disk.specs.Disk.{Torn, written}
use Rattle.up_disk.specs.Pending.{put_at, synced_calls}
use Rattle.up_disk.proofs.memory.MemDisk.write.Goals as goal

pub invariant_of-self-2 : goal.invariant_of-self-2
invariant_of-self-2 c =
    let self = c.args.self.now in
    let more = pushed self.calls.items _ _ _ c.push_reserved.ensures.items c.reserve.ensures.items in
    let landed : c.overwrite.new.content.items ≡ put_at c.args.at (take c.args.landed c.in_ok-whole.whole) self.bytes.items =
    (let is : c.overwrite.new.content.items ≡ written c.args.at (take c.args.landed c.args.bytes.now) self.bytes.items = search rules in
    is ∙ ap (λ (b : List ℕ). written c.args.at (take c.args.landed b) self.bytes.items) (sym c.in_ok-whole.ensures) ∙ sym (put_within c.args.at (take c.args.landed c.in_ok-whole.whole) self.bytes.items c.requires.within)) in
    let longer = length_pushed self.calls.items _ _ more in
    record {
      kept = kept_to self.first self.bytes.items c.overwrite.new.content.items self.calls.items _ _ more self.kept landed;
      counted = self.counted ∙ sym (synced_write self.calls.items _) ∙ ap synced_calls (sym more);
      within = omega (arith, self.within, longer);
    }

pub returns-clause-crash : goal.returns-clause-crash
returns-clause-crash c image left =
    let self = c.args.self.now in
    let more = pushed self.calls.items _ _ _ c.push_reserved.ensures.items c.reserve.ensures.items in
    let from = leaves_to self.first self.calls.items _ _ more image left in
    (from.0, from.1, subst (λ (b : List ℕ). Torn c.args.at (length b) from.0 image) c.in_ok-whole.ensures from.2)

pub returns-clause-time : goal.returns-clause-time
returns-clause-time c =
    let self = c.args.self.now in
    let more = pushed self.calls.items _ _ _ c.push_reserved.ensures.items c.reserve.ensures.items in
    elapses_to self.first self.calls.items _ _ more

pub returns-clause-torn : goal.returns-clause-torn
returns-clause-torn c =
    let self = c.args.self.now in
    let is : c.overwrite.new.content.items ≡ written c.args.at (take c.args.landed c.args.bytes.now) self.bytes.items = search rules in
    steps_front c.args.at (length c.args.bytes.now) (take c.args.landed c.args.bytes.now) self.bytes.items c.overwrite.new.content.items c.requires.within
    (omega (arith, length-take-le c.args.landed c.args.bytes.now c.requires.part, c.requires.part)) is

pub returns-clause-lands : goal.returns-clause-lands
returns-clause-lands c =
    let self = c.args.self.now in
    let more = pushed self.calls.items _ _ _ c.push_reserved.ensures.items c.reserve.ensures.items in
    let is : c.overwrite.new.content.items ≡ written c.args.at (take c.args.landed c.args.bytes.now) self.bytes.items = search rules in
    record {
      content = ap Some is;
      images = λ choice. image_written (landing_of choice) self.first self.calls.items _ _ more
          ∙ ap (λ (b : List ℕ). landed_write (landing_of choice) c.args.at b (image_after (landing_of choice) self.first self.first self.calls.items)) c.in_ok-whole.ensures;
    }
