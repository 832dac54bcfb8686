use Rattle.std.proofs.Common.{◌≡◌, ◌-◌, [], ◌∷◌, drop, length, take, sym, subst, List, ℕ}
use Rattle.up_disk.specs.Disk.{LeavesOnly, Torn, written}
use Rattle.up_journal.specs.Moving.{IsSwitched, MayStep}
use Rattle.up_journal.proofs.Switches.{cut_is, emptying, filling, first_alone, first_and_rest, switching, tail_is, then_is, zero_is, zeroing}
use Rattle.up_journal.proofs.switch.write_image.Goals as goal

pub returns-clause-any_moment : goal.returns-clause-any_moment
returns-clause-any_moment g c only unnamed =
    let d = g.D.Disk in
    let disk = c.args.disk.now in
    let image = c.args.image.now in
    let tail = take (length image - 1) (drop 1 image) in
    let is : image ≡ 85 ∷ tail = first_and_rest image c.requires.named in
    let one = cut_is (d.content disk) (d.content c.empty.new.disk) c.in_ok-empty.ensures.content in
    let two = then_is (d.content disk) (d.content c.empty.new.disk) (d.content c.write.new.disk) [] (0 ∷ []) (written 0 (0 ∷ [])) one c.in_ok-write.ensures.content zero_is in
    let three = then_is (d.content disk) (d.content c.write.new.disk) (d.content c.write-2.new.disk) (0 ∷ []) (0 ∷ tail) (written 1 tail) two c.in_ok-write-2.ensures.content (tail_is tail) in
    let emptied = emptying d disk tail only unnamed c.empty.new.disk c.empty.ensures.any_moment in
    let zeroed = zeroing d disk tail only unnamed c.empty.new.disk c.write.new.disk emptied one c.in_ok-empty.ensures.durable c.write.ensures.any_moment in
    let filled = filling d disk tail only unnamed c.write.new.disk c.write-2.new.disk (length tail) zeroed two c.in_ok-write.ensures.durable c.write-2.ensures.any_moment in
    let switched = switching d disk tail only unnamed c.write-2.new.disk c.write-3.new.disk filled three c.in_ok-write-2.ensures.durable
    (subst (λ (n : ℕ). LeavesOnly d.moment d.left_since c.write-2.new.disk c.write-3.new.disk (MayStep (Torn 0 n) (d.may_leave c.write-2.new.disk))) (first_alone image c.requires.named) c.write-3.ensures.any_moment) in
    subst (λ (l : List ℕ). LeavesOnly d.moment d.left_since disk c.write-3.new.disk (IsSwitched l)) (sym is) switched
