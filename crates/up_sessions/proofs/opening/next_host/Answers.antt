use Rattle.std.proofs.Common.{◌≤◌, arith, length, subst, sym}
use Rattle.std.specs.List.{AllByRecursion}
use Rattle.up_disk.specs.Leaving.{IsBlank}
use Rattle.up_sessions.proofs.BlankLemmas.{all_first}
use Rattle.up_sessions.proofs.EmptyLemmas.{handed_empty}
use Rattle.up_sessions.proofs.OpeningLemmas.{back_room, first_blank, hands_back, hands_none}
use Rattle.up_sessions.proofs.opening.next_host.Goals as goal

pub returns-in_default-clause-refuses : goal.returns-in_default-clause-refuses
returns-in_default-clause-refuses g c = hands_none g.D.Disk c.args.limits c.args.owners c.args.free.now c.take_first.new.free c.requires.disks c.requires.blank c.in_default.ensures.back c.in_default.ensures.spare

pub hand_back-requires-clause-why : goal.hand_back-requires-clause-why
hand_back-requires-clause-why g c =
    first_blank g.D.Disk c.args.limits c.args.owners c.in-Ok.given.disks c.in-Err.fault c.args.free.now.disks c.disks_for-count.result c.in-Err.ensures.refuses c.in-Ok.ensures.taken c.requires.blank

pub hand_back-requires-clause-room : goal.hand_back-requires-clause-room
hand_back-requires-clause-room g c =
    let all = c.requires.disks in
    let many = c.disks_for-count.ensures in
    let enough : c.disks_for-count.result ≤ length c.args.free.now.disks = omega (arith, all, many) in
    back_room g.D.Disk c.args.limits c.args.owners c.in-Ok.given.disks c.in-Err.fault c.args.free.now.disks c.disks_for-count.result c.take_first.new.free.spare c.args.free.now.spare c.in-Err.ensures.refuses enough c.in-Ok.ensures.taken c.in-Ok.ensures.room

pub returns-in-Err-clause-refuses : goal.returns-in-Err-clause-refuses
returns-in-Err-clause-refuses g c =
    let all = c.requires.disks in
    let many = c.disks_for-count.ensures in
    let enough : c.disks_for-count.result ≤ length c.args.free.now.disks = omega (arith, all, many) in
    hands_back g.D.Disk c.args.limits c.args.owners c.args.free.now c.take_first.new.free c.hand_back.new.free c.in-Ok.given.disks c.disks_for-count.result c.in-Err.fault c.hand_back.result c.disks_for-count.ensures enough
    c.in-Ok.ensures.taken c.in-Ok.ensures.left c.in-Ok.ensures.room c.in-Err.ensures.refuses
    (handed_empty g.D.Disk g.met.D.Disk.counts_now c.args.limits c.args.owners c.in-Ok.given.disks c.in-Err.fault (subst (AllByRecursion (IsBlank g.D.Disk)) (sym c.in-Ok.ensures.taken) (all_first (IsBlank g.D.Disk) c.disks_for-count.result c.args.free.now.disks c.requires.blank)) c.in-Err.ensures.refuses)
    c.hand_back.ensures.why c.hand_back.ensures.disks c.hand_back.ensures.spare
