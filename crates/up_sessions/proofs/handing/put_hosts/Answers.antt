use Rattle.std.proofs.Common.{◌≡◌, ◌++◌, ◌∷◌, ap, append-nil, length, sym, ◌∙◌}
use Rattle.std.specs.List.{flat_map}
use Rattle.up_host.specs.Opens.{LeavesHost, disks_of}
use Rattle.up_sessions.proofs.HandingLemmas.{all_hosts, next_disks, next_room, no_host, rest_room}
use Rattle.up_sessions.proofs.handing.put_hosts.Goals as goal

pub put_all-requires : goal.put_all-requires
put_all-requires g c =
    next_room c.loop-host.left.items c.next_of.new.left.items c.in-Some.host c.in-Some.ensures c.into_disks.result.disks c.loop-host.disks.spare c.into_disks.ensures.disks c.loop-host.invariant.room

pub loop-host-preserved : goal.loop-host-preserved
loop-host-preserved g c =
    let rest = c.next_of.new.left.items in
    let items : c.loop-host.left.items ≡ c.in-Some.host ∷ c.next_of.new.left.items = c.in-Some.ensures in
    record {
      disks = next_disks c.loop-host.left.items rest c.in-Some.host items c.loop-host.disks.disks c.put_all.new.disks.disks c.into_disks.result.disks _ c.into_disks.ensures.disks c.put_all.ensures.disks c.loop-host.invariant.disks;
      safe = λ all. c.loop-host.invariant.safe (all_hosts c.loop-host.left.items rest c.in-Some.host items (LeavesHost g.D.Disk) c.into_disks.ensures.safe all);
      room = rest_room c.loop-host.left.items rest c.in-Some.host items c.into_disks.result.disks c.loop-host.disks.spare c.put_all.new.disks.spare c.into_disks.ensures.disks c.put_all.ensures.spare c.loop-host.invariant.room;
    }

pub returns-in_default-clause-safe : goal.returns-in_default-clause-safe
returns-in_default-clause-safe g c =
    c.loop-host.invariant.safe (no_host (LeavesHost g.D.Disk) c.loop-host.left.items (ap length c.in_default.ensures))

pub returns-in_default-clause-disks : goal.returns-in_default-clause-disks
returns-in_default-clause-disks g c =
    sym (append-nil c.loop-host.disks.disks) ∙ ap (λ hosts. c.loop-host.disks.disks ++ flat_map disks_of hosts) (sym c.in_default.ensures) ∙ c.loop-host.invariant.disks
