-- The disks of the hosts were put behind the free ones, which are then turned to the end.
use Rattle.std.specs.List.{flat_map}
use Rattle.up_host.specs.Opens.{disks_of}
use Rattle.up_sessions.proofs.HandingLemmas.{in_front, no_shorter}
use Rattle.up_sessions.proofs.sessions.Sessions.into_disks.Goals as goal

pub put_hosts-requires : goal.put_hosts-requires
put_hosts-requires g c = c.self.invariant.room

pub turn-requires : goal.turn-requires
turn-requires g c =
    no_shorter c.self.inside.free.disks (flat_map disks_of c.self.inside.hosts.items) c.put_hosts.new.disks.disks c.len-left.result c.put_hosts.ensures.disks c.len-left.ensures

pub returns-clause-disks : goal.returns-clause-disks
returns-clause-disks g c =
    rw (← c.self.view_is)
    (in_front c.self.inside.free.disks (flat_map disks_of c.self.inside.hosts.items) c.put_hosts.new.disks.disks c.turn.new.disks.disks c.len-left.result
    c.put_hosts.ensures.disks c.len-left.ensures c.turn.ensures.disks)

pub returns-clause-safe : goal.returns-clause-safe
returns-clause-safe g c = rw (← c.self.view_is) c.put_hosts.ensures.safe
