use Rattle.std.proofs.Common.{◌≡◌, refl, sym}
use Rattle.up_script.specs.Scripts.{HostCame}
use Rattle.up_script.specs.Turns.{result_of_host}
use Rattle.up_script.proofs.OwnerLemmas.{owners_distinct, owners_plain}
use Rattle.up_script.proofs.TurnLemmas.{host_came, room_for, weaker}
use Rattle.up_script.proofs.turns.open_host.Goals as goal

pub returns-then-not-is_new : goal.returns-then-not-is_new
returns-then-not-is_new g c = (HostCame.not_new (sym c.if-not-is_new.ensures), refl)

pub open_host-opened-requires-clause-disks : goal.open_host-opened-requires-clause-disks
open_host-opened-requires-clause-disks g c = room_for g.D.Disk c.args.sessions.now c.args.host c.requires.fit (sym c.if-not-is_new.ensures) c.requires.owners

pub open_host-opened-requires-clause-owners : goal.open_host-opened-requires-clause-owners
open_host-opened-requires-clause-owners g c = owners_distinct c.args.host.owners c.requires.owners

pub open_host-opened-requires-clause-plain : goal.open_host-opened-requires-clause-plain
open_host-opened-requires-clause-plain g c = owners_plain c.args.host.owners c.requires.owners

pub returns : goal.returns
returns g c =
    weaker (λ came. came ≡ result_of_host c.args.host.name c.open_host-opened.result) (λ came. HostCame g.D.Disk c.args.limits c.args.host c.args.sessions.now came c.open_host-opened.new.self) c.args.out.now.items c.say_host_result.new.out.items c.say_host_result.result
    (λ came said. host_came g.D.Disk c.args.limits c.args.host c.args.sessions.now c.open_host-opened.new.self c.as_str.result.now c.open_host-opened.result came (sym c.if-not-is_new.ensures) c.open_host-opened.ensures c.as_str.ensures said) c.say_host_result.ensures
