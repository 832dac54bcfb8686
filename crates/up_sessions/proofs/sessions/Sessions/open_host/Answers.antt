use Rattle.std.proofs.Common.{◌≡◌, ◌≤◌, ◌+◌, ◌∷◌, ◌++◌, [], arith, length, refl, sym, ap, subst, ◌∙◌}
use Rattle.std.specs.List.{AllByRecursion}
use Rattle.std.specs.Vec.{vec_capacity, vec_len}
use Rattle.up_sessions.proofs.OpeningLemmas.{adds_next, hands_none, kept_next, refuses_next, when_ok}
use Rattle.up_disk.specs.Leaving.{IsBlank}
use Rattle.up_sessions.specs.Worlds.{Hosts}
use Rattle.up_sessions.specs.declared.fault.LineFault.TheVariants as line
use Rattle.up_sessions.proofs.sessions.Sessions.open_host.Goals as goal

pub returns-then-is_err : goal.returns-then-is_err
returns-then-is_err g c =
    let enough : length c.args.owners + 2 ≤ length c.self.inside.free.disks = subst (λ (a : Hosts _). length c.args.owners + 2 ≤ length a.free) (sym c.self.view_is) c.requires.disks in
    let blank : AllByRecursion (IsBlank g.D.Disk) c.self.inside.free.disks = subst (λ (a : Hosts _). AllByRecursion (IsBlank g.D.Disk) a.free) (sym c.self.view_is) c.requires.blank in
    rw (← c.self.view_is)
    (refuses_next g.D.Disk c.args.limits c.args.owners line.OutOfMemory c.self.inside.free c.self.inside.free c.self.inside.hosts.items c.reserve.new.self.items c.self.inside.sessions.items
    (hands_none g.D.Disk c.args.limits c.args.owners c.self.inside.free c.self.inside.free enough blank refl refl) c.reserve.ensures.items)

pub next_host-requires-clause-disks : goal.next_host-requires-clause-disks
next_host-requires-clause-disks g c = subst (λ (a : Hosts _). length c.args.owners + 2 ≤ length a.free) (sym c.self.view_is) c.requires.disks

pub next_host-requires-clause-blank : goal.next_host-requires-clause-blank
next_host-requires-clause-blank g c = subst (λ (a : Hosts _). AllByRecursion (IsBlank g.D.Disk) a.free) (sym c.self.view_is) c.requires.blank

pub push_reserved-requires : goal.push_reserved-requires
push_reserved-requires g c =
    let room : vec_len c.reserve.new.self + 1 ≤ vec_capacity c.reserve.new.self = when_ok c.reserve.result c.is_err.result _ c.is_err.ensures.value c.if-is_err.false c.reserve.ensures.ok in
    omega (arith, room)

pub invariant_of-self-in-Ok : goal.invariant_of-self-in-Ok
invariant_of-self-in-Ok g c =
    let later : c.push_reserved.new.self.items ≡ c.self.inside.hosts.items ++ c.in-Ok.host ∷ [] = c.push_reserved.ensures.items ∙ ap (λ hs. hs ++ c.in-Ok.host ∷ []) c.reserve.ensures.items in
    kept_next g.D.Disk c.args.limits c.args.name.now c.args.operator c.args.owners c.self.inside.free c.next_host.new.free c.in-Ok.host c.self.inside.hosts.items c.push_reserved.new.self.items c.self.inside.sessions.items
    c.in-Ok.ensures.opens later c.self.invariant

pub returns-in-Ok : goal.returns-in-Ok
returns-in-Ok g c =
    let later : c.push_reserved.new.self.items ≡ c.self.inside.hosts.items ++ c.in-Ok.host ∷ [] = c.push_reserved.ensures.items ∙ ap (λ hs. hs ++ c.in-Ok.host ∷ []) c.reserve.ensures.items in
    rw (← c.self.view_is)
    (adds_next g.D.Disk c.args.limits c.args.name.now c.args.operator c.args.owners c.self.inside.free c.next_host.new.free c.in-Ok.host c.self.inside.hosts.items c.push_reserved.new.self.items c.self.inside.sessions.items
    c.in-Ok.ensures.opens later)

pub returns-in-Err : goal.returns-in-Err
returns-in-Err g c =
    rw (← c.self.view_is)
    (refuses_next g.D.Disk c.args.limits c.args.owners c.in-Err.why c.self.inside.free c.next_host.new.free c.self.inside.hosts.items c.reserve.new.self.items c.self.inside.sessions.items
    c.in-Err.ensures.refuses c.reserve.ensures.items)
