use Rattle.std.proofs.Common.{◌<◌, Some, length, sym, ap, subst, ◌∙◌}
use Rattle.std.proofs.lemmas.Option.{slice_get-get_or}
use Rattle.up_sessions.proofs.KeptLemmas.{kept_settled}
use Rattle.up_sessions.proofs.OpeningLemmas.{enrolled}
use Rattle.up_sessions.specs.Worlds.{Hosts}
use Rattle.up_sessions.proofs.sessions.Sessions.enrol.Goals as goal

pub returns : goal.returns
returns g c =
    let hosts = c.self.inside.hosts.items in
    let within : c.args.place < length hosts = subst (λ (a : Hosts _). c.args.place < length a.hosts) (sym c.self.view_is) c.requires.place in
    let there = slice_get-get_or hosts c.args.place c.index_mut.result.now within ∙ ap Some (sym c.index_mut.ensures.value) in
    enrolled g.D.Disk c.args.place c.args.user c.args.key c.args.self.now hosts c.self.inside.sessions.items c.self.inside.free.disks c.index_mut.result.now c.enrol.new.self c.card_of-card.result c.enrol.result (sym c.self.view_is) there
    c.card_of-card.ensures.card c.enrol.ensures.enrols c.enrol.ensures.stays

pub invariant_of-self : goal.invariant_of-self
invariant_of-self g c =
    let hosts = c.self.inside.hosts.items in
    let within : c.args.place < length hosts = subst (λ (a : Hosts _). c.args.place < length a.hosts) (sym c.self.view_is) c.requires.place in
    let there = slice_get-get_or hosts c.args.place c.index_mut.result.now within ∙ ap Some (sym c.index_mut.ensures.value) in
    kept_settled g.D.Disk hosts c.self.inside.sessions.items c.self.inside.free.spare c.args.place c.index_mut.result.now c.enrol.new.self c.self.invariant there c.enrol.ensures.stays
