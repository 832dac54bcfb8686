use Rattle.std.proofs.Common.{ap, sym, ◌∙◌}
use Rattle.std.specs.Option.{option_copied}
use Rattle.up_keys.proofs.Putting.{lookup_none, lookup_some}
use Rattle.up_keys.proofs.keys.Keys.lookup.Goals as goal

pub returns-in_default : goal.returns-in_default
returns-in_default g c =
    let i = c.self.inside in
    rw (← c.self.view_is) (sym (lookup_none i.records.items i.last.entries c.args.user.now c.self.invariant.last_are (sym c.get.ensures ∙ ap option_copied c.in_default.is)))

pub returns : goal.returns
returns g c =
    let i = c.self.inside in
    rw (← c.self.view_is) (c.record_at.ensures ∙ sym (lookup_some i.records.items i.last.entries c.args.user.now c.in-Some.number.now c.self.invariant.last_are (sym c.get.ensures ∙ ap option_copied c.in-Some.is)))
