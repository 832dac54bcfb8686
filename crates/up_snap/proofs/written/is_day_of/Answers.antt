use Rattle.std.proofs.Common.{◌/◌, sym, ◌∙◌}
use Rattle.std.proofs.lemmas.Bool.{eq-eqb}
use Rattle.up_log_tree.proofs.Paths.{some_none, some_same}
use Rattle.up_snap.proofs.ReadLemmas.{front_above}
use Rattle.up_snap.proofs.written.is_day_of.Goals as goal

pub returns-in-Some : goal.returns-in-Some
returns-in-Some c snap_user above =
    eq-eqb c.in-Some.day (c.args.time / 86400)
    (some_same c.in-Some.day (c.args.time / 86400)
    (sym c.in-Some.is ∙ c.day_of.ensures.dated c.args.time c.requires.moment (front_above c.args.path.now snap_user c.args.time c.requires.size above)))

pub returns-in-None : goal.returns-in-None
returns-in-None c snap_user above =
    absurd (some_none (c.args.time / 86400)
    (sym (c.day_of.ensures.dated c.args.time c.requires.moment (front_above c.args.path.now snap_user c.args.time c.requires.size above)) ∙ c.in-None.is))
