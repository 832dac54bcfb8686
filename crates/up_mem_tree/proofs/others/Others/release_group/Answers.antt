use Rattle.std.proofs.Common.{Some, refl, ap, sym, ◌∙◌}
use Rattle.std.proofs.lemmas.Option.{slice_get-get_or}
use Rattle.up_mem_tree.proofs.Held.{number_in, released_at}
use Rattle.up_mem_tree.proofs.others.Others.release_group.Goals as goal

pub returns-in-Some : goal.returns-in-Some
returns-in-Some c =
    released_at c.args.gone c.args.position c.args.self.now _ c.in-Some.id c.index_mut.result.now c.release.new.self refl refl
    (slice_get-get_or c.args.self.now.named.items c.in-Some.id c.index_mut.result.now (number_in c.args.self.now c.args.group.now c.number.result c.in-Some.id c.in-Some.is c.number.ensures) ∙ ap Some (sym c.index_mut.ensures.value)) c.release.ensures.kept c.release.ensures.was
