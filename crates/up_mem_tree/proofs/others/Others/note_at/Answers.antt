use Rattle.std.proofs.Common.{Some, refl, ap, sym, ◌∙◌}
use Rattle.std.specs.Vec.{with_item}
use Rattle.std.proofs.lemmas.Option.{slice_get-get_or}
use Rattle.up_mem_tree.proofs.Held.{noted_at, noted_new}
use Rattle.up_mem_tree.proofs.others.Others.note_at.Goals as goal

pub returns-clause-kept : goal.returns-clause-kept
returns-clause-kept c =
    noted_at c.args.self.now _ c.args.id c.index_mut.result.now c.note.new.self refl refl
    (slice_get-get_or c.args.self.now.named.items c.args.id c.index_mut.result.now c.requires ∙ ap Some (sym c.index_mut.ensures.value)) c.note.ensures.kept c.note.ensures.was

pub returns-clause-noted : goal.returns-clause-noted
returns-clause-noted c =
    noted_new c.note.result c.args.self.now (record c.args.self.now { named = with_item c.args.self.now.named c.args.id c.note.new.self }) c.args.id c.args.position c.index_mut.result.now c.note.new.self refl refl
    (slice_get-get_or c.args.self.now.named.items c.args.id c.index_mut.result.now c.requires ∙ ap Some (sym c.index_mut.ensures.value)) c.note.ensures.noted
