use Rattle.std.proofs.Common.{◌+◌, [], Some, ap, sym, ◌∙◌, get_or, arith}
use Rattle.std.proofs.lemmas.Option.{slice_get-get_or}
use Rattle.up_names.proofs.PathEdits.{text_seen}
use Rattle.up_names.proofs.PathPlaces.{Stands, stands_at, read_there, begin_le_end, begin_boundary, cut_boundary-at}
use Rattle.up_names.proofs.paths.Path.element.Goals as goal
use Rattle.up_names.proofs.paths.Path.element.Goals.{After-deref}

-- the element stands there in the text
stands : (c : After-deref) → Stands c.deref.result.now (get_or c.args.self.now.elements c.args.i []) c.begin_of-begin.result c.front_len-end.result
stands c =
    let path = c.args.self.now in
    stands_at path c.args.i (omega arith) c.deref.result.now (c.deref.ensures ∙ text_seen c.self.invariant path c.self.view_is)
    c.begin_of-begin.result c.front_len-end.result c.begin_of-begin.ensures c.front_len-end.ensures.end

pub range-requires-clause-start_le_end : goal.range-requires-clause-start_le_end
range-requires-clause-start_le_end c = begin_le_end (stands c)

pub range-requires-clause-start_boundary : goal.range-requires-clause-start_boundary
range-requires-clause-start_boundary c = λ _. begin_boundary (stands c) c.deref.utf8

pub range-requires-clause-end_boundary : goal.range-requires-clause-end_boundary
range-requires-clause-end_boundary c =
    let path = c.args.self.now in
    cut_boundary-at path (c.args.i + 1) (omega arith) c.deref.result.now (c.deref.ensures ∙ text_seen c.self.invariant path c.self.view_is) c.deref.utf8
    c.front_len-end.result c.front_len-end.ensures.end

pub returns : goal.returns
returns c =
    let path = c.args.self.now in
    ap Some (c.range.ensures.value ∙ read_there (stands (goal.at.returns c).After-deref)) ∙ sym (slice_get-get_or path.elements c.args.i [] (omega arith))
