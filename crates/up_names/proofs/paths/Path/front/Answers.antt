use Rattle.std.proofs.Common.{◌≡◌, ap, ◌∙◌, ◌-◌, take, arith}
use Rattle.up_names.specs.PathNames.{canonical}
use Rattle.up_names.proofs.PathEdits.{text_seen, canonical-cut, cut_proper, proper_seen}
use Rattle.up_names.proofs.PathLaws.{proper-canonical}
use Rattle.up_names.proofs.PathPlaces.{cut_boundary-at}
use Rattle.up_names.proofs.paths.Path.front.Goals as goal

pub range-requires-clause-end_boundary : goal.range-requires-clause-end_boundary
range-requires-clause-end_boundary c =
    let path = c.args.self.now in
    cut_boundary-at path c.args.n c.requires c.deref.result.now (c.deref.ensures ∙ text_seen c.self.invariant path c.self.view_is) c.deref.utf8
    c.front_len-end.result c.front_len-end.ensures.end

pub returns-clause-text : goal.returns-clause-text
returns-clause-text c =
    let path = c.args.self.now in
    let end : c.front_len-end.result - 0 ≡ c.front_len-end.result = omega arith in
    c.range.ensures.value
    ∙ ap (λ n. take n c.deref.result.now) end
    ∙ ap (take c.front_len-end.result) (c.deref.ensures ∙ text_seen c.self.invariant path c.self.view_is)
    ∙ ap (λ n. take n (canonical path)) c.front_len-end.ensures.end
    ∙ canonical-cut c.args.n path

pub returns-clause-front_again : goal.returns-clause-front_again
returns-clause-front_again c =
    let path = c.args.self.now in
    proper-canonical _ (cut_proper c.args.n path (proper_seen c.self.invariant path c.self.view_is))
