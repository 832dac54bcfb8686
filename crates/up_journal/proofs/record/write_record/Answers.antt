use Rattle.std.proofs.Common.{◌+◌, [], ◌∷◌, Some, None, option_map, refl, sym, ◌∙◌, ap, inl, inr}
use Rattle.std.proofs.lemmas.Result.{err_from_is_err_and}
use Rattle.up_disk.specs.Disk.{written}
use Rattle.up_disk.proofs.Moments.{joined}
use Rattle.up_journal.specs.Format2.{head_size}
use Rattle.up_journal.proofs.Cells.{record_content, settled_content}
use Rattle.up_journal.proofs.Runs.{as_one, shape_now}
use Rattle.up_journal.proofs.record.write_record.Goals as goal

pub returns-in_err-settle-clause-refused : goal.returns-in_err-settle-clause-refused
returns-in_err-settle-clause-refused g c =
    let d = g.D.Disk in
    let p = err_from_is_err_and c.from_residual.result c.from_residual.ensures.1 in
    rw p.1 (λ held front stands. record {
      which = held;
      one = inr (inl refl);
      sized = stands.sized ∙ sym (ap (option_map (λ n. n + head_size)) c.in_err-settle.ensures.doubtful.0);
      shape = shape_now d g.met.D.Disk.counts_now c.args.disk.now c.settle.new.disk held front (c.settle.ensures.any_moment held front stands);
    })

pub returns-in_err-write_behind-clause-refused : goal.returns-in_err-write_behind-clause-refused
returns-in_err-write_behind-clause-refused g c =
    let d = g.D.Disk in
    let p = err_from_is_err_and c.from_residual-in_err-write_behind.result c.from_residual-in_err-write_behind.ensures.1 in
    rw p.1 (λ held front stands.
    let closed = c.in_ok-settle.ensures.closed held front stands in
    record {
      which = None;
      one = inl refl;
      sized = sym (ap (option_map (λ n. n + head_size)) c.in_ok-settle.ensures.settled);
      shape = shape_now d g.met.D.Disk.counts_now c.settle.new.disk c.write_behind.new.disk None front (c.write_behind.ensures.any_moment front stands.place closed);
    })

pub returns-in_err-set_gate-clause-any_moment : goal.returns-in_err-set_gate-clause-any_moment
returns-in_err-set_gate-clause-any_moment g c held front stands =
    let d = g.D.Disk in
    let behind = c.args.behind.now in
    let closed = c.in_ok-settle.ensures.closed held front stands in
    let ready = c.in_ok-write_behind.ensures.written front stands.place closed in
    let first = as_one d c.args.disk.now c.args.disk.now c.settle.new.disk held held behind front (inr (inl refl)) refl (c.settle.ensures.any_moment held front stands) in
    let second = as_one d c.args.disk.now c.settle.new.disk c.write_behind.new.disk held None behind front (inl refl) c.settle.ensures.told (c.write_behind.ensures.any_moment front stands.place closed) in
    let third = as_one d c.args.disk.now c.write_behind.new.disk c.set_gate.new.disk held (Some behind) behind front (inr (inr refl)) (c.write_behind.ensures.told ∙ c.settle.ensures.told)
    (c.set_gate.ensures.any_moment behind front stands.place ready) in
    joined d.moment d.left_since _ _ _ _ (joined d.moment d.left_since _ _ _ _ first second) third

pub returns-in_err-set_gate-clause-refused : goal.returns-in_err-set_gate-clause-refused
returns-in_err-set_gate-clause-refused g c =
    let d = g.D.Disk in
    let behind = c.args.behind.now in
    let p = err_from_is_err_and c.from_residual-in_err-set_gate.result c.from_residual-in_err-set_gate.ensures.1 in
    rw p.1 (λ held front stands.
    let closed = c.in_ok-settle.ensures.closed held front stands in
    let ready = c.in_ok-write_behind.ensures.written front stands.place closed in
    record {
      which = Some behind;
      one = inr (inr refl);
      sized = ap Some c.requires.sized;
      shape = shape_now d g.met.D.Disk.counts_now c.write_behind.new.disk c.set_gate.new.disk (Some behind) front (c.set_gate.ensures.any_moment behind front stands.place ready);
    })

pub returns-clause-any_moment : goal.returns-clause-any_moment
returns-clause-any_moment g c held front stands =
    let d = g.D.Disk in
    let behind = c.args.behind.now in
    let closed = c.in_ok-settle.ensures.closed held front stands in
    let ready = c.in_ok-write_behind.ensures.written front stands.place closed in
    let first = as_one d c.args.disk.now c.args.disk.now c.settle.new.disk held held behind front (inr (inl refl)) refl (c.settle.ensures.any_moment held front stands) in
    let second = as_one d c.args.disk.now c.settle.new.disk c.write_behind.new.disk held None behind front (inl refl) c.settle.ensures.told (c.write_behind.ensures.any_moment front stands.place closed) in
    let third = as_one d c.args.disk.now c.write_behind.new.disk c.set_gate.new.disk held (Some behind) behind front (inr (inr refl)) (c.write_behind.ensures.told ∙ c.settle.ensures.told)
    (c.set_gate.ensures.any_moment behind front stands.place ready) in
    joined d.moment d.left_since _ _ _ _ (joined d.moment d.left_since _ _ _ _ first second) third

pub returns-clause-content : goal.returns-clause-content
returns-clause-content g c =
    let d = g.D.Disk in
    let disk = c.args.disk.now in
    record_content (d.content disk) (d.content c.settle.new.disk) (d.content c.write_behind.new.disk) (d.content c.set_gate.new.disk) c.args.gate (d.size_of disk) c.args.behind.now (g.met.D.Disk.sized disk) c.requires.within
    (settled_content d.content c.args.doubtful.now disk c.settle.new.disk (written c.args.gate (0 ∷ [])) c.in_ok-settle.ensures.content c.settle.ensures.untouched)
    c.in_ok-write_behind.ensures.content c.in_ok-set_gate.ensures.content
