use Rattle.std.proofs.lemmas.Result.{err_from_is_err_and}
use Rattle.up_wire.proofs.keys.read_key_record.Goals as goal

pub returns-in_err-found-clause-first : goal.returns-in_err-found-clause-first
returns-in_err-found-clause-first c = λ fault fails.
    let p = err_from_is_err_and c.from_residual.result c.from_residual.ensures.1 in
    rw (p.1, p.2) (c.in_err-found.ensures.first fault fails)
