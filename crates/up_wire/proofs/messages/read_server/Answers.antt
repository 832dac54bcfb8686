use Rattle.std.proofs.lemmas.Result.{err_from_is_err_and}
use Rattle.up_wire.proofs.messages.read_server.Goals as goal

pub returns-in_err-frame-clause-first : goal.returns-in_err-frame-clause-first
returns-in_err-frame-clause-first c = λ fault fails.
    let p = err_from_is_err_and c.from_residual.result c.from_residual.ensures.1 in
    rw (p.1, p.2) (c.in_err-frame.ensures.first fault fails)
