use Rattle.up_client.specs.Getting.{look_up_at, reading}
use Rattle.up_client.specs.Links.{following}
use Rattle.up_client.proofs.Exits.{exit_stop, exit_then}
use Rattle.up_client.proofs.getting.get_file.Goals as goal

pub returns-in_err-done : goal.returns-in_err-done
returns-in_err-done g c =
    exit_stop g.A.Ask g.met.A.Ask.same g.met.A.Ask.joined (following look_up_at 20 c.args.path.now) reading
    c.args.ask.now c.follow.new.ask c.follow.result c.in_err-done.field-0.0 c.from_residual.result c.follow.ensures c.in_err-done.was c.from_residual.ensures.1

pub returns : goal.returns
returns g c =
    exit_then g.A.Ask g.met.A.Ask.same g.met.A.Ask.joined (following look_up_at 20 c.args.path.now) reading
    c.args.ask.now c.follow.new.ask c.read.new.ask c.follow.result c.in_ok-done.done c.read.result c.follow.ensures c.in_ok-done.was c.read.ensures
