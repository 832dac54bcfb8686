use Rattle.up_client.specs.Links.{following}
use Rattle.up_client.specs.Putting.{put_file_at}
use Rattle.up_client.specs.Replies.{position_in}
use Rattle.up_client.specs.Talks.{done}
use Rattle.up_client.proofs.Exits.{exit_stop, exit_with, position_answered}
use Rattle.up_client.proofs.putting.enter.Goals as goal

pub returns-in_err-done : goal.returns-in_err-done
returns-in_err-done g c =
    let file = c.args.file.now in
    exit_stop g.A.Ask g.met.A.Ask.same g.met.A.Ask.joined (following (put_file_at file.user.now file.time file.sequence file.blocks.now) 20 c.args.path.now) (λ d. done (position_in d))
    c.args.ask.now c.follow.new.ask c.follow.result c.in_err-done.field-0.0 c.from_residual.result c.follow.ensures c.in_err-done.was c.from_residual.ensures.1

pub returns : goal.returns
returns g c =
    let file = c.args.file.now in
    exit_with g.A.Ask g.met.A.Ask.same g.met.A.Ask.joined (following (put_file_at file.user.now file.time file.sequence file.blocks.now) 20 c.args.path.now) position_in
    c.args.ask.now c.follow.new.ask c.follow.result c.in_ok-done.done c.position_in.result c.follow.ensures c.in_ok-done.was c.position_in.ensures (position_answered c.in_ok-done.done)
