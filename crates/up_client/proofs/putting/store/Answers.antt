use Rattle.up_wire.specs.declared.requests.Request.TheVariants as requests
use Rattle.up_client.specs.Putting.{reference_from, stored}
use Rattle.up_client.specs.Talks.{Talks, done, reply_to}
use Rattle.up_client.proofs.Exits.{exit_stop, exit_wanting, exit_with, reference_answered}
use Rattle.up_client.proofs.putting.store.Goals as goal

pub returns-in_err-copy_of : goal.returns-in_err-copy_of
returns-in_err-copy_of g c =
    exit_wanting g.A.Ask g.met.A.Ask.same g.met.A.Ask.joined (stored c.args.piece.now) c.args.ask.now c.from_residual.result c.from_residual.ensures.1

pub returns-in_err-reply : goal.returns-in_err-reply
returns-in_err-reply g c =
    let held : Talks g.A.Ask (reply_to (requests.StorePut c.args.piece.now)) c.args.ask.now c.reply_to.result c.reply_to.new.ask = rw (← c.in_ok-copy_of.ensures) c.reply_to.ensures in
    exit_stop g.A.Ask g.met.A.Ask.same g.met.A.Ask.joined (reply_to (requests.StorePut c.args.piece.now)) (λ reply. done (reference_from c.args.piece.now reply))
    c.args.ask.now c.reply_to.new.ask c.reply_to.result c.in_err-reply.field-0.0 c.from_residual-in_err-reply.result held c.in_err-reply.was c.from_residual-in_err-reply.ensures.1

pub returns : goal.returns
returns g c =
    let held : Talks g.A.Ask (reply_to (requests.StorePut c.args.piece.now)) c.args.ask.now c.reply_to.result c.reply_to.new.ask = rw (← c.in_ok-copy_of.ensures) c.reply_to.ensures in
    exit_with g.A.Ask g.met.A.Ask.same g.met.A.Ask.joined (reply_to (requests.StorePut c.args.piece.now)) (reference_from c.args.piece.now)
    c.args.ask.now c.reply_to.new.ask c.reply_to.result c.in_ok-reply.reply c.reference_from.result held c.in_ok-reply.was c.reference_from.ensures (reference_answered c.args.piece.now c.in_ok-reply.reply)
