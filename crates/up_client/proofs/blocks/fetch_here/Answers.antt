use Rattle.std.proofs.Common.{◌≡◌, subst}
use Rattle.up_refs.specs.References.{text_of}
use Rattle.up_wire.specs.declared.requests.Request.{Request}
use Rattle.up_wire.specs.declared.requests.Request.TheVariants as requests
use Rattle.up_entry.specs.declared.entries.Endpoint.TheVariants as endpoints
use Rattle.up_client.specs.Getting.{block_from, fetched_at}
use Rattle.up_client.specs.Talks.{Talks, done, reply_to}
use Rattle.up_client.proofs.Exits.{block_answered, exit_stop, exit_wanting, exit_with}
use Rattle.up_client.proofs.blocks.fetch_here.Goals as goal

pub returns-in_err-digits : goal.returns-in_err-digits
returns-in_err-digits g c =
    exit_wanting g.A.Ask g.met.A.Ask.same g.met.A.Ask.joined (fetched_at endpoints.Local c.args.i c.args.block.now) c.args.ask.now c.from_residual.result c.from_residual.ensures.1

pub returns-in_err-reply : goal.returns-in_err-reply
returns-in_err-reply g c =
    let is : requests.Get c.from_vec.result ≡ requests.Get (text_of c.args.block.now.location.reference) = cc (c.in_ok-digits.ensures.digits, c.into_bytes.ensures.value, c.from_vec.ensures) in
    let held = subst (λ (r : Request). Talks g.A.Ask (reply_to r) c.args.ask.now c.reply_to.result c.reply_to.new.ask) is c.reply_to.ensures in
    exit_stop g.A.Ask g.met.A.Ask.same g.met.A.Ask.joined (reply_to (requests.Get (text_of c.args.block.now.location.reference))) (λ reply. done (block_from c.args.i c.args.block.now reply))
    c.args.ask.now c.reply_to.new.ask c.reply_to.result c.in_err-reply.field-0.0 c.from_residual-in_err-reply.result held c.in_err-reply.was c.from_residual-in_err-reply.ensures.1

pub returns : goal.returns
returns g c =
    let is : requests.Get c.from_vec.result ≡ requests.Get (text_of c.args.block.now.location.reference) = cc (c.in_ok-digits.ensures.digits, c.into_bytes.ensures.value, c.from_vec.ensures) in
    let held = subst (λ (r : Request). Talks g.A.Ask (reply_to r) c.args.ask.now c.reply_to.result c.reply_to.new.ask) is c.reply_to.ensures in
    exit_with g.A.Ask g.met.A.Ask.same g.met.A.Ask.joined (reply_to (requests.Get (text_of c.args.block.now.location.reference))) (block_from c.args.i c.args.block.now)
    c.args.ask.now c.reply_to.new.ask c.reply_to.result c.in_ok-reply.reply c.block_from.result held c.in_ok-reply.was c.block_from.ensures (block_answered c.args.i c.args.block.now c.in_ok-reply.reply)
