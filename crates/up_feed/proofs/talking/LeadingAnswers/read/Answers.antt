use Rattle.std.proofs.Common.{arith, subst, sym}
use Rattle.up_feed.proofs.MessageLemmas.{asks_by}
use Rattle.up_feed.proofs.talking.LeadingAnswers.read.Goals as goal
use Rattle.up_feed_wire.specs.FeedMessages.{IsTypedAsk, feed_ask}
use Rattle.up_talk.specs.Messages.{Asks}

pub returns : goal.returns
returns g c =
    subst (Asks feed_ask IsTypedAsk c.args.payload.now) (sym c.ok.ensures.value)
    (asks_by c.args.payload.now (λ i. omega (arith, c.type_inv.payload i)) c.read_feed_ask.result c.read_feed_ask.ensures)
