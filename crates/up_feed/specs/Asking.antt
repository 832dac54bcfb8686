-- What a follower asks, as the questions of a connection, and their laws. This project's own.
use Rattle.std.proofs.Common.{◌≡◌, ◌≢◌, [], arith, ◌∙◌, append-nil}
use Rattle.up_bytes.specs.Num.{num}
use Rattle.up_feed_wire.proofs.MessageParts.{ask_messages}
use Rattle.up_feed_wire.specs.FeedMessages.{IsTypedAsk, feed_ask}
use Rattle.up_feed_wire.specs.declared.ask.FeedAsk.{FeedAsk}
use Rattle.up_shared.proofs.Pairs.{cons_same}
use Rattle.up_wire.specs.Spelling.{client}
use Rattle.up_wire.specs.declared.messages.ClientFrame.TheVariants as clients

-- a payload is that of one question alone
pub one_ask : (one other : FeedAsk) → IsTypedAsk one → IsTypedAsk other → feed_ask one ≡ feed_ask other → one ≡ other
one_ask one other fits others same = (ask_messages.alone one other [] fits others (append-nil (feed_ask one) ∙ same)).0

-- no question has the payload of Bye
pub ask_no_bye : (ask : FeedAsk) → IsTypedAsk ask → feed_ask ask ≢ client clients.Bye
ask_no_bye ask fits same = let tag = (cons_same 0x40 0x03 (num ask.from) [] same).0 in absurd (omega (arith, tag))
