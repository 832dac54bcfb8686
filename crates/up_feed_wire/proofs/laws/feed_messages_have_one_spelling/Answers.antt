use Rattle.up_feed_wire.proofs.MessageParts.{ask_messages, reply_messages}
use Rattle.up_feed_wire.proofs.laws.feed_messages_have_one_spelling.Goals as goal

pub returns : goal.returns
returns c = record { ask = ask_messages; reply = reply_messages }
