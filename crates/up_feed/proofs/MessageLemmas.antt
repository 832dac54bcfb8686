-- What a follower asks, as the questions of a connection.
use Rattle.std.proofs.Common.{◌≡◌, ℕ, List, sym, Result, Ok, Err}
use Rattle.std.specs.Result.{result_ok}
use Rattle.up_bytes.specs.Forms.{IsBytes}
use Rattle.up_bytes.specs.Reading.{Answers}
use Rattle.up_bytes.specs.declared.fault.FieldFault.{FieldFault}
use Rattle.up_feed_wire.proofs.MessageParts.{ask_messages}
use Rattle.up_feed_wire.specs.FeedMessages.{IsTypedAsk, ask_of, feed_ask}
use Rattle.up_feed_wire.specs.declared.ask.FeedAsk.{FeedAsk}
use Rattle.up_talk.specs.Messages.{Asks}

-- what is read of a payload is the question that has it, or none has it
pub asks_by : (payload : List ℕ) → IsBytes payload → (read : Result FeedAsk FieldFault) → Answers (λ ask. ask) read (ask_of payload) → Asks feed_ask IsTypedAsk payload (result_ok read)
asks_by payload bytes (Ok ask) is = let spelled = (ask_messages.exact payload ask bytes).0 is in (sym spelled.1, spelled.0)
asks_by payload bytes (Err fault) is = λ ask fits same. let again : ask_of payload ≡ Ok ask = (ask_messages.exact payload ask bytes).1 (fits, sym same) in absurd (cc)
