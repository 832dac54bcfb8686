-- What a follower asks of a leader, and what it is answered: a tag and its fields. This project's own format.
use Rattle.std.specs.Prelude.{ℕ, ⊤, List, [], ◌∷◌, ◌++◌, Result}
use Rattle.up_bytes.specs.Input.{Input}
use Rattle.up_bytes.specs.Num.{num}
use Rattle.up_bytes.specs.Reading.{list_at, made_of, num_at, plain, tagged_at, text_at, whole_of}
use Rattle.up_bytes.specs.Spelling.{IsList, IsText, IsU64, byte, list, text}
use Rattle.up_bytes.specs.declared.fault.FieldFault.{FieldFault}
use Rattle.up_feed_wire.specs.declared.ask.FeedAsk.{FeedAsk}
use Rattle.up_feed_wire.specs.declared.reply.FeedReply.{FeedReply}
use Rattle.up_feed_wire.specs.declared.reply.FeedReply.TheVariants as replies

-- ---- what is asked: 40, and after how many records

-- the payload of a question
abbrev pub feed_ask : FeedAsk → List ℕ
feed_ask ask = byte 0x40 ++ num ask.from

-- the question for the records after so many
abbrev pub ask_behind : ℕ → FeedAsk
ask_behind from = record { from = from }

-- the one tag of a question, and what follows it
abbrev pub ask_table : List (ℕ × (Input → Result (FeedAsk × Input) FieldFault))
ask_table = (0x40, made_of ask_behind num_at) ∷ []

-- what is asked by the whole of these bytes
abbrev pub ask_of : List ℕ → Result FeedAsk FieldFault
ask_of = whole_of (tagged_at ask_table)

-- what each is by its type
abbrev pub IsTypedAsk : FeedAsk → Type 0
IsTypedAsk ask = IsU64 ask.from

-- ---- what is answered: C0, the number of the records, and each as a text; C1 where there is no such tree; C2 where there is no memory

-- the tag of an answer
abbrev pub reply_tag : FeedReply → ℕ
reply_tag (replies.Records records) = 0xC0
reply_tag replies.NoTree = 0xC1
reply_tag replies.OutOfMemory = 0xC2

-- the fields of an answer
abbrev pub reply_fields : FeedReply → List ℕ
reply_fields (replies.Records records) = list text records
reply_fields replies.NoTree = []
reply_fields replies.OutOfMemory = []

-- the payload of an answer
abbrev pub feed_reply : FeedReply → List ℕ
feed_reply reply = byte (reply_tag reply) ++ reply_fields reply

-- the tags of answers, each with what follows it
abbrev pub reply_table : List (ℕ × (Input → Result (FeedReply × Input) FieldFault))
reply_table =
    (0xC0, made_of (λ records. replies.Records records) (list_at text_at)) ∷
    (0xC1, plain replies.NoTree) ∷ (0xC2, plain replies.OutOfMemory) ∷ []

-- an answer is read by its tag
abbrev pub reply_at : Input → Result (FeedReply × Input) FieldFault
reply_at = tagged_at reply_table

-- the reply that is the whole of these bytes
abbrev pub reply_of : List ℕ → Result FeedReply FieldFault
reply_of = whole_of reply_at

-- an answer as the program can hold it: each text has fewer than 2^64 bytes, and there are fewer than 2^64 of them
abbrev pub IsTypedReply : FeedReply → Type 0
IsTypedReply (replies.Records records) = IsList IsText records
IsTypedReply replies.NoTree = ⊤
IsTypedReply replies.OutOfMemory = ⊤
