-- The messages of a feed, by their parts.
use Rattle.std.proofs.Common.{◌≡◌, ℕ, true, List, refl, arith}
use Rattle.up_bytes.specs.Sequences.{AreMessages}
use Rattle.up_bytes.specs.Spelling.{IsList, IsText, list, text}
use Rattle.up_bytes.specs.Reading.{tagged_at}
use Rattle.up_bytes.proofs.FieldParts.{num_part, text_part}
use Rattle.up_bytes.proofs.Lists.{list_part}
use Rattle.up_bytes.proofs.Messages.{messages}
use Rattle.up_bytes.proofs.Parts.{IsPart}
use Rattle.up_bytes.proofs.Tables.{Tagged, has_tag, made_row, plain_row, tagged_part}
use Rattle.up_feed_wire.specs.FeedMessages.{IsTypedAsk, IsTypedReply, ask_behind, ask_of, ask_table, feed_ask, feed_reply, reply_at, reply_fields, reply_of, reply_table, reply_tag}
use Rattle.up_feed_wire.specs.declared.ask.FeedAsk.{FeedAsk}
use Rattle.up_feed_wire.specs.declared.reply.FeedReply.{FeedReply}
use Rattle.up_feed_wire.specs.declared.reply.FeedReply.TheVariants as replies
use Rattle.up_bytes.specs.Num.{num}

abbrev ask_tag : FeedAsk → ℕ
ask_tag ask = 0x40

abbrev ask_fields : FeedAsk → List ℕ
ask_fields ask = num ask.from

ask_part : IsPart IsTypedAsk feed_ask (tagged_at ask_table)
ask_part =
    tagged_part IsTypedAsk ask_tag ask_fields ask_table (
      made_row IsTypedAsk ask_tag ask_fields 0x40 ask_behind num_part (λ ask sent. (ask.from, sent.0, refl, refl)) (λ n fits. ((fits, refl), refl)),
      tt,
    ) refl (λ ask fits. refl)

abbrev Sent : ℕ → FeedReply → Type 0
Sent = Tagged IsTypedReply reply_tag reply_fields

records_split : (reply : FeedReply) → Sent 0xC0 reply → (p : List (List ℕ)) × IsList IsText p × (replies.Records p ≡ reply) × (reply_fields reply ≡ list text p)
records_split (replies.Records records) sent = (records, sent.0, refl, refl)
records_split replies.NoTree sent = absurd (omega (arith, sent.1))
records_split replies.OutOfMemory sent = absurd (omega (arith, sent.1))

no_tree_only : (reply : FeedReply) → Sent 0xC1 reply → replies.NoTree ≡ reply
no_tree_only replies.NoTree sent = refl
no_tree_only (replies.Records records) sent = absurd (omega (arith, sent.1))
no_tree_only replies.OutOfMemory sent = absurd (omega (arith, sent.1))

no_memory_only : (reply : FeedReply) → Sent 0xC2 reply → replies.OutOfMemory ≡ reply
no_memory_only replies.OutOfMemory sent = refl
no_memory_only (replies.Records records) sent = absurd (omega (arith, sent.1))
no_memory_only replies.NoTree sent = absurd (omega (arith, sent.1))

has_its_tag : (reply : FeedReply) → IsTypedReply reply → has_tag (reply_tag reply) reply_table ≡ true
has_its_tag (replies.Records records) fits = refl
has_its_tag replies.NoTree fits = refl
has_its_tag replies.OutOfMemory fits = refl

reply_part : IsPart IsTypedReply feed_reply reply_at
reply_part =
    tagged_part IsTypedReply reply_tag reply_fields reply_table (
      made_row IsTypedReply reply_tag reply_fields 0xC0 (λ records. replies.Records records) (list_part text_part) records_split (λ p fits. ((fits, refl), refl)),
      (
        plain_row IsTypedReply reply_tag reply_fields 0xC1 replies.NoTree (tt, refl) refl no_tree_only,
        (plain_row IsTypedReply reply_tag reply_fields 0xC2 replies.OutOfMemory (tt, refl) refl no_memory_only, tt),
      ),
    ) refl has_its_tag

pub ask_messages : AreMessages IsTypedAsk feed_ask ask_of
ask_messages = messages ask_part

pub reply_messages : AreMessages IsTypedReply feed_reply reply_of
reply_messages = messages reply_part
