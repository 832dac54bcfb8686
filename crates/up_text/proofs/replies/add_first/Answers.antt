-- The first line of a reply.
use Rattle.up_text.specs.Replies.{reply_words}
use Rattle.up_text.proofs.replies.add_first.Goals as goal

pub returns-in-FollowLink : goal.returns-in-FollowLink
unfolding reply_words
returns-in-FollowLink c = rw c.in-FollowLink.is c.tell_found.ensures

pub returns-in-Permission : goal.returns-in-Permission
unfolding reply_words
returns-in-Permission c =
    let told = rw (c.as_bytes.ensures.value, c.word.ensures) at c.tell_named.ensures in
    rw c.in-Permission.is told

pub returns-in-BadSequence : goal.returns-in-BadSequence
unfolding reply_words
returns-in-BadSequence c = rw c.in-BadSequence.is c.tell_counted.ensures
