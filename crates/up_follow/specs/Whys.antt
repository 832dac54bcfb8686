-- What a fault below is called by a follower. This project's own.
use Rattle.up_follow.specs.declared.fault.FeedFault.{FeedFault}
use Rattle.up_follow.specs.declared.fault.FeedFault.TheVariants as feed
use Rattle.up_follow.specs.declared.fault.FollowWhy.{FollowWhy}
use Rattle.up_follow.specs.declared.fault.FollowWhy.TheVariants as why
use Rattle.up_journal.specs.declared.fault.AppendWhy.{AppendWhy}
use Rattle.up_journal.specs.declared.fault.AppendWhy.TheVariants as append

-- why a pull took nothing where the feed gave no batch
abbrev pub why_of_feed : FeedFault → FollowWhy
why_of_feed feed.Failed = why.Failed
why_of_feed feed.OutOfMemory = why.OutOfMemory

-- why a pull stopped where the tree did not take a record
abbrev pub why_of_append : AppendWhy → FollowWhy
why_of_append (append.Full records) = why.Full records
why_of_append append.Fault = why.Io
why_of_append append.OutOfMemory = why.OutOfMemory
