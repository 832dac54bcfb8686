-- What a line leaves of a log that follows another.
use Rattle.std.proofs.Common.{◌≡◌, ℕ, List, Option, Some, None, IfSome, refl, sym, subst, ◌∙◌, arith}
use Rattle.up_disk.specs.declared.disk.Disk as disk
use Rattle.up_ends.specs.Growing.{OnlyGrows}
use Rattle.up_entry.specs.declared.records.Rec.{Rec}
use Rattle.up_follow.proofs.PullLemmas.{pull_follows}
use Rattle.up_follow.specs.Feeds.{Follows, OnlyLonger}
use Rattle.up_follow.specs.declared.feed.Feed as feed
use Rattle.up_lists.proofs.BeginsLemmas.{Begins-self, Begins-trans}
use Rattle.up_tree.specs.States.{State, entries_of, fixed_of}
use Rattle.up_following.specs.FollowRuns.{Stays}
use Rattle.up_following.specs.FollowTurns.{LineResult, LineCame, PullCame, SaysCame, World}
use Rattle.up_following.specs.declared.line.FollowLine.{FollowLine}
use Rattle.up_following.specs.declared.line.FollowLine.TheVariants as lines

pub longer_same : {X : Type 0} (log : Option (List X)) → OnlyLonger log log
longer_same None = tt
longer_same (Some log) = Begins-self log

pub longer_then : {X : Type 0} (a b c : Option (List X)) → OnlyLonger a b → OnlyLonger b c → OnlyLonger a c
longer_then None None c one two = two
longer_then None (Some b) c one two = absurd one
longer_then (Some a) None c one two = absurd one
longer_then (Some a) (Some b) None one two = absurd two
longer_then (Some a) (Some b) (Some c) one two = Begins-trans one two

-- a log that follows one follows it when it has grown
follows_grown : (log : List Rec) (a : Option (List (List ℕ))) → IfSome a (λ before. Follows log before → IfSome a (Follows log))
follows_grown log None = tt
follows_grown log (Some a) = λ first. first

follows_then : (one two three : List Rec) (a b c : Option (List (List ℕ))) → OnlyLonger a b
    → IfSome a (λ before. Follows one before → IfSome b (Follows two)) → IfSome b (λ before. Follows two before → IfSome c (Follows three))
    → IfSome a (λ before. Follows one before → IfSome c (Follows three))
follows_then one two three None b c longer first second = tt
follows_then one two three (Some a) None c longer first second = absurd longer
follows_then one two three (Some a) (Some b) c longer first second = λ follows. second (first follows)

module _ {D F : Type 0} (disks : disk.Ghosts D) (feeds : feed.Ghosts F) where
  grows_same : (a : State D) → OnlyGrows entries_of (λ (state : State D). disks.faults state.disk) fixed_of a a
  grows_same a = record { begins = Begins-self a.log; later = omega arith; stays = refl }

  pub stays_same : (a : World D F) → Stays disks feeds a a
  stays_same a = record { grows = grows_same a.state; feed_grows = longer_same (feeds.leader a.feed); follows = follows_grown a.state.log (feeds.leader a.feed) }

  pub stays_then : (a b c : World D F) → Stays disks feeds a b → Stays disks feeds b c → Stays disks feeds a c
  stays_then a b c one two = record {
    grows = record {
      begins = Begins-trans one.grows.begins two.grows.begins;
      later = omega (arith, one.grows.later, two.grows.later);
      stays = two.grows.stays ∙ one.grows.stays;
    };
    feed_grows = longer_then (feeds.leader a.feed) (feeds.leader b.feed) (feeds.leader c.feed) one.feed_grows two.feed_grows;
    follows = follows_then a.state.log b.state.log c.state.log (feeds.leader a.feed) (feeds.leader b.feed) (feeds.leader c.feed) one.feed_grows one.follows two.follows;
  }

  pulled : (a b : World D F) (came : LineResult) → PullCame disks feeds a came b → Stays disks feeds a b
  pulled a b came p = record {
    grows = p.grows;
    feed_grows = p.feed_grows;
    follows = pull_follows disks a.state b.state p.result (feeds.leader a.feed) (feeds.leader b.feed) p.feed_grows p.pulls;
  }

  same_stays : (a b : World D F) → b ≡ a → Stays disks feeds a b
  same_stays a b same = subst (λ (w : World D F). Stays disks feeds a w) (sym same) (stays_same a)

  says_stays : (a b : World D F) (what : FollowLine) (came : LineResult) → SaysCame disks feeds a what came b → Stays disks feeds a b
  says_stays a b lines.Silent came says = same_stays a b says.1
  says_stays a b lines.Pull came says = pulled a b came says
  says_stays a b (lines.Ask user request) came says = same_stays a b says.1

  -- whatever came of a line
  pub line_stays : (a b : World D F) (line : List ℕ) (came : LineResult) → LineCame disks feeds a line came b → Stays disks feeds a b
  line_stays a b line came (LineCame.malformed none) = stays_same a
  line_stays a b line came (LineCame.says {what} is says) = says_stays a b what came says
  line_stays a b line came LineCame.unread = stays_same a
