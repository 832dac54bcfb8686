-- What a list in memory gives is a batch of it.
use Rattle.std.proofs.Common.{◌≡◌, ◌≤◌, List, ℕ, ap, length, subst, sym, ◌∙◌}
use Rattle.up_follow.specs.Feeds.{IsBatch, batch_limit}
use Rattle.up_follow.specs.ListLogs.{batch_of}
use Rattle.up_follow.proofs.BatchLemmas.{batch_taken, few_taken}
use Rattle.up_follow.proofs.list_feed.ListFeedFeed.pull.Goals as goal

pub returns-clause-few : goal.returns-clause-few
returns-clause-few c =
    let is : c.in_ok-batch.batch ≡ batch_of c.args.from c.self.inside.records = c.in_ok-batch.ensures ∙ c.batch_of.ensures ∙ ap (batch_of c.args.from) c.as_slice.ensures in
    subst (λ (b : List (List ℕ)). length b ≤ batch_limit) (sym is) (few_taken c.args.from c.self.inside.records)

pub returns-clause-batch : goal.returns-clause-batch
returns-clause-batch c =
    let is : c.in_ok-batch.batch ≡ batch_of c.args.from c.self.inside.records = c.in_ok-batch.ensures ∙ c.batch_of.ensures ∙ ap (batch_of c.args.from) c.as_slice.ensures in
    subst (λ (b : List (List ℕ)). IsBatch c.args.from b c.self.inside.records) (sym is) (batch_taken c.args.from c.self.inside.records)
