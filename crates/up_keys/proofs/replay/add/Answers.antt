use Rattle.std.proofs.Common.{◌≡◌, ap, ◌∙◌, length}
use Rattle.std.specs.FinMap.Entries.{put}
use Rattle.up_keys.specs.Records.{user_cmp}
use Rattle.up_keys.proofs.Putting.{last_more}
use Rattle.up_keys.proofs.replay.add.Goals as goal

pub returns-clause-last : goal.returns-clause-last
returns-clause-last c =
    let records = c.args.known.now.records.items in
    let last = c.args.known.now.last.entries in
    let user : c.in_ok-user.user ≡ c.args.card.user = c.in_ok-user.ensures.cases in
    let entries : c.enter.new.last.entries ≡ put user_cmp c.args.card.user (length records) last =
    c.enter.ensures.entries ∙ ap (λ k. put user_cmp k (length c.reserve.new.self.items) c.reserve_one.new.self.entries) user
    ∙ ap (λ rs. put user_cmp c.args.card.user (length rs) c.reserve_one.new.self.entries) c.reserve.ensures.items ∙ ap (put user_cmp c.args.card.user (length records)) c.reserve_one.ensures.entries in
    rw (entries, c.enter.ensures.records, c.reserve.ensures.items) (last_more records c.args.card last c.requires)
