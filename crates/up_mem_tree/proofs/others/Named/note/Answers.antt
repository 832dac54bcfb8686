use Rattle.std.proofs.Common.{ap, ◌∙◌}
use Rattle.std.specs.FinMap.Entries.{put}
use Rattle.std.specs.Ordering.{nat_cmp}
use Rattle.up_mem_tree.proofs.Held.{record_put, record_stays, then_stays}
use Rattle.up_mem_tree.proofs.others.Named.note.Goals as goal

pub returns-clause-kept : goal.returns-clause-kept
returns-clause-kept c =
    record_stays c.args.position c.args.self.now.by.entries c.put_reserved.new.self.entries tt (c.put_reserved.ensures ∙ ap (put nat_cmp c.args.position tt) c.reserve_one.ensures.entries)

pub returns-clause-was : goal.returns-clause-was
returns-clause-was c =
    then_stays c.args.position c.args.self.now.by.entries c.put_reserved.new.self.entries tt (c.put_reserved.ensures ∙ ap (put nat_cmp c.args.position tt) c.reserve_one.ensures.entries) c.args.self.now.gone c.reserve.new.self c.reserve.ensures c.args.self.now.until

pub returns-clause-noted : goal.returns-clause-noted
returns-clause-noted c =
    record_put c.args.position c.args.self.now.by.entries c.put_reserved.new.self.entries tt (c.put_reserved.ensures ∙ ap (put nat_cmp c.args.position tt) c.reserve_one.ensures.entries)
