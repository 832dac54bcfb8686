use Rattle.std.proofs.Common.{sym, ap, subst, ◌∙◌}
use Rattle.std.specs.FinMap.Entries.{put}
use Rattle.up_names.specs.PathOrder.{path_cmp}
use Rattle.up_foreign.specs.Reaching.{IsLeftAt}
use Rattle.up_foreign.proofs.LeftLemmas.{put_here, put_left}
use Rattle.up_foreign.proofs.left.add_path.Goals as goal

pub returns-clause-kept : goal.returns-clause-kept
returns-clause-kept c =
    put_left c.args.groups.now.entries c.put_reserved.new.self.entries c.args.group c.earliest-first.result (c.put_reserved.ensures ∙ ap (put path_cmp c.args.group c.earliest-first.result) c.reserve_one.ensures.entries)
    (λ n there. c.earliest-first.ensures.was n (subst (λ left. IsLeftAt left n c.args.group) (sym c.reserve_one.ensures.entries) there))

pub returns-clause-added : goal.returns-clause-added
returns-clause-added c =
    put_here c.args.groups.now.entries c.put_reserved.new.self.entries c.args.group c.earliest-first.result (c.put_reserved.ensures ∙ ap (put path_cmp c.args.group c.earliest-first.result) c.reserve_one.ensures.entries)
    c.args.from c.earliest-first.ensures.from
