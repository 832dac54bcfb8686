use Rattle.std.proofs.Common.{rules}
use Rattle.std.proofs.lemmas.List.MinMax.{ranks_by}
use Rattle.std.proofs.lemmas.List.Sorted.{answers_always}
use Rattle.up_names.specs.PathOrderLaws.{path_cmp_total}
use Rattle.up_wire.specs.declared.replies.WatchEvent.{WatchEvent}
use Rattle.up_watch.specs.Watching.{is_before}
use Rattle.up_list.proofs.GlobLemmas.{on_ok}
use Rattle.up_watch.proofs.items.sort_events.Goals as goal

pub returns-clause-sorted : goal.returns-clause-sorted
returns-clause-sorted c =
    on_ok c.sort_by.result _ _ (λ h. h is_before (ranks_by path_cmp_total (λ (event : WatchEvent). event.entry.name)) (answers_always _ _ _ (λ f a r f' k. search rules))) c.sort_by.ensures.sorted

pub returns-clause-stable : goal.returns-clause-stable
returns-clause-stable c = c.sort_by.ensures.stable is_before (ranks_by path_cmp_total (λ (event : WatchEvent). event.entry.name)) (answers_always _ _ _ (λ f a r f' k. search rules))
