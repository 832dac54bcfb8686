use Rattle.std.proofs.Common.{refl, ap, ◌∙◌}
use Rattle.up_list.specs.Seen.{Seen}
use Rattle.up_names.specs.PathOrder.{path_cmp}
use Rattle.up_log_tree.specs.Rights.{facts_of, group_paths}
use Rattle.up_log_tree.specs.Trees.{tree_of}
use Rattle.up_share.specs.Orders.{with_keys}
use Rattle.up_share.specs.Readers.{lacking}
use Rattle.up_share.proofs.KnownLemmas.{after_search}
use Rattle.up_share.proofs.ToldLemmas.{on_any}
use Rattle.up_share.proofs.known.Known.search.Goals as goal

pub returns-clause-searched : goal.returns-clause-searched
returns-clause-searched g c =
    on_any c.items_word.result (after_search c.args.state.now.owner (tree_of c.args.state.now.log) c.args.rules.now c.args.self.now (record { loaded = c.args.self.now.loaded; words = c.args.self.now.words; unread = c.all_readers.new.unread })
    c.requires refl refl
    (c.in_ok-items.ensures.unread ∙ ap (λ (seen : Seen). with_keys path_cmp c.args.self.now.unread.entries (lacking (facts_of seen.owner (tree_of seen.records)) (group_paths (tree_of seen.records)) c.args.self.now.loaded c.args.rules.now)) c.new-view.ensures))
