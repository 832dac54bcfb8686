use Rattle.std.proofs.Common.{[], List, Option, ap, ◌∙◌}
use Rattle.up_access.specs.declared.Rule.{Rule}
use Rattle.up_foreign.proofs.KeptLemmas.{begun, keeps_over}
use Rattle.up_foreign.specs.Kept.{named_by}
use Rattle.up_list.specs.Seen.{Seen}
use Rattle.up_log_tree.specs.Rights.{facts_of}
use Rattle.up_log_tree.specs.Trees.{tree_of}
use Rattle.up_policy.specs.Governors.{first_text, prefixes}
use Rattle.up_policy.specs.Reached.{with_paths}
use Rattle.up_foreign.proofs.kept.KeptSearch.make_ready.Goals as goal

pub returns-then-is_over : goal.returns-then-is_over
returns-then-is_over c = λ loaded keeps.
    let is = c.is_over.ensures c.if-is_over.true in
    keeps_over c.args.tree.now.owner loaded c.args.path.now c.args.tree.now.log c.args.self.now keeps (is.0 ∙ c.position-records.ensures.count) is.1

pub returns : goal.returns
returns c = λ loaded keeps.
    begun c.args.tree.now.owner loaded c.args.path.now c.args.tree.now.log c.begin.new.self c.position-records.ensures.log.plain (c.in_ok-begin.ensures.records ∙ c.position-records.ensures.count) c.in_ok-begin.ensures.path
    (c.in_ok-begin.ensures.met
    ∙ (ap (λ (text : Option (List Rule)). with_paths [] (named_by text)) c.nearest.ensures
    ∙ ap (λ (v : Seen). with_paths [] (named_by (first_text (facts_of v.owner (tree_of v.records)).access (prefixes c.args.path.now)))) c.new-view.ensures))
    c.in_ok-begin.ensures.next
