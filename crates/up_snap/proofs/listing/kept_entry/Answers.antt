use Rattle.std.proofs.Common.{ap, sym, ◌∙◌, subst, IfOk}
use Rattle.std.specs.Prelude.{◌≡◌, option_map}
use Rattle.up_names.specs.Faults.{Gives}
use Rattle.up_names.specs.PathNames.{joined}
use Rattle.up_mem_tree.specs.Nodes.{node_of}
use Rattle.up_snap.proofs.KeptLemmas.{entry_made}
use Rattle.up_snap.proofs.listing.kept_entry.Goals as goal

pub returns : goal.returns
returns c =
    subst (λ meant. IfOk c.moved_if.result (λ entry. entry ≡ meant))
    (entry_made c.args.tree.now.log c.args.dir.now c.args.n c.args.old.now (node_of c.in-Some.node) c.join.result c.in_ok-path.path
    (sym (ap (option_map node_of) c.in-Some.is) ∙ c.in_ok-node.ensures)
    (subst (λ x. Gives (λ p. p) c.join.result (joined c.args.dir.now x)) c.last_element.ensures c.join.ensures)
    (sym c.short_path.ensures ∙ c.in_ok-path.was))
    c.moved_if.ensures.moved
