use Rattle.std.proofs.Common.{ap, ◌∙◌}
use Rattle.std.specs.FinMap.Entries.{find, put}
use Rattle.up_names.specs.PathOrder.{path_cmp}
use Rattle.up_mem_tree.proofs.Held.{added_found, added_one}
use Rattle.up_mem_tree.proofs.others.Others.add.Goals as goal

pub returns-clause-kept : goal.returns-clause-kept
returns-clause-kept c =
    added_one c.args.self.now _ c.args.group c.len-id.result _ c.reserve.new.self.items (c.put_reserved.ensures ∙ ap (put path_cmp c.args.group c.len-id.result) c.reserve_one.ensures.entries)
    c.push_reserved.ensures.items c.reserve.ensures.items c.requires

pub returns-clause-number : goal.returns-clause-number
returns-clause-number c = ap (find path_cmp c.args.group) c.put_reserved.ensures ∙ added_found c.args.group c.len-id.result c.reserve_one.new.self.entries
