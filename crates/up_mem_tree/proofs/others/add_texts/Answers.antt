use Rattle.up_mem_tree.specs.Others.{named_by}
use Rattle.up_mem_tree.proofs.Othered.{texts_told}
use Rattle.up_mem_tree.proofs.others.add_texts.Goals as goal

pub returns-clause-added : goal.returns-clause-added
returns-clause-added c =
    texts_told c.args.owner.now c.add_group_text.result c.args.step.now (named_by c.add_parent.new.others c.args.position) (named_by c.add_group_text.new.others c.args.position) (c.add_group_text.ensures.kept.by c.args.position) c.in_ok-add_parent.ensures.added c.add_group_text.ensures.added
