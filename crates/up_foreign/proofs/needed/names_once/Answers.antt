use Rattle.up_foreign.proofs.needed.names_once.Goals as goal

pub names_for-names-requires : goal.names_for-names-requires
names_for-names-requires c = c.new-kept.ensures c.args.tree.now.owner c.args.tree.now.log c.args.loaded.now
