use Rattle.up_entry.proofs.CheckedLemmas.{checked_kept}
use Rattle.up_entry.proofs.laws.checked_entries_keep_each_rule.Goals as goal

pub returns : goal.returns
returns c = λ put user checked is. (checked_kept put user).at checked is
