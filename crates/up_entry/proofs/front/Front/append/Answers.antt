use Rattle.std.proofs.Common.{rules, append_assoc}
use Rattle.std.proofs.lemmas.Result.{IfOk-equal}
use Rattle.up_entry.proofs.front.Front.append.Goals as goal

pub returns-clause-appended : goal.returns-clause-appended
returns-clause-appended c = search (rules, IfOk-equal, append_assoc)
