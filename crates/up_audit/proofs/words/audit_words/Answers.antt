-- No owner is a snapshot user.
use Rattle.up_audit.proofs.WordLemmas.{trees_found}
use Rattle.up_audit.proofs.words.audit_words.Goals as goal

pub returns-clause-plain : goal.returns-clause-plain
returns-clause-plain c = trees_found c.as_bytes.result.now c.in_ok-found.found c.in_ok-found.ensures
