-- Each turn takes a word that is a right.
use Rattle.up_access.proofs.RightsLemmas.{rights_more}
use Rattle.up_access.proofs.parsing.parse_rights.Goals as goal

pub loop-word-preserved : goal.loop-word-preserved
loop-word-preserved c =
    rw c.union-rights.ensures (rights_more c.loop-word.rest.now c.in-Some.word.now c.in-Some.after.now c.loop-word.rights c.in_ok-read_right.field-0 _ c.in-Some.ensures.words c.in_ok-read_right.ensures c.loop-word.invariant)
