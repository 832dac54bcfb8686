-- What was run is what the source told; and where there was no memory to read it, nothing was run.
use Rattle.up_following.proofs.AnswerLemmas.{input_back, input_six, means_nothing, means_read, unread_is_4}
use Rattle.up_following.proofs.follow.follow_within.Goals as goal

pub returns-in-Ok-clause-means : goal.returns-in-Ok-clause-means
returns-in-Ok-clause-means g c status = means_read _ _ _ _ _ _ _ _ _ _ _ _ c.deref.result.now c.in-Ok.input.items c.deref.ensures.value c.in-Ok.ensures.bytes c.run_input.ensures.follows

pub returns-in-Err-clause-means : goal.returns-in-Err-clause-means
returns-in-Err-clause-means g c status = means_nothing _ _ _ _ _ _ _ _ _ (unread_is_4 _ c.in-Err.ensures.statuses status)

pub returns-in-Ok-clause-disk_fault : goal.returns-in-Ok-clause-disk_fault
returns-in-Ok-clause-disk_fault g c six = input_six _ _ _ _ _ _ _ _ _ _ _ _ c.run_input.ensures.follows six

pub returns-in-Ok-clause-disk_back : goal.returns-in-Ok-clause-disk_back
returns-in-Ok-clause-disk_back g c = input_back _ _ _ _ _ _ _ _ _ _ _ _ c.run_input.ensures.follows
