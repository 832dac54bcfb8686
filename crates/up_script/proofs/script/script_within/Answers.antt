use Rattle.std.proofs.Common.{ap, Err}
-- What was run is what the source told; and where there was no memory to read it, nothing was run.
use Rattle.up_script.proofs.ScriptRunLemmas.{means_disk, means_helper, means_read, means_unread, unread_is_4}
use Rattle.up_script.proofs.WholeLemmas.{read_whole, unread_whole}
use Rattle.up_script.proofs.script.script_within.Goals as goal

pub returns-in-Ok-clause-means : goal.returns-in-Ok-clause-means
returns-in-Ok-clause-means g c status =
    means_read _ _ c.deref.result.now c.in-Ok.input.items _ _ _ _ _ _ _ _ c.deref.ensures.value c.in-Ok.ensures.bytes c.run_script.ensures.means

pub returns-in-Err-clause-means : goal.returns-in-Err-clause-means
returns-in-Err-clause-means g c status =
    means_unread _ _ _ _ _ _ _ (unread_is_4 _ c.in-Err.ensures.statuses status) c.requires.eighty c.requires.blank

-- a fault has its cause by what the lines mean
pub returns-in-Ok-clause-helper_fault : goal.returns-in-Ok-clause-helper_fault
returns-in-Ok-clause-helper_fault g c = means_helper _ _ _ _ _ _ _ _ _ _ (λ status. c.run_script.ensures.means)

pub returns-in-Ok-clause-disk_fault : goal.returns-in-Ok-clause-disk_fault
returns-in-Ok-clause-disk_fault g c = means_disk _ _ _ _ _ _ _ _ _ _ (λ status. c.run_script.ensures.means)

-- a script with which nothing is wrong and under which nothing fails
pub returns-in-Ok-clause-complete : goal.returns-in-Ok-clause-complete
returns-in-Ok-clause-complete g c source sink helper disk =
    read_whole _ _ _ _ _ _ _ _ _ _ _ _ (means_read _ _ c.deref.result.now c.in-Ok.input.items _ _ _ _ _ _ _ _ c.deref.ensures.value c.in-Ok.ensures.bytes c.run_script.ensures.means) c.run_script.ensures.status c.run_script.ensures.cause sink helper disk

pub returns-in-Err-clause-complete : goal.returns-in-Err-clause-complete
returns-in-Err-clause-complete g c source sink helper disk =
    unread_whole _ _ _ _ _ _ _ _ _ _ _ _ c.in-Err.ensures.statuses (λ two. c.in-Err.ensures.fault (ap Err two))
    (λ seven. c.in-Err.ensures.told_long (ap Err seven)) source
