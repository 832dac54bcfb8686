-- The disks of the trees, then those of the store and the keys; each as it was left.
use Rattle.std.proofs.Common.{[], ◌∷◌, ◌++◌, map, ap, subst, ◌∙◌}
use Rattle.up_blocks.specs.Records.{blocks_in}
use Rattle.up_host.specs.Opens.{disk_of}
use Rattle.up_host.proofs.HandingLemmas.{behind}
use Rattle.up_disk.specs.Leaving.{LeavesNow}
use Rattle.up_journal.specs.Logs.{StandsForLog}
use Rattle.up_keys.specs.Records.{records_in}
use Rattle.up_host.proofs.host.Host.into_disks.Goals as goal

pub returns-clause-disks : goal.returns-clause-disks
returns-clause-disks g c =
    let trees = map disk_of c.self.inside.trees.items in
    let store = c.self.inside.store.state.disk in
    rw (← c.self.view_is)
    (behind _ trees _ _ _ _ _ c.into_disks-disks.ensures.none c.put_trees.ensures.disks c.put_back.ensures.disks c.put_back-2.ensures.disks
    ∙ ap (λ d. trees ++ d ∷ c.into_disk-2.result ∷ []) c.into_disk.ensures.disk
    ∙ ap (λ d. trees ++ store ∷ d ∷ []) c.into_disk-2.ensures.disk)

pub returns-clause-safe : goal.returns-clause-safe
returns-clause-safe g c =
    let store = c.self.inside.store.state in
    let keys = c.self.inside.keys.state in
    rw (← c.self.view_is) (record {
      trees = c.put_trees.ensures.safe;
      store = subst (λ d. LeavesNow g.D.Disk d (StandsForLog (blocks_in store.limits.largest) store.log store.further)) c.into_disk.ensures.disk c.into_disk.ensures.safe;
      keys = subst (λ d. LeavesNow g.D.Disk d (StandsForLog (records_in keys.limits.largest) keys.log keys.further)) c.into_disk-2.ensures.disk c.into_disk-2.ensures.safe;
    })
