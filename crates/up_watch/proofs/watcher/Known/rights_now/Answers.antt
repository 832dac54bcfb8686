use Rattle.std.proofs.Common.{◌≡◌, length, ap, ◌∙◌}
use Rattle.std.specs.Prelude.{IfOk}
use Rattle.up_list.specs.Looks.{rights}
use Rattle.up_watch.proofs.DecidedLemmas.{whole_rights}
use Rattle.up_watch.proofs.Told.{on_held}
use Rattle.up_watch.proofs.watcher.Known.rights_now.Goals as goal

pub returns-clause-held : goal.returns-clause-held
returns-clause-held c =
    let records : c.position-records.result ≡ length c.args.reader.now.log = c.position-records.ensures.count ∙ ap length c.tree.ensures.log in
    on_held c.rights_after.result _ _ (whole_rights c.args.reader.now c.position-records.result c.args.path.now records) c.rights_after.ensures.held
