use Rattle.std.proofs.Common.{◌≡◌}
use Rattle.up_shared.proofs.Telling.{keys_answered, keys_calm, keys_looked, tied_keys}
use Rattle.up_wire.specs.declared.replies.Reply.TheVariants as reply
use Rattle.up_shared.proofs.caller.CallerLogs.ask_keys.Goals as goal

pub returns-clause-told : goal.returns-clause-told
returns-clause-told g c =
    let t = c.lend_keys.ensures in
    keys_answered g.D.Disk _ _ c.lend_keys.new.job c.args.self.now.shared.now c.args.self.now.seats.now c.lend_keys.new.seats c.requires.ready t
    (record { user = c.args.user.now; request = c.args.request.now }) c.requires.sound
    c.lend_keys.new.job.came.0 c.lend_keys.new.job.came.1 t.turn.did_it

pub returns-clause-left : goal.returns-clause-left
returns-clause-left g c =
    let t = c.lend_keys.ensures in
    keys_looked g.D.Disk _ _ c.lend_keys.new.job c.args.self.now.shared.now c.args.self.now.seats.now c.lend_keys.new.seats c.requires.ready t
    c.lend_keys.new.job.came.1 t.turn.did_it.position_is

pub returns-clause-tie : goal.returns-clause-tie
returns-clause-tie g c =
    tied_keys g.D.Disk _ _ c.lend_keys.new.job c.args.self.now.shared.now c.args.self.now.seats.now c.lend_keys.new.seats c.requires.ready c.lend_keys.ensures
    c.args.self.now.seats.ghost_name

pub returns-clause-quiet : goal.returns-clause-quiet
returns-clause-quiet g c =
    let t = c.lend_keys.ensures in
    keys_calm g.D.Disk _ _ c.lend_keys.new.job c.args.self.now.shared.now c.args.self.now.seats.now c.lend_keys.new.seats c.requires.ready t
    (c.lend_keys.new.job.came.0 ≡ reply.Io) t.turn.did_it.quiet
