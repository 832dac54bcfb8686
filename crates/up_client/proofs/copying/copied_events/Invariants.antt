-- the copies so far are those of the events so far
use Rattle.std.proofs.Common.{◌≡◌, take}
use Rattle.up_client.proofs.copying.copied_events.Given as goal

abbrev pub invariant-loop-event : goal.invariant-loop-event
invariant-loop-event l = l.copies.items ≡ take l.event-index l.events
