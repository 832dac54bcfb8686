-- A line stands for each of the events so far.
use Rattle.std.proofs.Common.{◌≡◌, ◌++◌, map, take}
use Rattle.up_text.specs.Lines.{spaced}
use Rattle.up_text.specs.Replies.{event_words}
use Rattle.up_text.proofs.replies.add_events.Given as goal

abbrev pub invariant-loop-event : goal.invariant-loop-event
invariant-loop-event l =
    l.lines.items ≡ l.fn.lines.items ++ map (λ words. spaced words) (map (λ event. event_words event) (take l.event-index l.events))
