-- A line stands for each of the events so far.
use Rattle.std.proofs.Common.{◌≡◌, ◌++◌, map, take}
use Rattle.std.specs.List.{flat_map}
use Rattle.up_text.specs.Lines.{spaced}
use Rattle.up_text.specs.Replies.{event_words, line_behind}
use Rattle.up_text.proofs.replies.push_events.Given as goal

abbrev pub invariant-loop-event : goal.invariant-loop-event
invariant-loop-event l =
    l.out.items ≡ l.fn.out.items ++ flat_map (λ words. line_behind l.fn.front (spaced words)) (map (λ event. event_words event) (take l.event-index l.events))
