-- What was read so far, and then what is left, is what has to be read.
use Rattle.std.proofs.Common.{◌≡◌, ◌-◌, []}
use Rattle.up_bytes.specs.Reading.{items_at, text_at}
use Rattle.up_bytes.proofs.Repeated.{with_front}
use Rattle.up_feed_wire.proofs.texts.take_items.Given as goal

abbrev pub invariant-loop : goal.invariant-loop
invariant-loop l = with_front l.texts (items_at text_at (l.count - l.counter) l.input) ≡ with_front [] (items_at text_at l.count l.initial.input)
