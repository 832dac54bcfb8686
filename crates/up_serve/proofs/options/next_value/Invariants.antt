-- What is left has all values of the option.
use Rattle.std.proofs.Common.{◌≡◌, ◌≤◌, length, map, string_bytes}
use Rattle.up_serve.specs.Plans.{values_of}
use Rattle.up_serve.proofs.options.next_value.Given as goal

abbrev pub invariant-loop-name : goal.invariant-loop-name
invariant-loop-name l =
    (values_of l.fn.option (map string_bytes l.left) ≡ values_of l.fn.option (map string_bytes l.fn.options)) × (length l.left ≤ length l.fn.options)

abbrev pub decreases-loop-name : goal.decreases-loop-name
decreases-loop-name l = length l.left
