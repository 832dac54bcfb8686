-- The endpoints so far are added, each behind a comma.
use Rattle.std.proofs.Common.{◌≡◌, ◌++◌, codes, take}
use Rattle.std.specs.List.{flat_map}
use Rattle.up_text.specs.Entries.{endpoint_word}
use Rattle.up_text.proofs.entries.push_further_endpoints.Given as goal

abbrev pub invariant-loop-endpoint : goal.invariant-loop-endpoint
invariant-loop-endpoint l =
    l.out.items ≡ l.fn.out.items ++ flat_map (λ endpoint. codes "," ++ endpoint_word endpoint) (take l.endpoint-index l.endpoints)
