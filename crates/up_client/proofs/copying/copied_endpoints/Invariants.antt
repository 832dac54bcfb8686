-- the copies so far are those of the endpoints so far
use Rattle.std.proofs.Common.{◌≡◌, take}
use Rattle.up_client.proofs.copying.copied_endpoints.Given as goal

abbrev pub invariant-loop-endpoint : goal.invariant-loop-endpoint
invariant-loop-endpoint l = l.copies.items ≡ take l.endpoint-index l.endpoints
