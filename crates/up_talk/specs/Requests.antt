-- Requests to a host, as the questions of a connection. This project's own.
use Rattle.std.specs.Prelude.{ℕ, List}
use Rattle.up_wire.specs.Spelling.{FitsClient, client}
use Rattle.up_wire.specs.declared.messages.ClientFrame.TheVariants as clients
use Rattle.up_wire.specs.declared.requests.Request.{Request}

-- the payload of a request
abbrev pub request_payload : Request → List ℕ
request_payload request = client (clients.Ask request)

-- the requests that have a spelling
abbrev pub FitsRequest : Request → Type 0
FitsRequest request = FitsClient (clients.Ask request)
