-- Requests to a host, as the questions of a connection.
use Rattle.std.proofs.Common.{◌≡◌, ◌≢◌, ℕ, List, sym, ◌∙◌, Ok, Err}
use Rattle.up_bytes.specs.Forms.{IsBytes}
use Rattle.up_bytes.specs.declared.fault.FieldFault.{FieldFault}
use Rattle.up_talk.specs.Requests.{FitsRequest, request_payload}
use Rattle.up_talk.proofs.ReadingLemmas.{one_message}
use Rattle.up_wire.proofs.ClientParts.{client_messages}
use Rattle.up_wire.specs.Reading.{client_of}
use Rattle.up_wire.specs.Spelling.{FitsClient, client}
use Rattle.up_wire.specs.declared.messages.ClientFrame.{ClientFrame}
use Rattle.up_wire.specs.declared.messages.ClientFrame.TheVariants as clients
use Rattle.up_wire.specs.declared.requests.Request.{Request}

-- a payload is that of one request
pub one_request : (p q : Request) → FitsRequest p → FitsRequest q → request_payload p ≡ request_payload q → p ≡ q
one_request p q fits others same = let one : clients.Ask p ≡ clients.Ask q = one_message (clients.Ask p) (clients.Ask q) fits others same in cc

-- and not that of another message
pub no_request_by : (payload : List ℕ) (g : ClientFrame) → payload ≡ client g → FitsClient g → ((q : Request) → clients.Ask q ≢ g) → (q : Request) → FitsRequest q → request_payload q ≢ payload
no_request_by payload g spelled others apart q fits same = apart q (one_message (clients.Ask q) g fits others (same ∙ spelled))

pub request_no_bye : (q : Request) → FitsRequest q → request_payload q ≢ client clients.Bye
request_no_bye q fits same = let one : clients.Ask q ≡ clients.Bye = one_message (clients.Ask q) clients.Bye fits (tt, tt) same in absurd (cc)

-- it is that of no message
pub no_request_at : (payload : List ℕ) (fault : FieldFault) → IsBytes payload → client_of payload ≡ Err fault → (q : Request) → FitsRequest q → request_payload q ≢ payload
no_request_at payload fault bytes read q fits same =
    let again : client_of payload ≡ Ok (clients.Ask q) = (client_messages.exact payload (clients.Ask q) bytes).1 (fits, sym same) in absurd (cc)
