-- What a client and who answers it say to each other on a connection. This project's own.
use Rattle.std.specs.Prelude.{◌≡◌, ◌≢◌, ℕ, List, Option, Some, None}
use Rattle.up_talk.specs.declared.message.FromClient.{FromClient}
use Rattle.up_talk.specs.declared.message.FromClient.TheVariants as says
use Rattle.up_wire.specs.Spelling.{FitsClient, client, server}
use Rattle.up_wire.specs.declared.messages.ClientFrame.TheVariants as clients
use Rattle.up_wire.specs.declared.messages.ServerFrame.TheVariants as servers

-- what is said to a client: a challenge, that it has signed on, that it has not, or an answer
pub data ToClient (R : Type 0) : Type 0 where
  Challenge : List ℕ → ToClient R
  Welcome : ToClient R
  NotSigned : ToClient R
  Answer : R → ToClient R

-- the payload of what a client says, by the payload of each question
abbrev pub payload_from : {Q : Type 0} → (Q → List ℕ) → FromClient Q → List ℕ
payload_from asking (says.Hello text) = client (clients.Hello text)
payload_from asking (says.Proof signature) = client (clients.Proof signature)
payload_from asking (says.Ask question) = asking question
payload_from asking says.Bye = client clients.Bye

-- which of it has a spelling, by the questions that have one
abbrev pub Fits : {Q : Type 0} → (Q → Type 0) → FromClient Q → Type 0
Fits fits (says.Hello text) = FitsClient (clients.Hello text)
Fits fits (says.Proof signature) = FitsClient (clients.Proof signature)
Fits fits (says.Ask question) = fits question
Fits fits says.Bye = FitsClient clients.Bye

-- the payload of what is said to a client, by the payload of each answer
abbrev pub payload_to : {R : Type 0} → (R → List ℕ) → ToClient R → List ℕ
payload_to answering (ToClient.Challenge nonce) = server (servers.Challenge nonce)
payload_to answering ToClient.Welcome = server servers.Welcome
payload_to answering ToClient.NotSigned = server servers.NotSigned
payload_to answering (ToClient.Answer answer) = answering answer

-- the question that has this payload, or none has it
abbrev pub Asks : {Q : Type 0} → (Q → List ℕ) → (Q → Type 0) → List ℕ → Option Q → Type 0
Asks asking fits payload (Some question) = (asking question ≡ payload) × fits question
Asks {Q} asking fits payload None = (question : Q) → fits question → asking question ≢ payload
