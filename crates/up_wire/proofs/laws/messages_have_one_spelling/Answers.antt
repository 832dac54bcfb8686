use Rattle.up_wire.proofs.ClientParts.{client_messages}
use Rattle.up_wire.proofs.ServerParts.{server_messages}
use Rattle.up_wire.proofs.laws.messages_have_one_spelling.Goals as goal

pub returns : goal.returns
returns c = record { client = client_messages; server = server_messages }
