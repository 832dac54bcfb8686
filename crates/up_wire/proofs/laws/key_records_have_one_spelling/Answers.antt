use Rattle.up_wire.proofs.KeyParts.{logged_messages}
use Rattle.up_wire.proofs.laws.key_records_have_one_spelling.Goals as goal

pub returns : goal.returns
returns c = logged_messages
