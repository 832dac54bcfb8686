use Rattle.up_entry.proofs.RecParts.{rec_part, rec_messages}
use Rattle.up_entry.proofs.laws.records_have_one_spelling.Goals as goal

pub returns : goal.returns
returns c = record { fields = rec_part.fields; whole = rec_messages }
