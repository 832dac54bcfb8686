use Rattle.up_entry.proofs.EntryFields.{path_part, user_part, endpoint_part}
use Rattle.up_entry.proofs.EntryParts.{blocks_part}
use Rattle.up_entry.proofs.laws.parts_have_one_spelling.Goals as goal

pub returns : goal.returns
returns c = record { path = path_part.fields; user = user_part.fields; endpoint = endpoint_part.fields; blocks = blocks_part.fields }
