use Rattle.up_entry.proofs.EntryParts.{any_part, whole_part}
use Rattle.up_entry.proofs.RawParts.{raw_part}
use Rattle.up_entry.proofs.laws.entries_have_one_spelling.Goals as goal

pub returns : goal.returns
returns c = record { any = any_part.fields; whole = whole_part.fields; raw = raw_part.fields }
