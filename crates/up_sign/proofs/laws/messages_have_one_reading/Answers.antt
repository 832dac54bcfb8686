use Rattle.up_sign.proofs.OneReadingLemmas.{have_one_reading}
use Rattle.up_sign.proofs.laws.messages_have_one_reading.Goals as goal

pub returns : goal.returns
returns c = have_one_reading
