use Rattle.up_frame.proofs.Readings.{one_reading, some_reading}
use Rattle.up_frame.proofs.laws.stream_has_one_reading.Goals as goal

pub returns : goal.returns
returns c = record { one = one_reading; some = some_reading }
