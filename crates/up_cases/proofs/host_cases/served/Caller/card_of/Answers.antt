use Rattle.up_together.proofs.SittingLemmas.{sits_by_marks}
use Rattle.up_cases.proofs.host_cases.served.Caller.card_of.Goals as goal

pub key_record-requires : goal.key_record-requires
key_record-requires g c = sits_by_marks c.args.self.now.shared.now c.args.self.now.seats.now c.args.self.now.sits
