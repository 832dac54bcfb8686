use Rattle.up_journal.proofs.Images.{first_reads, made_reads, second_reads}
use Rattle.up_journal.proofs.laws.images_read_by_their_gates.Goals as goal

pub returns : goal.returns
returns c = record {
  second = λ largest image answer small fits long named. second_reads largest image answer small fits long named;
  first = λ largest image answer small fits long named. first_reads largest image answer small fits long named;
  made = λ largest log small fit. made_reads largest log small fit;
}
