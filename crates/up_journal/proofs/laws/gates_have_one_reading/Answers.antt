use Rattle.up_journal.proofs.Images.{exactly, one_reading}
use Rattle.up_journal.proofs.laws.gates_have_one_reading.Goals as goal

pub returns : goal.returns
returns c = record {
  one = λ format largest gate link bytes answer other good small long one two. one_reading format good largest small gate link bytes answer other long one two;
  exactly = λ format largest gate most link bytes answer good small long fits some enough. exactly format good largest small gate most link bytes answer long fits some enough;
}
