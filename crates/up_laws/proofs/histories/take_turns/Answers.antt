use Rattle.up_laws.proofs.histories.take_turns.Goals as goal

pub returns : goal.returns
returns g c = record {
  replies = c.make_both-first.result;
  made = (c.make_both-first.ensures.first, c.make_both-first.ensures.second);
  kept = c.note.ensures.kept;
  stopped = c.note.ensures.stopped;
}
