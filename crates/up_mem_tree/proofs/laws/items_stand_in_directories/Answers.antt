use Rattle.up_log_tree.proofs.Rooted.{rooted}
use Rattle.up_mem_tree.proofs.laws.items_stand_in_directories.Goals as goal

pub returns : goal.returns
returns c = record {
  named = λ owner records fitting. (rooted owner records fitting).named;
  placed = λ owner records fitting. (rooted owner records fitting).placed;
}
