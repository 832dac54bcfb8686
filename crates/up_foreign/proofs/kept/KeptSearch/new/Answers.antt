use Rattle.std.proofs.Common.{arith, sym}
use Rattle.up_log_tree.proofs.Paths.{some_none}
use Rattle.up_foreign.proofs.kept.KeptSearch.new.Goals as goal

pub returns : goal.returns
returns c = λ owner records loaded. record { within = omega arith; reached = λ path at. absurd (some_none path (sym at)) }
