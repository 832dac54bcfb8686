-- Before each connection what is left to split off from is a part of who answers.
use Rattle.up_accept.proofs.serving.fn.serve_each.scope.Given as goal

abbrev pub invariant-loop : goal.invariant-loop
invariant-loop g l = g.A.Attends.is_part l.attendant.now l.whole
