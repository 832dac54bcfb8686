use Rattle.up_mem_tree.proofs.namings.first_of.Goals as goal

pub returns : goal.returns
returns c = λ n changed less is under met. c.lasting.ensures n (c.first_reached-first.ensures c.args.naming.until n changed less is under met) met.lasts
