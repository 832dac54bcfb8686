use Rattle.std.proofs.Common.{◌-◌, ap, arith}
use Rattle.up_journal.proofs.Spans.{behind_at, seen_at}
use Rattle.up_journal.proofs.journal.Journal.gate_of.Goals as goal

pub overflow_sub-result : goal.overflow_sub-result
overflow_sub-result g c =
    let j = c.self.inside in
    let seen = seen_at j.spans.items c.args.self.now.sizes c.args.n c.index.result.now (ap (λ v. v.sizes) c.self.view_is) c.requires.first c.requires.last c.index.ensures in
    omega (arith, behind_at 37 j.spans.items (c.args.n - 1) 8 j.gate c.index.result.now c.self.invariant.gates.placed seen)

pub returns : goal.returns
returns g c =
    let j = c.self.inside in
    let seen = seen_at j.spans.items c.args.self.now.sizes c.args.n c.index.result.now (ap (λ v. v.sizes) c.self.view_is) c.requires.first c.requires.last c.index.ensures in
    rw (← c.self.view_is) (omega (arith, behind_at 37 j.spans.items (c.args.n - 1) 8 j.gate c.index.result.now c.self.invariant.gates.placed seen))
