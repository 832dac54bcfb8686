use Rattle.std.proofs.Common.{◌≡◌, ℤ, [], subst, w64, to_z, of_z}
use Rattle.std.proofs.Math.Facts.{to_z-of_z}
use Rattle.up_client.specs.Putting.{entering, pieces_of, storing}
use Rattle.up_client.specs.Talks.{Talks}
use Rattle.up_client.proofs.Exits.{exit_stop, exit_then}
use Rattle.up_client.proofs.putting.put_file.Goals as goal

pub returns-in_err-blocks : goal.returns-in_err-blocks
returns-in_err-blocks g c =
    exit_stop g.A.Ask g.met.A.Ask.same g.met.A.Ask.joined (storing 0 (pieces_of c.args.bytes.now) []) (entering c.args.user.now c.args.time c.args.sequence c.args.path.now)
    c.args.ask.now c.store_all.new.ask c.store_all.result c.in_err-blocks.field-0.0 c.from_residual.result c.store_all.ensures c.in_err-blocks.was c.from_residual.ensures.1

pub returns : goal.returns
returns g c =
    let time : to_z w64 (of_z w64 c.args.time) ≡ c.args.time = to_z-of_z c.ranges.time in
    let sequence : to_z w64 (of_z w64 c.args.sequence) ≡ c.args.sequence = to_z-of_z c.ranges.sequence in
    let at : ℤ → ℤ → Type 0 = λ t s. Talks g.A.Ask (entering c.args.user.now t s c.args.path.now c.as_slice.result.now) c.store_all.new.ask c.enter.result c.enter.new.ask in
    let entered : at c.args.time c.args.sequence =
    subst (λ (s : ℤ). at c.args.time s) sequence (subst (λ (t : ℤ). at t (to_z w64 (of_z w64 c.args.sequence))) time c.enter.ensures) in
    exit_then g.A.Ask g.met.A.Ask.same g.met.A.Ask.joined (storing 0 (pieces_of c.args.bytes.now) []) (entering c.args.user.now c.args.time c.args.sequence c.args.path.now)
    c.args.ask.now c.store_all.new.ask c.enter.new.ask c.store_all.result c.in_ok-blocks.blocks c.enter.result c.store_all.ensures c.in_ok-blocks.was (rw (← c.as_slice.ensures) entered)
