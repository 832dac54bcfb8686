use Rattle.std.proofs.Common.{◌≡◌, ℕ, List, ◌+◌, ◌-◌, ◌∷◌, ◌++◌, [], take, drop, sym, subst, arith}
use Rattle.std.proofs.lemmas.List.{take_rest}
use Rattle.up_frame.specs.Cutting.{Cuts, IsWhole}
use Rattle.up_frame.proofs.Cuts.{Cuts-more}
use Rattle.up_frame.proofs.cutting.frames_in.Goals as goal

pub loop-length-preserved : goal.loop-length-preserved
loop-length-preserved c =
    let bytes = c.args.bytes.now in
    let held = c.loop-length.payloads.items in
    let n = c.loop-length.len in
    let k = c.in-Whole.length in
    let whole = subst (λ (b : List ℕ). IsWhole c.args.limit b k) (take_rest bytes n) c.in-Whole.ensures in
    let more = Cuts-more c.args.limit bytes held n k (λ i. omega (arith, c.type_inv.bytes i)) c.loop-length.invariant whole in
    let count : n + 4 + k - (n + 4) ≡ k = omega arith in
    rw (c.in_ok-push_back-in-Whole.ensures.items, c.from_vec.ensures, c.in_ok-payload-in-Whole.ensures.items)
    (subst (λ (j : ℕ). Cuts c.args.limit bytes (held ++ take j (drop (n + 4) bytes) ∷ []) (n + 4 + k)) (sym count) more)
