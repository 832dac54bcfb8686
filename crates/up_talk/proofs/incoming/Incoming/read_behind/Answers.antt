use Rattle.std.proofs.Common.{◌≡◌, ◌≤◌, ◌<◌, ◌+◌, ◌-◌, ◌++◌, ℕ, List, take, drop, ap, ◌∙◌, arith, length, rules}
use Rattle.std.proofs.lemmas.List.{length-drop, length-take-le}
use Rattle.up_lists.proofs.Causes.{HasCause-weaker}
use Rattle.up_talk.specs.Incoming.{Held}
use Rattle.up_talk.proofs.WindowLemmas.{held_is, window_kept, window_more, window_put}
use Rattle.up_talk.proofs.incoming.Incoming.read_behind.Goals as goal

pub returns-in-Ok : goal.returns-in-Ok
returns-in-Ok g c =
    let i = c.self.inside in
    let xs = c.deref_mut.result.now in
    let count = c.in-Ok.count in
    let buf = c.read.new.buf in
    let same = c.self.view_is in
    let value : xs ≡ i.buffer.items = c.deref_mut.ensures.value in
    let long : length xs ≡ length i.buffer.items = ap length value in
    let some : i.start ≤ i.end = c.self.invariant.0 in
    let most : i.end ≤ length i.buffer.items = c.self.invariant.1 in
    let m = c.min-most.result in
    let k = i.end + m - i.end in
    let room : m ≤ 65536 = omega (arith, c.min-most.ensures) in
    let there : i.end + m ≤ length i.buffer.items = omega (arith, c.min-most.ensures, c.len.ensures) in
    let size : length buf ≡ k = c.read.auto.buf ∙ length-take-le k (drop i.end xs) (omega (arith, length-drop i.end xs)) in
    let back = window_put xs buf i.buffer.items i.buffer.len i.end k (omega arith) size (omega (arith, c.deref_mut.ensures.len, c.len.ensures)) (omega (arith, c.deref_mut.ensures.len, c.len.ensures)) in
    let roomy : 0 < m = omega (arith, c.if-most-eq0.false) in
    let few : count ≤ length buf = c.in-Ok.ensures.bound.0 in
    record {
      piece = take count buf;
      long = length-take-le count buf few;
      most = omega arith;
      handled = ap (λ (h : Held). h.handled) same;
      bytes = ap (λ (l : List ℕ). take (i.end + count - i.start) (drop i.start l)) back ∙ window_more xs buf _ i.start i.end count some (omega arith) few ∙ ap (λ (l : List ℕ). take (i.end - i.start) (drop i.start l) ++ take count buf) value ∙ ap (λ (h : Held). h.bytes ++ take count buf) same;
      taken = c.in-Ok.ensures.bytes.0;
      end = λ none. c.in-Ok.ensures.bytes.1 none (omega arith);
      given = c.in-Ok.ensures.counted;
      quiet = c.in-Ok.ensures.quiet.stays (λ failed. cc);
    }

pub returns-in-Err : goal.returns-in-Err
returns-in-Err g c =
    let i = c.self.inside in
    let xs = c.deref_mut.result.now in
    let buf = c.read.new.buf in
    let same = c.self.view_is in
    let value : xs ≡ i.buffer.items = c.deref_mut.ensures.value in
    let long : length xs ≡ length i.buffer.items = ap length value in
    let some : i.start ≤ i.end = c.self.invariant.0 in
    let most : i.end ≤ length i.buffer.items = c.self.invariant.1 in
    let m = c.min-most.result in
    let k = i.end + m - i.end in
    let room : m ≤ 65536 = omega (arith, c.min-most.ensures) in
    let there : i.end + m ≤ length i.buffer.items = omega (arith, c.min-most.ensures, c.len.ensures) in
    let size : length buf ≡ k = c.read.auto.buf ∙ length-take-le k (drop i.end xs) (omega (arith, length-drop i.end xs)) in
    let back = window_put xs buf i.buffer.items i.buffer.len i.end k (omega arith) size (omega (arith, c.deref_mut.ensures.len, c.len.ensures)) (omega (arith, c.deref_mut.ensures.len, c.len.ensures)) in
    record {
      same = held_is _ _ c.args.self.now (ap (λ (h : Held). h.handled) same)
          (ap (λ (l : List ℕ). take (i.end - i.start) (drop i.start l)) back ∙ window_kept xs _ i.start i.end some (omega arith) ∙ ap (λ (l : List ℕ). take (i.end - i.start) (drop i.start l)) value ∙ ap (λ (h : Held). h.bytes) same);
      kept = c.in-Err.ensures.bytes;
      given = c.in-Err.ensures.counted;
      rose = c.read.ensures.cause.rose (search rules);
      cause = HasCause-weaker _ _ _ ⊥ c.in-Err.ensures.cause (λ failed. absurd failed);
    }
