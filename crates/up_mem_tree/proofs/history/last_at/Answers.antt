use Rattle.std.proofs.Common.{◌≡◌, true, ◌+◌, ◌-◌, ◌/◌, ◌≤◌, ◌<◌, ℕ, List, length, get_or, ap, sym, subst, ◌∙◌, arith, take}
use Rattle.std.proofs.lemmas.List.{get_or_default}
use Rattle.up_mem_tree.specs.declared.history.Change.{Change}
use Rattle.up_mem_tree.specs.Histories.{are_rising, found}
use Rattle.up_mem_tree.proofs.Told.{found_front, none_left, told_by}
use Rattle.up_mem_tree.proofs.history.last_at.Invariants.{Bisected}
use Rattle.up_mem_tree.proofs.history.last_at.Goals as goal

at_middle : {X : Type 0} (changes : List (Change X)) (m i : ℕ) (d e : Change X) → m < length changes → i ≡ m → (get_or changes m e).position ≡ (get_or changes i d).position
at_middle changes m i d e lt is = ap (λ (c : Change _). c.position) (get_or_default changes m e d lt ∙ ap (λ k. get_or changes k d) (sym is))

raised : {X : Type 0} (changes : List (Change X)) (n low high middle : ℕ) (r : Change X) → Bisected changes n low high → middle < high → (get_or changes middle r).position ≤ n → Bisected changes n (middle + 1) high
raised changes n low high middle r so_far lt early = record {
  order = omega (arith, lt);
  bound = so_far.bound;
  before = λ i d next. let same = at_middle changes middle i d r (omega (arith, lt, so_far.bound)) (omega (arith, next)) in omega (arith, same, early);
  from = so_far.from;
}

lowered : {X : Type 0} (changes : List (Change X)) (n low high middle : ℕ) (r : Change X) → Bisected changes n low high → low ≤ middle → middle < high → n < (get_or changes middle r).position → Bisected changes n low middle
lowered changes n low high middle r so_far le lt late = record {
  order = le;
  bound = omega (arith, lt, so_far.bound);
  before = so_far.before;
  from = λ d within. let same = at_middle changes middle middle d r within (omega arith) in omega (arith, same, late);
}

pub loop-low-preserved-then-changes-middle : goal.loop-low-preserved-then-changes-middle
loop-low-preserved-then-changes-middle g c =
    raised c.args.changes.now c.args.n c.loop-low.low c.loop-low.high (c.loop-low.low + (c.loop-low.high - c.loop-low.low) / 2) _ c.loop-low.invariant (omega (arith, c.loop-low-test.true)) c.if-changes-middle.true

pub loop-low-preserved : goal.loop-low-preserved
loop-low-preserved g c =
    lowered c.args.changes.now c.args.n c.loop-low.low c.loop-low.high (c.loop-low.low + (c.loop-low.high - c.loop-low.low) / 2) _ c.loop-low.invariant (omega arith) (omega (arith, c.loop-low-test.true)) c.if-changes-middle.false

at_end : {X : Type 0} (changes : List (Change X)) (m n last low high : ℕ) → m ≤ n → are_rising last changes ≡ true → Bisected changes n low high → high ≤ low → found m changes ≡ found m (take low changes)
at_end changes m n last low high few rising so_far end =
    let same : high ≡ low = omega (arith, end, so_far.order) in
    found_front m last high changes rising (λ d within. let late = so_far.from d within in omega (arith, late, few)) ∙ ap (λ k. found m (take k changes)) same

pub returns-then-low-eq0-clause-told : goal.returns-then-low-eq0-clause-told
returns-then-low-eq0-clause-told g c = λ m few.
    at_end c.args.changes.now m c.args.n c.args.last c.loop-low.low c.loop-low.high few c.requires c.loop-low.invariant c.loop-low-test.false ∙ none_left m c.loop-low.low c.args.changes.now c.if-low-eq0.true

early_at : {X : Type 0} (changes : List (Change X)) (n low high : ℕ) (change : Change X) → Bisected changes n low high → (low ≡ 0 → ⊥) → change ≡ get_or changes (low - 1) change → change.position ≤ n
early_at changes n low high change so_far some is =
    let next : low ≡ (low - 1) + 1 = omega (arith, some) in
    subst (λ (x : Change _). x.position ≤ n) (sym is) (so_far.before (low - 1) change (sym next))

pub returns-clause-early : goal.returns-clause-early
returns-clause-early g c = early_at c.args.changes.now c.args.n c.loop-low.low c.loop-low.high c.index-changes-low.result c.loop-low.invariant c.if-low-eq0.false c.index-changes-low.is

last_told : {X : Type 0} (changes : List (Change X)) (m n last low high : ℕ) (change : Change X) → m ≤ n → are_rising last changes ≡ true → Bisected changes n low high → high ≤ low → (low ≡ 0 → ⊥) → change ≡ get_or changes (low - 1) change
    → change.position ≤ m → change.text ≡ found m changes
last_told changes m n last low high change few rising so_far end some is early =
    let next : low ≡ (low - 1) + 1 = omega (arith, some) in
    sym (at_end changes m n last low high few rising so_far end ∙ told_by m (low - 1) low changes change (omega (arith, next, so_far.order, so_far.bound, end)) is next early)

pub returns-clause-told : goal.returns-clause-told
returns-clause-told g c = λ m few early.
    last_told c.args.changes.now m c.args.n c.args.last c.loop-low.low c.loop-low.high c.index-changes-low.result few c.requires c.loop-low.invariant c.loop-low-test.false c.if-low-eq0.false c.index-changes-low.is early
