use Rattle.std.proofs.Common.{◌≡◌, ◌∙◌, true, false, length, arith, rules, ap, sym}
use Rattle.std.specs.Str.{chars}
use Rattle.std.proofs.lemmas.List.{nil_from_length}
use Rattle.up_pattern.specs.Matching.{matches, stands_for, is_many}
use Rattle.up_pattern.proofs.Stars.{walk_starts, walk-many_at, walk-one_at, walk-back, walk-end, stuck-none, stuck-other}
use Rattle.up_pattern.proofs.matching.matches_somewhere.Goals as goal
use Rattle.up_pattern.proofs.matching.matches_somewhere.Goals.{in_default-split_first-via-in-Some-2+else-stands_for, in_default-split_first-via-in_default-split_first}

pub loop-c-init : goal.loop-c-init
loop-c-init c = record {
  from_is_text = search rules;
  rest_is_text = search rules;
  walk = walk_starts c.args.terms.now (chars c.args.text.now);
  again_bound = omega arith;
  left_bound = omega arith;
  rest_bound = omega arith;
}

pub loop-c-preserved-then-is_many : goal.loop-c-preserved-then-is_many
loop-c-preserved-then-is_many c =
    let inv = c.loop-c.invariant in
    let terms = c.in-Some-split_first.ensures.cases.0 in
    let shorter = c.in-Some-split_first.ensures.cases.1 in
    let many : is_many c.in-Some-split_first.term.now ≡ true = search rules in
    record {
      from_is_text = inv.rest_is_text;
      rest_is_text = inv.rest_is_text;
      walk = walk-many_at _ _ _ _ _ _ _ terms many inv.walk;
      again_bound = omega arith;
      left_bound = omega arith;
      rest_bound = omega arith;
    }

pub loop-c-preserved-then-stands_for : goal.loop-c-preserved-then-stands_for
loop-c-preserved-then-stands_for c =
    let inv = c.loop-c.invariant in
    let terms = c.in-Some-split_first.ensures.cases.0 in
    let text = c.in-Some.ensures in
    let size = ap length text in
    let shorter = c.in-Some-split_first.ensures.cases.1 in
    let one : is_many c.in-Some-split_first.term.now ≡ false = search rules in
    let same : c.in-Some-2.term ≡ c.in-Some-split_first.term = cc in
    let taken_there : stands_for c.in-Some-2.term.now c.in-Some.c ≡ true = search rules in
    let taken : stands_for c.in-Some-split_first.term.now c.in-Some.c ≡ true = rw same at taken_there in
    record {
      from_is_text = inv.from_is_text;
      rest_is_text = search rules;
      walk = walk-one_at _ _ _ _ _ _ _ _ _ terms text one taken inv.walk;
      again_bound = omega arith;
      left_bound = omega arith;
      rest_bound = omega arith;
    }

pub loop-c-preserved : goal.loop-c-preserved
loop-c-preserved c =
    let inv = c.loop-c.invariant in
    let text = c.in-Some-first_char.ensures in
    let stuck : matches c.loop-c.left.now (chars c.loop-c.rest.now) ≡ false = elim c.in_default-split_first.branch [
      | in_default-split_first-via-in-Some-2+else-stands_for w ↦
          let one : is_many w.in-Some-split_first.term.now ≡ false = search rules in
          let same : w.in-Some-2.term ≡ w.in-Some-split_first.term = cc in
          let other_there : stands_for w.in-Some-2.term.now c.in-Some.c ≡ false = search rules in
          let other : stands_for w.in-Some-split_first.term.now c.in-Some.c ≡ false = rw same at other_there in
          stuck-other _ _ _ _ _ _ w.in-Some-split_first.ensures.cases.0 c.in-Some.ensures one other
      | in_default-split_first-via-in_default-split_first w ↦
          stuck-none _ _ _ _ (nil_from_length c.loop-c.left.now w.in_default-split_first.ensures.cases) c.in-Some.ensures
    ] in
    record {
      from_is_text = search rules;
      rest_is_text = search rules;
      walk = walk-back _ _ c.in-Some-first_char.field-0-0 _ _ _ stuck (rw text at inv.walk);
      again_bound = omega arith;
      left_bound = omega arith;
      rest_bound = omega arith;
    }

pub returns : goal.returns
returns c =
    let end = c.in_default.ensures in
    c.are_many.ensures ∙ sym (walk-end _ _ _ _ (rw end at c.loop-c.invariant.walk))
