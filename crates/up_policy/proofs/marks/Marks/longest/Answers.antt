use Rattle.std.proofs.Common.{◌≡◌, ◌<◌, false, ◌+◌, length, take, ap, sym, ◌∙◌, arith}
use Rattle.std.specs.Prelude.{nat_eq}
use Rattle.std.specs.List.{list_any}
use Rattle.std.specs.Hash.DefaultHasher.{finish}
use Rattle.up_policy.specs.Marks.{hash_of, hasher_after}
use Rattle.up_policy.proofs.MarkLemmas.{hashed_more, none_behind, none_more}
use Rattle.up_policy.proofs.marks.Marks.longest.Goals as goal

pub loop-len-preserved-then-contains : goal.loop-len-preserved-then-contains
loop-len-preserved-then-contains c =
    let n = c.loop-len.len in
    let elements = c.args.path.now.elements in
    let within : n < length elements = omega (arith, c.if-len-self.true, c.loop-len-test.true, c.len.ensures) in
    record {
      hashed = hashed_more c.args.self.now.keys elements n c.loop-len.hasher c.add_element.new.hasher within c.loop-len.invariant.hashed c.add_element.ensures;
      within = omega arith;
      longest_within = omega arith;
      none = none_behind c.args.self.now c.args.path.now (n + 1);
    }

pub loop-len-preserved : goal.loop-len-preserved
loop-len-preserved c =
    let n = c.loop-len.len in
    let keys = c.args.self.now.keys in
    let elements = c.args.path.now.elements in
    let noted = c.args.self.now.hashes.keys in
    let within : n < length elements = omega (arith, c.if-len-self.true, c.loop-len-test.true, c.len.ensures) in
    let hashed : c.add_element.new.hasher ≡ hasher_after keys (take (n + 1) elements) =
    hashed_more keys elements n c.loop-len.hasher c.add_element.new.hasher within c.loop-len.invariant.hashed c.add_element.ensures in
    let not_noted : list_any (nat_eq (hash_of keys (take (n + 1) elements))) noted ≡ false =
    ap (λ h. list_any (nat_eq h) noted) (ap finish (sym hashed) ∙ sym c.finish.ensures) ∙ (sym c.contains.ensures ∙ c.if-contains.false) in
    record {
      hashed = hashed;
      within = omega arith;
      longest_within = omega (arith, c.loop-len.invariant.longest_within);
      none = none_more c.args.self.now c.args.path.now c.loop-len.longest n c.loop-len.invariant.none not_noted;
    }
