-- Each turn takes a word, and the line ends where no word is left, or at one that names nothing.
use Rattle.std.proofs.Common.{◌≡◌, None, arith}
use Rattle.std.proofs.lemmas.Grind.{common_steps}
use Rattle.up_names.specs.ItemNames.{item_of}
use Rattle.up_names.proofs.ItemListLemmas.{items_more, items_spoilt, items_all}
use Rattle.up_names.proofs.item_lists.push_each.Goals as goal

pub returns-in_default-2-clause-found : goal.returns-in_default-2-clause-found
returns-in_default-2-clause-found c =
    let none : None ≡ item_of c.args.owner.now c.in-Some.word.now = rw c.in_default-2.is at c.in_ok-item.ensures in
    items_spoilt c.args.owner.now c.loop-word.rest.now c.in-Some.word.now c.in-Some.after.now c.loop-word.items.items _ c.in-Some.ensures.words none c.loop-word.invariant.found

pub loop-word-preserved : goal.loop-word-preserved
loop-word-preserved c =
    let some = rw c.in-Some-2.is at c.in_ok-item.ensures in
    let more = items_more c.args.owner.now c.loop-word.rest.now c.in-Some.word.now c.in-Some.after.now c.in-Some-2.item c.loop-word.items.items _ c.in-Some.ensures.words some c.loop-word.invariant.found in
    record {
      found = rw c.in_ok-push.ensures.items more;
      kept = grind (arith, common_steps);
    }

pub returns-clause-found : goal.returns-clause-found
returns-clause-found c =
    items_all c.args.owner.now c.loop-word.rest.now c.loop-word.items.items _ c.in_default.ensures.words c.loop-word.invariant.found
