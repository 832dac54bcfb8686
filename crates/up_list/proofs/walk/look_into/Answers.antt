use Rattle.std.proofs.Common.{◌≡◌, List, [], map, Option, refl, sym, ap, subst, ◌∙◌}
use Rattle.std.specs.Prelude.{OnOk, filter}
use Rattle.std.specs.List.{AllByRecursion}
use Rattle.std.specs.Option.{option_to_list}
use Rattle.up_entry.specs.declared.entries.Entry.{Entry}
use Rattle.up_rights.specs.RightSets.{Rights}
use Rattle.up_list.specs.Deciding.{IsDecided}
use Rattle.up_list.specs.Entries.{entries_in}
use Rattle.up_list.specs.Founds.{entry_found}
use Rattle.up_list.specs.Places.{IsIn, IsOwned, Meets}
use Rattle.up_list.specs.Walking.{is_match, met_in}
use Rattle.up_list.proofs.ChildLemmas.{all_in, all_owned}
use Rattle.up_list.proofs.LiteralLemmas.{met_listed, met_literal, met_unlisted, named_in}
use Rattle.up_list.proofs.MeetLemmas.{meets_no_item}
use Rattle.up_list.proofs.walk.look_into.Goals as goal

-- the item of the literal name stands in the directory
pub meet_named-requires-clause-owned : goal.meet_named-requires-clause-owned
meet_named-requires-clause-owned g c =
    let look = g.O.Onlooker.look c.args.onlooker.now in
    let dir = c.args.place.now.path in
    let all = named_in look c.args.at dir c.in-Some.name.now c.requires.rooted c.requires.place.size in
    subst (λ (o : Option Entry). AllByRecursion (IsOwned look) (option_to_list o)) (sym c.in_ok-named.ensures) (all_owned look c.args.at dir _ c.requires.place.owned all)

pub returns-in-Some : goal.returns-in-Some
returns-in-Some g c =
    let look = g.O.Onlooker.look c.args.onlooker.now in
    let dir = c.args.place.now.path in
    let all = subst (λ (o : Option Entry). AllByRecursion (IsIn look c.args.at dir) (option_to_list o)) (sym c.in_ok-named.ensures) (named_in look c.args.at dir c.in-Some.name.now c.requires.rooted c.requires.place.size) in
    subst (λ (es : List Entry). OnOk c.meet_named.result (Meets look c.args.pattern.now c.args.at c.args.walk.now c.meet_named.new.walk es))
    (ap option_to_list c.in_ok-named.ensures ∙ sym (met_literal look c.args.pattern.now c.args.at dir c.in-Some.name.now c.requires.rooted c.requires.place.size c.requires.at (sym c.in-Some.ensures.value)))
    (c.meet_named.ensures dir all c.requires.place.decided)

-- list does not hold on the directory
pub returns-then-not-has : goal.returns-then-not-has
returns-then-not-has g c =
    let look = g.O.Onlooker.look c.args.onlooker.now in
    let dir = c.args.place.now.path in
    let held = c.in_ok-held.ensures.held dir c.requires.place.decided refl in
    let none : met_in look c.args.pattern.now c.args.at dir ≡ [] = met_unlisted look c.args.pattern.now c.args.at dir c.requires.at (sym c.in_default.ensures.value) (ap (λ (r : Rights). r.list) (sym held) ∙ (sym c.has.ensures ∙ c.if-not-has.true)) in
    subst (λ (es : List Entry). Meets look c.args.pattern.now c.args.at c.args.walk.now c.args.walk.now es) (sym none) (meets_no_item look c.args.pattern.now c.args.at c.args.walk.now)

pub meet_all-requires-clause-owned : goal.meet_all-requires-clause-owned
meet_all-requires-clause-owned g c =
    let look = g.O.Onlooker.look c.args.onlooker.now in
    let dir = c.args.place.now.path in
    let items : map entry_found c.deref.result.now ≡ entries_in look.tree dir = ap (map entry_found) c.deref.ensures.value ∙ c.in_ok-items.ensures in
    subst (AllByRecursion (IsOwned look)) (sym items) (all_owned look c.args.at dir (entries_in look.tree dir) c.requires.place.owned (all_in look c.args.at dir c.requires.rooted c.requires.place.size))

pub returns : goal.returns
returns g c =
    let look = g.O.Onlooker.look c.args.onlooker.now in
    let dir = c.args.place.now.path in
    let items : map entry_found c.deref.result.now ≡ entries_in look.tree dir = ap (map entry_found) c.deref.ensures.value ∙ c.in_ok-items.ensures in
    let held = c.in_ok-held.ensures.held dir c.requires.place.decided refl in
    let decided : IsDecided look dir c.rights.new.self = c.in_ok-held.ensures.kept dir c.requires.place.decided refl in
    let met = met_listed look c.args.pattern.now c.args.at dir c.requires.at (sym c.in_default.ensures.value) (ap (λ (r : Rights). r.list) (sym held) ∙ (sym c.has.ensures ∙ c.if-not-has.false)) in
    subst (λ (es : List Entry). OnOk c.meet_all.result (Meets look c.args.pattern.now c.args.at c.args.walk.now c.meet_all.new.walk es))
    (ap (filter (is_match c.args.pattern.now c.args.at)) items ∙ sym met)
    (c.meet_all.ensures dir (subst (AllByRecursion (IsIn look c.args.at dir)) (sym items) (all_in look c.args.at dir c.requires.rooted c.requires.place.size)) decided)
