use Rattle.std.proofs.Common.{◌≡◌, [], ◌∷◌, sym, ap, subst, ◌∙◌, true}
use Rattle.std.specs.Prelude.{Ok}
use Rattle.up_entry.specs.declared.entries.Entry.{Entry}
use Rattle.up_list.specs.Founds.{entry_found}
use Rattle.up_list.specs.Places.{IsBelow, IsIn, Meets}
use Rattle.up_list.specs.Walking.{goes_on, has_row}
use Rattle.up_list.proofs.MeetLemmas.{meets_dir, meets_nothing, meets_row, on_both, on_err, on_ok, size_in}
use Rattle.up_list.proofs.walk.meet.Goals as goal

pub returns-in_err-held : goal.returns-in_err-held
returns-in_err-held g c = λ dir stands is.
    let look = g.O.Onlooker.look c.args.onlooker.now in
    let stands' = subst (IsIn look c.args.at dir) (sym c.entry-entry.ensures) stands in
    (on_err _ c.from_residual.result c.from_residual.ensures.0, (c.rights_below.ensures c.args.at dir stands' is).kept)

-- its row is found
pub returns-then-has_row : goal.returns-then-has_row
returns-then-has_row g c = λ dir stands is.
    let look = g.O.Onlooker.look c.args.onlooker.now in
    let entry = entry_found c.args.found.now in
    let stands' = subst (IsIn look c.args.at dir) (sym c.entry-entry.ensures) stands in
    let below = subst (λ (e : Entry). IsBelow look dir e c.rights_below.new.decided (Ok (c.in_ok-held.held, c.in_ok-held.below))) c.entry-entry.ensures (c.in_ok-held.ensures c.args.at dir stands' is) in
    let has : has_row c.args.pattern.now c.args.at entry ≡ true = ap (has_row c.args.pattern.now c.args.at) (sym c.entry-entry.ensures) ∙ (sym c.has_row.ensures ∙ c.if-has_row.true) in
    (on_ok c.find.result c.find.ensures.rows (λ rows. meets_row look c.args.pattern.now c.args.at c.args.walk.now c.find.new.self entry c.in_ok-held.held has below.held rows c.find.ensures.places), below.kept)

-- it is walked into
pub returns-then-goes_on : goal.returns-then-goes_on
returns-then-goes_on g c = λ dir stands is.
    let look = g.O.Onlooker.look c.args.onlooker.now in
    let entry = entry_found c.args.found.now in
    let stands' = subst (IsIn look c.args.at dir) (sym c.entry-entry.ensures) stands in
    let below = c.in_ok-held.ensures c.args.at dir stands' is in
    let on : goes_on c.args.pattern.now c.args.at c.entry-entry.result.now ≡ true = sym c.goes_on.ensures ∙ c.if-goes_on.true in (
      on_both c.go_on.result c.go_on.ensures.rows c.go_on.ensures.places (λ rows places.
          subst (λ (e : Entry). Meets look c.args.pattern.now c.args.at c.args.walk.now c.go_on.new.self (e ∷ [])) c.entry-entry.ensures
          (meets_dir look c.args.pattern.now c.args.at c.args.walk.now c.go_on.new.self c.entry-entry.result.now c.in_ok-held.below on (ap (λ (e : Entry). e.name.owner) c.entry-entry.ensures ∙ c.requires.owned) (size_in look c.args.at dir c.entry-entry.result.now stands') below.below rows places)),
      below.kept,
    )

-- it is passed over
pub returns : goal.returns
returns g c = λ dir stands is.
    let look = g.O.Onlooker.look c.args.onlooker.now in
    let entry = entry_found c.args.found.now in
    let stands' = subst (IsIn look c.args.at dir) (sym c.entry-entry.ensures) stands in
    let below = c.in_ok-held.ensures c.args.at dir stands' is in (
      meets_nothing look c.args.pattern.now c.args.at c.args.walk.now c.args.walk.now entry
          (ap (has_row c.args.pattern.now c.args.at) (sym c.entry-entry.ensures) ∙ (sym c.has_row.ensures ∙ c.if-has_row.false))
          (ap (goes_on c.args.pattern.now c.args.at) (sym c.entry-entry.ensures) ∙ (sym c.goes_on.ensures ∙ c.if-goes_on.false)),
      below.kept,
    )
