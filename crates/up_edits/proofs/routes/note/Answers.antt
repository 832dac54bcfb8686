use Rattle.std.proofs.Common.{◌≡◌, [], ◌∷◌, ◌++◌, subst, sym, ap, ◌∙◌}
use Rattle.up_edits.specs.Places.{AreKnown}
use Rattle.up_edits.proofs.PlaceLemmas.{known_more}
use Rattle.up_edits.proofs.routes.note.Goals as goal

pub returns-in_ok-push-clause-known : goal.returns-in_ok-push-clause-known
returns-in_ok-push-clause-known c =
    let pushed : c.push.new.self ≡ c.args.locations.now ++ c.args.location.now ∷ [] = c.in_ok-push.ensures.items ∙ ap (λ location. c.args.locations.now ++ location ∷ []) c.in_ok-clone.ensures.cases in
    subst (AreKnown c.insert.new.self.keys) (sym pushed)
    (known_more c.args.known.now.keys c.insert.new.self.keys c.args.locations.now c.args.location.now c.requires c.in_ok-insert.ensures.updates.0)
