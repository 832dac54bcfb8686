use Rattle.std.proofs.Common.{[], ◌∷◌, ◌++◌, List, ap, codes, ◌∙◌}
use Rattle.up_names.specs.Texts.{UserName}
use Rattle.up_trial_together.proofs.Names.{first_owner, second_owner}
use Rattle.up_trial_together.proofs.hosts.owners.Goals as goal

pub returns : goal.returns
returns c =
    let a : UserName = c.in_ok-user_named.field-0 in
    let b : UserName = c.in_ok-user_named-2.field-0 in
    c.in_ok-push-2.ensures.items
    ∙ ap (λ (owners : List UserName). owners ++ b ∷ []) c.in_ok-push.ensures.items
    ∙ ap (λ (owners : List UserName). (owners ++ a ∷ []) ++ b ∷ []) c.new-owners.ensures
    ∙ ap (λ (user : UserName). user ∷ b ∷ []) (first_owner a c.in_ok-user_named.ensures)
    ∙ ap (λ (user : UserName). codes "ann@a.example" ∷ user ∷ []) (second_owner b c.in_ok-user_named-2.ensures)
