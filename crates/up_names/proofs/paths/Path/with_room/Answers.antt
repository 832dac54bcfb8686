use Rattle.std.proofs.Common.{◌≡◌, ◌∙◌, ◌∷◌, ◌++◌, [], ap, arith}
use Rattle.std.proofs.lemmas.Grind.{common_steps}
use Rattle.up_names.specs.PathParts.{read_off}
use Rattle.std.specs.String.{string_bytes}
use Rattle.up_names.proofs.Owners.{at_most_254}
use Rattle.up_names.proofs.PathEdits.{kept_of, root_proper}
use Rattle.up_names.proofs.PathLaws.{read_off-canonical}
use Rattle.up_names.proofs.paths.Path.with_room.Goals as goal

-- what is written: the owner and a slash
text_is : (c : goal.After-new) → string_bytes c.push.new.self ≡ c.args.owner ++ 47 ∷ []
text_is c = grind (arith, common_steps)

pub invariant_of-result : goal.invariant_of-result
invariant_of-result c =
    kept_of (record { owner = c.args.owner; elements = [] }) (root_proper c.args.owner c.text.ensures.canonical (at_most_254 c.args.owner c.args.owner c.text.ensures.canonical))
    (string_bytes c.push.new.self) c.new.result.items (text_is c) c.new.ensures.items

pub returns : goal.returns
returns c =
    let owner = c.args.owner in
    ap (read_off owner) (text_is c) ∙ read_off-canonical (record { owner = owner; elements = [] }) (root_proper owner c.text.ensures.canonical (at_most_254 owner owner c.text.ensures.canonical))
