use Rattle.std.proofs.Common.{◌≡◌, false, sym, ap, subst, ◌∙◌, bytes_eq}
use Rattle.std.specs.List.{IsDistinct, list_any}
use Rattle.up_cases.proofs.OwnerLemmas.{differs}
use Rattle.up_cases.proofs.host_cases.opening.add_owner.Goals as goal

pub returns-clause-distinct : goal.returns-clause-distinct
returns-clause-distinct c =
    let none : list_any (λ one. bytes_eq one c.in_ok-owner.owner) c.args.owners.now ≡ false =
    ap (list_any (λ one. bytes_eq one c.in_ok-owner.owner)) (sym c.as_slice.ensures) ∙ sym c.contains.ensures.value ∙ c.if-contains.false
    in
    subst (IsDistinct bytes_eq) (sym c.in_ok-push.ensures.items) (differs c.args.owners.now c.in_ok-owner.owner c.requires.distinct none)
