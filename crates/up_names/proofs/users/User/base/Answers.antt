use Rattle.up_names.proofs.UserLemmas.{base_of-again, base_of-joined}
use Rattle.up_names.proofs.users.User.base.Goals as goal

pub user_from_parts-requires : goal.user_from_parts-requires
user_from_parts-requires c =
    rw (base_of-joined _ _ _ _ _ c.self.invariant c.as_bytes.ensures.value c.parts_of.ensures.name c.cut.ensures.before c.parts_of.ensures.domain)
    (base_of-again _ c.self.invariant)

pub returns : goal.returns
returns c =
    rw (← c.self.view_is, ← base_of-joined _ _ _ _ _ c.self.invariant c.as_bytes.ensures.value c.parts_of.ensures.name c.cut.ensures.before c.parts_of.ensures.domain)
    c.user_from_parts.ensures
