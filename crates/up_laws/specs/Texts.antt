-- A right with less loaded, and with more. This project's own.
use Rattle.std.specs.Prelude.{◌↔◌, Bool, IsTrue}
use Rattle.up_names.specs.Texts.{UserName}
use Rattle.up_names.specs.PathNames.{PathName}
use Rattle.up_rights.specs.declared.Right.{Right}
use Rattle.up_policy.specs.Laws.{HasTextsOf}
use Rattle.up_policy.specs.Loadings.{Loading}
use Rattle.up_policy.specs.Trees.{TreeFacts}
use Rattle.up_policy.specs.Verdicts.{HasRight}

-- Whether a user has a right on a path with less loaded, and with more; and where more has each text of less, a yes stays a yes.
pub record AreRights (tree : TreeFacts) (less more : Loading) (user : UserName)
    (right : Right) (path : PathName) (yes : Bool × Bool) : Type 0 where
  pub with_less : IsTrue yes.0 ↔ HasRight tree less user right path
  pub with_more : IsTrue yes.1 ↔ HasRight tree more user right path
  pub monotone : HasTextsOf more less → IsTrue yes.0 → IsTrue yes.1
