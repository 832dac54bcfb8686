-- More texts take no right away.
use Rattle.std.proofs.Common.{Bool, List, ℕ, Result, Ok, Err}
use Rattle.std.specs.Prelude.{◌↔◌, IfOk, IsTrue}
use Rattle.up_names.specs.PathNames.{PathName}
use Rattle.up_rights.specs.declared.Right.{Right}
use Rattle.up_policy.specs.Trees.{TreeFacts}
use Rattle.up_policy.specs.Loadings.{Loading}
use Rattle.up_policy.specs.Verdicts.{HasRight}
use Rattle.up_policy.proofs.MonotoneLemmas.{rights_are_monotone}
use Rattle.up_laws.specs.Texts.{AreRights}

-- of two answers, each exactly by the evaluator's definition, a yes stays a yes
pub are_rights : {F : Type 0} (tree : TreeFacts) (less more : Loading) (user : List ℕ) (right : Right) (path : PathName) (result : Result (Bool × Bool) F) →
    IfOk result (λ yes. IsTrue yes.0 ↔ HasRight tree less user right path) → IfOk result (λ yes. IsTrue yes.1 ↔ HasRight tree more user right path) →
    IfOk result (AreRights tree less more user right path)
are_rights tree less more user right path (Err e) less_is more_is = tt
are_rights tree less more user right path (Ok both) less_is more_is = record {
  with_less = less_is;
  with_more = more_is;
  monotone = λ texts held. more_is.1 (rights_are_monotone tree less more user right path texts (less_is.0 held));
}
