-- A request that is answered from a cache, or passed on.
use Rattle.std.proofs.Common.{◌≡◌, Option, Some, None, refl, subst}
use Rattle.up_wire.specs.declared.replies.Reply.{Reply}
use Rattle.up_wire.specs.declared.requests.Request.{Request}
use Rattle.up_cache.specs.Blocks.{Block}
use Rattle.up_cache.specs.Caching.{AnsweredBy, Caching, PassedOn, RecalledReply}

module _ {S : Type 0} where
  pub unheld : (old new : Caching S) (found : Option Block) → RecalledReply found old None new → (found ≡ None) × (new ≡ old)
  unheld old new None is = (refl, is)
  unheld old new (Some block) is = absurd is

  module _ (answers : S → Request → Option Reply → S → Type 0) where
    pub answers_here : (old new : Caching S) (found : Option Block) (request : Request) (reply : Reply) → RecalledReply found old (Some reply) new → AnsweredBy answers found old request (Some reply) new
    answers_here old new (Some block) request reply is = is
    answers_here old new None request reply is = absurd is

    pub answers_passed : (old mid new : Caching S) (found : Option Block) (request : Request) (given : Option Reply) → RecalledReply found old None mid → PassedOn answers mid request given new → AnsweredBy answers found old request given new
    answers_passed old mid new None request given is passed = subst (λ (k : Caching S). PassedOn answers k request given new) is passed
    answers_passed old mid new (Some block) request given is passed = absurd is
