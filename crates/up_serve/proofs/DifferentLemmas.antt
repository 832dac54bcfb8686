-- What is known of a plan whose owners are all different, none of them a snapshot user.
use Rattle.std.proofs.Common.{subst, Option, Some, None, ◌≡◌, ◌∙◌, Bool, true, false, List, refl, ap}
use Rattle.std.proofs.lemmas.Bool.{and_parts}
use Rattle.std.specs.List.{AllByRecursion, IsDistinct}
use Rattle.std.specs.Prelude.{IfSome, if◌then◌else◌}
use Rattle.std.specs.Str.{bytes_eq}
use Rattle.up_names.specs.Texts.{Text, UserName}
use Rattle.up_policy.specs.Trees.{owns_snapshots}
use Rattle.up_command.proofs.UserLemmas.{all_fail, different}
use Rattle.up_command.specs.Users.{are_different}
use Rattle.up_serve.specs.Plans.{IsPlan, are_owners}
use Rattle.up_serve.specs.declared.plan.ServePlan.{ServePlan}
use Rattle.up_sign.specs.HostNames.{host_named, is_host_name}

-- no owner is a snapshot user
pub owners_plain : (owners : List UserName) → are_owners owners ≡ true → AllByRecursion (λ owner. owns_snapshots owner ≡ false) owners
owners_plain owners is = all_fail owns_snapshots owners (and_parts _ (are_different owners) is).0

-- no owner stands twice
pub owners_distinct : (owners : List UserName) → are_owners owners ≡ true → IsDistinct bytes_eq owners
owners_distinct owners is = different owners (and_parts _ (are_different owners) is).1

-- and so of a plan
pub plan_keeps : {plan : ServePlan} → is_host_name plan.host ≡ true → are_owners plan.trees ≡ true → IsPlan plan
plan_keeps {plan = plan} named owners = record { named = named; distinct = owners_distinct plan.trees owners; plain = owners_plain plan.trees owners }

-- a good name is one that is read
pub named_is : (word name : Text) → Some name ≡ host_named word → is_host_name name ≡ true
named_is word name is = by (is_host_name word) refl is
  where
    by : (b : Bool) → is_host_name word ≡ b → Some name ≡ (if b then Some word else None) → is_host_name name ≡ true
    by true good same = ap is_host_name (let e : name ≡ word = cc in e) ∙ good
    by false good same = absurd (cc)

pub ruleset keeps = (plan_keeps, named_is)

-- what is known of a thing that was found
pub some_has : {X : Type 0} (found : Option X) (x : X) (P : X → Type 0) → found ≡ Some x → IfSome found P → P x
some_has found x P is has = subst (λ f. IfSome f P) is has
