-- The owners of both trees are users by their names.
use Rattle.std.proofs.Common.{◌≡◌, List, ◌∷◌, [], codes, refl, sym, subst}
use Rattle.std.specs.Prelude.{Ok, Result}
use Rattle.std.specs.List.{IsDistinct}
use Rattle.std.specs.Str.{bytes_eq}
use Rattle.up_names.specs.Texts.{UserName}
use Rattle.up_names.specs.UserNames.{user_of, without_final_period, is_local_part, is_suffix, is_domain, is_label}

first_named : user_of (codes "ann@a.example") ≡ Ok (codes "ann@a.example")
unfolding user_of without_final_period is_local_part is_suffix is_domain is_label
first_named = refl

second_named : user_of (codes "bob@b.example") ≡ Ok (codes "bob@b.example")
unfolding user_of without_final_period is_local_part is_suffix is_domain is_label
second_named = refl

-- what a result has inside
ok_same : {X E : Type 0} (x y : X) (r : Result X E) → r ≡ Ok x → r ≡ Ok y → x ≡ y
ok_same x y r p q = cc

pub first_owner : (user : UserName) → user_of (codes "ann@a.example") ≡ Ok user → user ≡ codes "ann@a.example"
first_owner user h = ok_same user (codes "ann@a.example") (user_of (codes "ann@a.example")) h first_named

pub second_owner : (user : UserName) → user_of (codes "bob@b.example") ≡ Ok user → user ≡ codes "bob@b.example"
second_owner user h = ok_same user (codes "bob@b.example") (user_of (codes "bob@b.example")) h second_named

-- they are two
both_differ : IsDistinct bytes_eq (codes "ann@a.example" ∷ codes "bob@b.example" ∷ [])
unfolding IsDistinct
both_differ = ((refl, tt), (tt, tt))

pub owners_differ : (owners : List UserName) → owners ≡ codes "ann@a.example" ∷ codes "bob@b.example" ∷ [] → IsDistinct bytes_eq owners
owners_differ owners is = subst (IsDistinct bytes_eq) (sym is) both_differ
