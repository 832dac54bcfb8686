-- The owners that words name are no snapshot users.
use Rattle.std.proofs.Common.{◌≡◌, ◌≢◌, ◌+◌, ◌-◌, ℕ, Bool, true, false, List, [], ◌∷◌, length, Option, Some, None, refl, sym, subst, arith}
use Rattle.std.specs.List.{AllByRecursion, slice_split}
use Rattle.std.proofs.lemmas.Bool.{eqb-false, eqb-true}
use Rattle.std.specs.Prelude.{◌==◌, if◌then◌else◌, IfSome}
use Rattle.std.specs.Result.{result_ok}
use Rattle.up_audit.specs.Words.{audit_plan, if_different, if_so_many, owners_for, owners_named, trees_named, trees_word}
use Rattle.up_command.specs.Users.{are_different}
use Rattle.up_command.specs.Words.{◌>>=◌}
use Rattle.up_names.specs.Texts.{Text, UserName}
use Rattle.up_names.specs.UserNames.{user_of}
use Rattle.up_policy.specs.Trees.{owns_snapshots}
use Rattle.up_reports.specs.Owners.{if_owner, owner_in}
use Rattle.up_text.specs.Lists.{is_comma}

abbrev pub ArePlain : List UserName → Type 0
ArePlain owners = AllByRecursion (λ owner. owns_snapshots owner ≡ false) owners

one_plain : (found : Option UserName) → IfSome (found >>= if_owner) (λ owner. owns_snapshots owner ≡ false)
one_plain None = tt
one_plain (Some user) = go (owns_snapshots user) refl
  where
    go : (b : Bool) → owns_snapshots user ≡ b → IfSome (if b then None else Some user) (λ owner. owns_snapshots owner ≡ false)
    go true is = tt
    go false is = is

both : (found : Option UserName) (others : Option (List UserName)) → IfSome found (λ owner. owns_snapshots owner ≡ false) → IfSome others ArePlain → IfSome (found >>= λ owner. others >>= λ more. Some (owner ∷ more)) ArePlain
both None others one all = tt
both (Some owner) None one all = tt
both (Some owner) (Some more) one all = (one, all)

named_plain : (words : List Text) → IfSome (owners_named words) ArePlain
unfolding owners_named
named_plain [] = tt
named_plain (word ∷ more) = both (owner_in word) (owners_named more) (one_plain (result_ok (user_of word))) (named_plain more)

different_plain : (found : Option (List UserName)) → IfSome found ArePlain → IfSome (found >>= if_different) ArePlain
different_plain None all = tt
different_plain (Some owners) all = go (are_different owners)
  where
    go : (b : Bool) → IfSome (if b then Some owners else None) ArePlain
    go true = all
    go false = tt

trees_plain : (word : Text) → IfSome (trees_named word) ArePlain
unfolding trees_named
trees_plain word = go (length word == 0)
  where
    go : (b : Bool) → IfSome (if b then Some [] else owners_named (slice_split is_comma word) >>= if_different) ArePlain
    go true = tt
    go false = different_plain (owners_named (slice_split is_comma word)) (named_plain (slice_split is_comma word))

pub trees_found : (word : Text) (found : Option (List UserName)) → found ≡ trees_named word → IfSome found ArePlain
trees_found word found is = subst (λ f. IfSome f ArePlain) (sym is) (trees_plain word)

pub plain_some : (found : Option (List UserName)) (owners : List UserName) → found ≡ Some owners → IfSome found ArePlain → AllByRecursion (λ owner. owns_snapshots owner ≡ false) owners
plain_some found owners is all = subst (λ f. IfSome f ArePlain) is all

plan_plain : (words : List Text) → IfSome (audit_plan words) ArePlain
unfolding audit_plan
plan_plain words = go (trees_word words)
  where
    go : (found : Option Text) → IfSome (found >>= trees_named) ArePlain
    go None = tt
    go (Some word) = trees_plain word

many_plain : (disks : ℕ) (found : Option (List UserName)) → IfSome found ArePlain → IfSome (found >>= if_so_many disks) ArePlain
many_plain disks None all = tt
many_plain disks (Some owners) all = go (length owners + 1 == disks)
  where
    go : (b : Bool) → IfSome (if b then Some owners else None) ArePlain
    go true = all
    go false = tt

pub owners_plain : (words : List Text) (disks : ℕ) (found : Option (List UserName)) → found ≡ owners_for words disks → IfSome found ArePlain
unfolding owners_for
owners_plain words disks found is = subst (λ f. IfSome f ArePlain) (sym is) (many_plain disks (audit_plan words) (plan_plain words))

-- and as many as there are disks, but for one
many_so : (disks : ℕ) (found : Option (List UserName)) → IfSome (found >>= if_so_many disks) (λ owners. disks ≡ length owners + 1)
many_so disks None = tt
many_so disks (Some owners) = go (length owners + 1 == disks) refl
  where
    go : (b : Bool) → (length owners + 1 == disks) ≡ b → IfSome (if b then Some owners else None) (λ os. disks ≡ length os + 1)
    go true is = sym (eqb-true (length owners + 1) disks is)
    go false is = tt

pub so_many : (words : List Text) (disks : ℕ) (owners : List UserName) → Some owners ≡ owners_for words disks → disks ≡ length owners + 1
unfolding owners_for
so_many words disks owners is = subst (λ f. IfSome f (λ os. disks ≡ length os + 1)) (sym is) (many_so disks (audit_plan words))

-- ---- one disk more than trees

pub no_more : (trees disks : ℕ) → disks ≡ 0 → false ≡ (trees + 1 == disks)
no_more trees disks none = go (trees + 1 == disks) refl
  where
    go : (b : Bool) → (trees + 1 == disks) ≡ b → false ≡ b
    go true is = let e = eqb-true (trees + 1) disks is in absurd (omega (arith, e, none))
    go false is = refl

pub one_less : (trees disks : ℕ) → disks ≢ 0 → (disks - 1 == trees) ≡ (trees + 1 == disks)
one_less trees disks some = go (disks - 1 == trees) (trees + 1 == disks) refl refl
  where
    go : (a b : Bool) → (disks - 1 == trees) ≡ a → (trees + 1 == disks) ≡ b → a ≡ b
    go true true one two = refl
    go false false one two = refl
    go true false one two = let e = eqb-true (disks - 1) trees one in absurd (eqb-false (trees + 1) disks two (omega (arith, e, some)))
    go false true one two = let e = eqb-true (trees + 1) disks two in absurd (eqb-false (disks - 1) trees one (omega (arith, e)))

pub ruleset one_more = (no_more, one_less)

pub ruleset plains = (owners_plain, plain_some)
