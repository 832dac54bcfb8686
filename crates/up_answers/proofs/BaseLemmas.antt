-- The snapshot user of a user without suffix: its base is that user, and it owns snapshots.
use Rattle.std.proofs.Common.{◌≡◌, ℕ, Bool, true, false, ◌||◌, List, ◌∷◌, ◌++◌, refl, sym, ap, ◌∙◌, Some, None}
use Rattle.std.specs.Prelude.{codes, if◌then◌else◌}
use Rattle.std.specs.List.{after_first, before_first, list_any}
use Rattle.std.specs.Str.{byte, bytes_eq}
use Rattle.std.proofs.lemmas.List.Folds.{list_any-append}
use Rattle.up_names.specs.UserNames.{base_of, domain_part, is_at, is_plus, name_part, suffix_of}
use Rattle.up_names.proofs.CutLemmas.{after_first-joined, before_first-joined, before_first-none, list_any-take}
use Rattle.up_policy.specs.Trees.{owns_snapshots}
use Rattle.up_log_tree.specs.Fits.{snapshot_user}

-- a user without suffix: a name without `+` and `@`, and a domain
pub record IsPlain (user : List ℕ) : Type 0 where
  pub name : List ℕ
  pub domain : List ℕ
  pub joined : user ≡ name ++ 64 ∷ domain
  pub no_at : list_any is_at name ≡ false
  pub no_plus : list_any is_plus name ≡ false

pub base_plain : (user : List ℕ) → IsPlain (base_of user)
base_plain user = record {
  name = before_first is_plus (name_part user);
  domain = domain_part user;
  joined = refl;
  no_at = list_any-take is_at _ (name_part user) (before_first-none is_at user);
  no_plus = before_first-none is_plus (name_part user);
}

module _ (user : List ℕ) (plain : IsPlain user) where
  name_is : name_part user ≡ plain.name
  name_is = ap name_part plain.joined ∙ before_first-joined is_at plain.name 64 plain.domain plain.no_at refl

  domain_is : domain_part user ≡ plain.domain
  domain_is = ap domain_part plain.joined ∙ after_first-joined is_at plain.name 64 plain.domain plain.no_at refl

  -- it has no suffix
  pub no_suffix : suffix_of user ≡ None
  no_suffix = ap (λ n. if list_any is_plus n then Some (after_first is_plus n) else None) name_is ∙ ap (λ b. if b then Some (after_first is_plus plain.name) else None) plain.no_plus

  abbrev long : List ℕ
  long = plain.name ++ codes "+snapshot"

  shows : snapshot_user user ≡ long ++ 64 ∷ plain.domain
  shows =
      ap (λ n. n ++ codes "+snapshot" ++ byte "@" ∷ domain_part user) name_is
      ∙ ap (λ d. plain.name ++ codes "+snapshot" ++ byte "@" ∷ d) domain_is

  long_no_at : list_any is_at long ≡ false
  long_no_at = list_any-append is_at plain.name (codes "+snapshot") ∙ ap (λ b. b || list_any is_at (codes "+snapshot")) plain.no_at

  long_is : long ≡ plain.name ++ 43 ∷ codes "snapshot"
  long_is = refl

  show_name : name_part (snapshot_user user) ≡ long
  show_name = ap name_part shows ∙ before_first-joined is_at long 64 plain.domain long_no_at refl

  show_domain : domain_part (snapshot_user user) ≡ plain.domain
  show_domain = ap domain_part shows ∙ after_first-joined is_at long 64 plain.domain long_no_at refl

  -- its base is the user
  pub base_again : base_of (snapshot_user user) ≡ user
  base_again =
      ap (λ n. before_first is_plus n ++ byte "@" ∷ domain_part (snapshot_user user)) (show_name ∙ long_is)
      ∙ (ap (λ n. n ++ byte "@" ∷ domain_part (snapshot_user user)) (before_first-joined is_plus plain.name 43 (codes "snapshot") plain.no_plus refl)
      ∙ (ap (λ d. plain.name ++ byte "@" ∷ d) show_domain ∙ sym plain.joined))

  -- it owns snapshots
  pub owns_them : owns_snapshots (snapshot_user user) ≡ true
  owns_them = ap (λ o. elim o as (λ _. Bool) [ None ↦ false | Some suffix ↦ bytes_eq suffix (codes "snapshot") ]) suffix
    where
      any : list_any is_plus (plain.name ++ 43 ∷ codes "snapshot") ≡ true
      any = list_any-append is_plus plain.name (43 ∷ codes "snapshot") ∙ ap (λ b. b || true) plain.no_plus

      suffix : suffix_of (snapshot_user user) ≡ Some (codes "snapshot")
      suffix =
          ap (λ n. if list_any is_plus n then Some (after_first is_plus n) else None) (show_name ∙ long_is)
          ∙ (ap (λ b. if b then Some (after_first is_plus (plain.name ++ 43 ∷ codes "snapshot")) else None) any
          ∙ ap Some (after_first-joined is_plus plain.name 43 (codes "snapshot") plain.no_plus refl))
