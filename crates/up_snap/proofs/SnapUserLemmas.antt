-- The user whose tree shows the snapshots of a user's tree.
use Rattle.std.proofs.Common.{◌≡◌, ℕ, ◌≤◌, Bool, true, false, not, ◌&&◌, ◌||◌, List, [], ◌∷◌, ◌++◌, length, refl, sym, ap, subst, ◌∙◌, arith, Some, None, Ok}
use Rattle.std.specs.Prelude.{codes, if◌then◌else◌}
use Rattle.std.specs.List.{after_first, before_first, list_any}
use Rattle.std.specs.Str.{byte, bytes_eq}
use Rattle.std.proofs.lemmas.Bool.{false≢true}
use Rattle.std.proofs.lemmas.List.{append-nil, length-append}
use Rattle.std.proofs.lemmas.List.Folds.{list_any-append}
use Rattle.std.proofs.lemmas.Slice.Eq.{bytes_eq-Decides}
use Rattle.up_names.specs.UserNames.{base_of, domain_part, is_at, is_local_part, is_plus, is_suffix, name_part, suffix_of, user_of}
use Rattle.up_names.specs.PathNames.{PathName}
use Rattle.up_names.proofs.CutLemmas.{after_first-joined, before_first-all, before_first-joined, before_first-none, cut-joined, list_any-take}
use Rattle.up_names.proofs.UserLemmas.{IsUserParts, parts-of_user, user_of-parts}
use Rattle.up_policy.specs.Trees.{owns_snapshots}
use Rattle.up_log_tree.specs.Fits.{root_of, snapshot_user}
use Rattle.up_answers.specs.Calendar.{moment_elements}
use Rattle.up_answers.specs.SnapshotTrees.{moved}
use Rattle.up_snap.specs.Looked.{IsSnapUser}
use Rattle.up_snap.specs.Outcomes.{IsOfSnapshots}
use Rattle.up_snap.specs.Shown.{shown_root}

-- ---- a user that owns snapshots is the snapshot user of its base

module _ (user : List ℕ) (named : user_of user ≡ Ok user) where
  abbrev local : List ℕ
  local = before_first is_plus (name_part user)

  local_no_at : list_any is_at local ≡ false
  local_no_at = list_any-take is_at _ (name_part user) (before_first-none is_at user)

  shown_base : snapshot_user (base_of user) ≡ (local ++ codes "+snapshot") ++ 64 ∷ domain_part user
  shown_base =
      ap (λ n. n ++ codes "+snapshot" ++ byte "@" ∷ domain_part (base_of user)) (before_first-joined is_at local 64 (domain_part user) local_no_at refl)
      ∙ ap (λ d. local ++ codes "+snapshot" ++ byte "@" ∷ d) (after_first-joined is_at local 64 (domain_part user) local_no_at refl)

  suffixed : list_any is_plus (name_part user) ≡ true → after_first is_plus (name_part user) ≡ codes "snapshot" → user ≡ snapshot_user (base_of user)
  suffixed any is =
      sym (parts-of_user user named).1
      ∙ ap (λ n. n ++ 64 ∷ domain_part user) (cut-joined 43 (name_part user) any ∙ ap (λ s. local ++ 43 ∷ s) is)
      ∙ sym shown_base

  shown_again : owns_snapshots user ≡ true → user ≡ snapshot_user (base_of user)
  shown_again owns = go (list_any is_plus (name_part user)) refl owns
    where
      go : (b : Bool) → list_any is_plus (name_part user) ≡ b → (elim (if b then Some (after_first is_plus (name_part user)) else None) as (λ _. Bool) [ None ↦ false | Some suffix ↦ bytes_eq suffix (codes "snapshot") ]) ≡ true → user ≡ snapshot_user (base_of user)
      go true any h = suffixed any ((bytes_eq-Decides (after_first is_plus (name_part user)) (codes "snapshot")).0 h)
      go false any h = absurd (false≢true h)

-- another user, whose paths belong to the owner's log
pub is_snap_user : (owner user : List ℕ) → user_of user ≡ Ok user → IsOfSnapshots owner user → IsSnapUser owner user
is_snap_user owner user named place = go (owns_snapshots user) refl place.1
  where
    go : (b : Bool) → owns_snapshots user ≡ b → (if b then base_of user else user) ≡ owner → IsSnapUser owner user
    go true owns base = record { named = subst (λ o. user ≡ snapshot_user o) base (shown_again user named owns); owns = owns; base = base }
    go false owns same = absurd (false≢true (sym place.0 ∙ (bytes_eq-Decides user owner).1 same))

-- ---- the snapshot user of a user without suffix is a user

no_plus : (name : List ℕ) → (if list_any is_plus name then Some (after_first is_plus name) else None) ≡ None → list_any is_plus name ≡ false
no_plus name h = go (list_any is_plus name) refl h
  where
    go : (b : Bool) → list_any is_plus name ≡ b → (if b then Some (after_first is_plus name) else None) ≡ None → list_any is_plus name ≡ false
    go true e k = absurd (cc)
    go false e k = e

module _ (owner : List ℕ) (named : user_of owner ≡ Ok owner) (plain : suffix_of owner ≡ None) (short : length (snapshot_user owner) ≤ 254) where
  abbrev long : List ℕ
  long = name_part owner ++ codes "+snapshot"

  parts : IsUserParts (name_part owner) (domain_part owner)
  parts = (parts-of_user owner named).0

  none : list_any is_plus (name_part owner) ≡ false
  none = no_plus (name_part owner) plain

  any : list_any is_plus long ≡ true
  any = list_any-append is_plus (name_part owner) (codes "+snapshot") ∙ ap (λ b. b || true) none

  local_is : before_first is_plus long ≡ name_part owner
  local_is = before_first-joined is_plus (name_part owner) 43 (codes "snapshot") none refl

  suffix_is : after_first is_plus long ≡ codes "snapshot"
  suffix_is = after_first-joined is_plus (name_part owner) 43 (codes "snapshot") none refl

  good_suffix : (list_any is_plus long && not (is_suffix (after_first is_plus long))) ≡ false
  unfolding is_suffix
  good_suffix = ap (λ b. b && not (is_suffix (after_first is_plus long))) any ∙ ap (λ s. not (is_suffix s)) suffix_is

  pub snap_user_named : user_of (snapshot_user owner) ≡ Ok (snapshot_user owner)
  snap_user_named = user_of-parts long (domain_part owner) (record {
    name_has_no_at = list_any-append is_at (name_part owner) (codes "+snapshot") ∙ ap (λ b. b || false) parts.name_has_no_at;
    fits = omega (arith, short, length-append long (64 ∷ domain_part owner));
    local_part = ap is_local_part (local_is ∙ sym (before_first-all is_plus (name_part owner) none)) ∙ parts.local_part;
    suffix = good_suffix;
    is_a_domain = parts.is_a_domain;
    is_lower = parts.is_lower;
  })

-- the root of a snapshot, as it is made
pub root_moved : (owner snap_user : List ℕ) (time : ℕ) → snap_user ≡ snapshot_user owner → shown_root snap_user time ≡ moved time (root_of owner)
root_moved owner snap_user time is =
    ap (λ (u : List ℕ). shown_root u time) is
    ∙ same (moment_elements time) (moment_elements time ++ []) (sym (append-nil (moment_elements time)))
  where
    same : (xs ys : List (List ℕ)) → xs ≡ ys → ◌≡◌ {A = PathName} (record { owner = snapshot_user owner; elements = xs }) (record { owner = snapshot_user owner; elements = ys })
    same xs ys e i = record { owner = snapshot_user owner; elements = e i }
