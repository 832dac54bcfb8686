-- The search for the groups that are met.
use Rattle.std.proofs.Common.{◌≡◌, ℕ, ◌+◌, ◌<◌, ◌≤◌, List, ◌++◌, length, sym, ap, subst, ◌∙◌, add-one, arith}
use Rattle.std.specs.Map.{keys_of}
use Rattle.up_names.specs.PathNames.{PathName}
use Rattle.up_rights.specs.declared.Right.TheVariants.{Read}
use Rattle.up_access.specs.declared.Rule.{Rule}
use Rattle.up_policy.specs.Laws.{ListsGroups}
use Rattle.up_policy.specs.Loadings.{Loading}
use Rattle.up_policy.specs.Members.{groups_in, text_of}
use Rattle.up_policy.specs.Reached.{after_look, met_after, nameable}
use Rattle.up_policy.specs.Trees.{GroupTexts, TreeFacts}
use Rattle.up_policy.specs.Verdicts.{items_for}
use Rattle.up_policy.proofs.ReachedLemmas.{met_short, reached_is}
use Rattle.up_policy.proofs.SearchLemmas.{Looked}
use Rattle.up_policy.proofs.VerdictLemmas.{lists_texts}
use Rattle.up_share.specs.Readers.{met_groups}

module _ (tree : TreeFacts) (listed : List PathName) (loaded : Loading) (rules : List Rule) (lists : ListsGroups tree listed) where
  -- nothing is left to look at: the met groups are those that are reached
  pub met_are : (n : ℕ) (met : List PathName) → Looked (text_of tree loaded) (groups_in (items_for Read rules)) n met → length met ≤ n → met ≡ met_groups tree listed loaded rules
  unfolding met_groups
  met_are n met looked past =
      looked.met_is ∙ sym (reached_is (text_of tree loaded) (groups_in (items_for Read rules)) (listed ++ keys_of loaded) (lists_texts tree listed loaded lists) n
      (subst (λ (all : List PathName). length all ≤ n) looked.met_is past))

  -- there is something to look at only within the groups that can be met
  pub next_within : (n : ℕ) (met : List PathName) → Looked (text_of tree loaded) (groups_in (items_for Read rules)) n met → n < length met → n < length (nameable (text_of tree loaded) (listed ++ keys_of loaded) (groups_in (items_for Read rules)))
  next_within n met looked within =
      let short = met_short (text_of tree loaded) (groups_in (items_for Read rules)) (listed ++ keys_of loaded) (lists_texts tree listed loaded lists) n in
      let same = ap length looked.met_is in
      omega (arith, short, same, within)

-- a look at the next
pub looked_next : (texts : GroupTexts) (starts : List PathName) (n : ℕ) (met now : List PathName) → Looked texts starts n met → now ≡ after_look texts n met → Looked texts starts (n + 1) now
looked_next texts starts n met now looked is = record { met_is = is ∙ (ap (after_look texts n) looked.met_is ∙ ap (met_after texts starts) (sym (add-one n))) }
