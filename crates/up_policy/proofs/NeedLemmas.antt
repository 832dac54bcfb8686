-- The search for the groups that have to be loaded.
use Rattle.std.proofs.Common.{◌≡◌, ℕ, ◌++◌, Bool, List, ◌∙◌, None, slice_get, Result, Ok, Err}
use Rattle.std.specs.Prelude.{OnErr}
use Rattle.std.specs.Map.{keys_of}
use Rattle.up_names.specs.PathNames.{PathName}
use Rattle.up_access.specs.declared.Rule.{Rule}
use Rattle.up_policy.specs.declared.load_answer.LoadAnswer.{LoadAnswer}
use Rattle.up_policy.specs.Trees.{TreeFacts}
use Rattle.up_policy.specs.Members.{text_of}
use Rattle.up_policy.specs.Reached.{AddsPart, groups_named, is_wanted, needed_by, with_paths}
use Rattle.up_policy.specs.Laws.{ListsGroups}
use Rattle.up_policy.proofs.SearchLemmas.{Looked, Added, added_part, added_all}
use Rattle.up_policy.proofs.VerdictLemmas.{lists_texts}

-- nothing was added
pub adds_none : (old now paths : List PathName) → now ≡ old → AddsPart old now paths
adds_none old now paths same = (0, same)

-- nothing more was added
pub added_same : (passes : PathName → Bool) (old : List PathName) (n : ℕ) (met now next : List PathName) → Added passes old n met now → next ≡ now → Added passes old n met next
added_same passes old n met now next before same = record { now_is = same ∙ before.now_is }

-- what holds always holds after a refusal
pub on_err : {X E : Type 0} (result : Result X E) (P : Type 0) → P → OnErr result P
on_err (Ok value) P h = tt
on_err (Err fault) P h = h

module _ (tree : TreeFacts) (listed : List PathName) (loaded : List (PathName × LoadAnswer)) (rules : List Rule) (lists : ListsGroups tree listed) where
  -- some of the needed groups were added, the first of them
  pub part_of_needed : (old : List PathName) (n k : ℕ) (met now : List PathName) → Looked (text_of tree loaded) (groups_named rules) n met → Added (is_wanted tree loaded) old k met now → AddsPart old now (needed_by tree listed loaded rules)
  unfolding needed_by
  part_of_needed old n k met now looked added =
      added_part (text_of tree loaded) (groups_named rules) (listed ++ keys_of loaded) (lists_texts tree listed loaded lists) (is_wanted tree loaded) old n k met now looked added

  -- nothing is left to look at: all of them were
  pub all_of_needed : (old : List PathName) (n : ℕ) (met now : List PathName) → Looked (text_of tree loaded) (groups_named rules) n met → Added (is_wanted tree loaded) old n met now → None ≡ slice_get met n → now ≡ with_paths old (needed_by tree listed loaded rules)
  unfolding needed_by
  all_of_needed old n met now looked added past =
      added_all (text_of tree loaded) (groups_named rules) (listed ++ keys_of loaded) (lists_texts tree listed loaded lists) (is_wanted tree loaded) old n met now looked added past
