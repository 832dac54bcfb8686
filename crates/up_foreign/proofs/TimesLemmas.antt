-- What was noted of a tree as it is, and as it was.
use Rattle.std.proofs.Common.{◌≡◌, List, [], subst, sym}
use Rattle.up_names.specs.PathNames.{PathName}
use Rattle.up_mem_tree.specs.MemTrees.{TreeLog}
use Rattle.up_policy.specs.Loadings.{Loading}
use Rattle.up_foreign.specs.Noted.{AreNoted}
use Rattle.up_foreign.specs.declared.noted.Noted.{Noted}
use Rattle.up_foreign.specs.declared.noted.Times.{Times}
use Rattle.up_foreign.specs.Times.{AreBothNoted}
use Rattle.up_foreign.proofs.NotedLemmas.{none_noted}

-- nothing was looked at yet in the tree as it was
pub both_begun : (tree : TreeLog) (loaded : Loading) (known : Noted) (times : Times) (names : List PathName) → AreNoted tree loaded known names → times.current ≡ known → times.past.dirs.entries ≡ [] → AreBothNoted tree loaded times names
both_begun tree loaded known times names are current past = record {
  current = subst (λ noted. AreNoted tree loaded noted names) (sym current) are;
  past = none_noted tree loaded times.past names past;
}
