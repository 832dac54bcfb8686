-- What was noted of a tree as it is, and as it was. (Nothing outside rests on these definitions.)
use Rattle.std.specs.Prelude.{List}
use Rattle.up_names.specs.PathNames.{PathName}
use Rattle.up_mem_tree.specs.MemTrees.{TreeLog}
use Rattle.up_policy.specs.Loadings.{Loading}
use Rattle.up_foreign.specs.Noted.{AreNoted}
use Rattle.up_foreign.specs.declared.noted.Times.{Times}

-- the needed groups of the texts that were looked at, in the tree as it is and in the tree as it was, are among these names
pub record AreBothNoted (tree : TreeLog) (loaded : Loading) (times : Times) (names : List PathName) : Type 0 where
  pub current : AreNoted tree loaded times.current names
  pub past : AreNoted tree loaded times.past names
