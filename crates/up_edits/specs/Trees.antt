-- The log of a tree in memory. This project's own.
use Rattle.up_names.specs.Texts.{UserName}
use Rattle.up_mem_tree.specs.MemTrees.{TreeLog}
use Rattle.up_policy.specs.Loadings.{Loading}
use Rattle.up_list.specs.Looks.{Look}
use Rattle.up_list.specs.Seen.{look_of}

-- the tree as a user meets it
abbrev pub look_in : TreeLog → Loading → UserName → Look
look_in tree loaded user = look_of (record { owner = tree.owner; records = tree.log }) loaded user
