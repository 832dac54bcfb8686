-- The log of a tree in memory. This project's own.
use Rattle.up_mem_tree.specs.MemTrees.{TreeLog}
use Rattle.up_log_tree.specs.Logs.{Limits, Log}

-- the log of a tree in memory, with limits that the tree does not keep
abbrev pub log_over : Limits → TreeLog → Log
log_over limits tree = record { owner = tree.owner; limits = limits; records = tree.log }
