-- What a fault says when it is printed: this project's own words.
use Rattle.std.specs.Prelude.{List, ℕ, ◌++◌, codes}
use Rattle.std.specs.Fmt.{decimal}
use Rattle.up_blocks.specs.declared.fault.BlockWhy.{BlockWhy}
use Rattle.up_blocks.specs.declared.fault.BlockWhy.TheVariants.{NotExist, Full, Fault, OutOfMemory}

-- the words of each fault of a store
abbrev pub message : BlockWhy → List ℕ
message NotExist = codes "no such block is held"
message (Full records) = codes "the store is full with " ++ decimal records ++ codes " records"
message Fault = codes "the disk failed"
message OutOfMemory = codes "out of memory"
