-- What a fault says when it is printed: this project's own words.
use Rattle.std.specs.Prelude.{List, ℕ, ◌++◌, codes}
use Rattle.std.specs.Fmt.{decimal}
use Rattle.up_frame.specs.declared.fault.FrameFault.{FrameFault}
use Rattle.up_frame.specs.declared.fault.FrameFault.TheVariants.{BadFrame, OutOfMemory}

-- the words of each fault of a stream of frames
abbrev pub message : FrameFault → List ℕ
message (BadFrame place) = codes "no frame at byte " ++ decimal place
message OutOfMemory = codes "out of memory"
