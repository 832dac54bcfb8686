-- What stands on a device from the closed gate of a journal on. This project's own.
use Rattle.std.specs.Prelude.{◌≡◌, ◌⊎◌, ◌<◌, ◌+◌, ℕ, false, List, ◌∷◌, ◌++◌, length, Option, Some, None, option_map, IsSome}
use Rattle.up_disk.specs.Disk.{LeavesOnly}
use Rattle.up_disk.specs.declared.disk.Disk.{Ghosts}
use Rattle.up_journal.specs.Format2.{head_size}
use Rattle.up_journal.specs.Gates.{is_open}

-- the image is this front, and a closed gate after it
pub record Closed (front image : List ℕ) : Type 0 where
  pub rest : List ℕ
  pub is : image ≡ front ++ rest
  pub some : 0 < length rest
  pub closed : is_open rest ≡ false

-- the image is this front, this gate, and these bytes after it
pub record Whole (gate : ℕ) (behind front image : List ℕ) : Type 0 where
  pub rest : List ℕ
  pub is : image ≡ front ++ gate ∷ (behind ++ rest)

-- the image is this front, any gate, and these bytes after it
pub record Ready (behind front image : List ℕ) : Type 0 where
  pub gate : ℕ
  pub whole : Whole gate behind front image

-- a closed gate; or these bytes after any gate, the last of which is a closed gate
abbrev pub Shape : Option (List ℕ) → List ℕ → List ℕ → Type 0
Shape None front image = Closed front image
Shape (Some behind) front image = Ready behind front image

-- each of these images has that shape
pub record EachShape (held : Option (List ℕ)) (front : List ℕ) (images : List ℕ → Type 0) : Type 0 where
  pub each : (image : List ℕ) → images image → Shape held front image

-- each of these images is that front, that gate, and these bytes after it
pub record EachWhole (gate : ℕ) (behind front : List ℕ) (images : List ℕ → Type 0) : Type 0 where
  pub each : (image : List ℕ) → images image → Whole gate behind front image

-- the disk tells its content, and the image has that shape
pub record Rests (content : Option (List ℕ)) (held : Option (List ℕ)) (front image : List ℕ) : Type 0 where
  pub told : IsSome content
  pub shape : Shape held front image

-- after the front stands what was held there, or nothing, or these bytes
abbrev pub IsOneOf : Option (List ℕ) → List ℕ → Option (List ℕ) → Type 0
IsOneOf held behind which = (which ≡ None) ⊎ ((which ≡ held) ⊎ (which ≡ Some behind))

-- the disk tells its content, and the image has one of these shapes
pub record RestsAsOne (content : Option (List ℕ)) (held : Option (List ℕ)) (behind front image : List ℕ) : Type 0 where
  pub which : Option (List ℕ)
  pub one : IsOneOf held behind which
  pub rests : Rests content which front image

-- what is held after a gate is as long as the record of a payload of that size, and a closed gate
abbrev pub IsSized : Option (List ℕ) → Option ℕ → Type 0
IsSized held size = option_map length held ≡ option_map (λ n. n + head_size) size

-- each image has one of these shapes, the same, for a payload of that size
pub record EachAsOne (held : Option (List ℕ)) (behind front : List ℕ) (size : Option ℕ) (images : List ℕ → Type 0) : Type 0 where
  pub which : Option (List ℕ)
  pub one : IsOneOf held behind which
  pub sized : IsSized which size
  pub shape : EachShape which front images

-- the front ends at the gate, and after it each image has what is held there, for a payload of that size
pub record Stands (held : Option (List ℕ)) (front : List ℕ) (gate : ℕ) (size : Option ℕ) (images : List ℕ → Type 0) : Type 0 where
  pub sized : IsSized held size
  pub place : length front ≡ gate
  pub shape : EachShape held front images

-- a run of reads: what a read gives stays, and a crash leaves what it might have left before
pub record OnlyRead {D : Type 0} (disks : Ghosts D) (old new : D) : Type 0 where
  pub same : disks.content new ≡ disks.content old
  pub size : disks.size_of new ≡ disks.size_of old
  pub fewer : (image : List ℕ) → disks.may_leave new image → disks.may_leave old image
  pub run : LeavesOnly disks.moment disks.left_since old new (disks.may_leave old)
