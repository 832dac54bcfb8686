-- The crash images of a disk in memory that can be asked for by number. This project's own.
use Rattle.std.specs.Prelude.{◌==◌, ◌+◌, ◌/◌, ◌%◌, ℕ, List, [], ◌∷◌, length, take, drop, replicate, if◌then◌else◌}
use Rattle.up_disk.specs.Pending.{done, padded, put_at}
use Rattle.up_disk.specs.declared.call.Call.{Call}
use Rattle.up_disk.specs.declared.call.Call.TheVariants.{Write, Cut, Sync}
use Rattle.up_disk.specs.declared.call.Landing.{Landing}
use Rattle.up_disk.specs.declared.call.Landing.TheVariants.{Nothing, Everything, FrontHalf, BackHalf, Filled, OldSize, SizeAlone}

-- the choices by their numbers
abbrev pub landing_of : ℕ → Landing
landing_of choice =
    let n = choice % 8 in
    if n == 0 then Nothing
    else (if n == 1 then Everything
    else (if n == 2 then FrontHalf
    else (if n == 3 then BackHalf
    else (if n == 4 then Filled 1
    else (if n == 5 then Filled 255
    else (if n == 6 then OldSize
    else SizeAlone))))))

-- what a write leaves of an image
abbrev pub landed_write : Landing → ℕ → List ℕ → List ℕ → List ℕ
landed_write Nothing at bytes image = image
landed_write Everything at bytes image = put_at at bytes image
landed_write FrontHalf at bytes image = put_at at (take (length bytes / 2) bytes) image
landed_write BackHalf at bytes image = put_at (at + length bytes / 2) (drop (length bytes / 2) bytes) image
landed_write (Filled byte) at bytes image = put_at at (replicate (length bytes) byte) image
landed_write OldSize at bytes image = take (length image) (put_at at bytes image)
landed_write SizeAlone at bytes image = padded (at + length bytes) image

-- what a cut leaves of an image: it has happened, but where nothing lands or the size matters
abbrev pub landed_cut : Landing → ℕ → List ℕ → List ℕ
landed_cut Nothing size image = image
landed_cut OldSize size image = image
landed_cut SizeAlone size image = image
landed_cut _ size image = take size image

-- what a call leaves of an image
abbrev pub landed : Landing → Call → List ℕ → List ℕ
landed landing (Write w) image = landed_write landing w.at w.bytes image
landed landing (Cut size) image = landed_cut landing size image
landed landing Sync image = image

-- what calls leave of an image between two syncs
abbrev pub landed_all : Landing → List ℕ → List Call → List ℕ
landed_all landing image [] = image
landed_all landing image (call ∷ calls) = landed_all landing (landed landing call image) calls

-- The image that the choice makes of all calls. It goes on beside the bytes that a read gives, and a sync makes it
-- these bytes.
abbrev pub image_after : Landing → List ℕ → List ℕ → List Call → List ℕ
image_after landing image bytes [] = image
image_after landing image bytes (Sync ∷ calls) = image_after landing bytes bytes calls
image_after landing image bytes (call ∷ calls) = image_after landing (landed landing call image) (done call bytes) calls
