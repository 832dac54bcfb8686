-- What the calls of a disk in memory make of its bytes, and what a crash may leave of them. This project's own.
use Rattle.std.specs.Prelude.{◌≡◌, ◌==◌, ◌+◌, ◌-◌, ℕ, List, [], ◌∷◌, ◌++◌, length, take, replicate, if◌then◌else◌}
use Rattle.up_disk.specs.Disk.{CutShort, Torn, written}
use Rattle.up_disk.specs.declared.call.Call.{Call}
use Rattle.up_disk.specs.declared.call.Call.TheVariants.{Write, Cut, Sync}

-- the bytes, with zeros after them up to a size
abbrev pub padded : ℕ → List ℕ → List ℕ
padded size bytes = bytes ++ replicate (size - length bytes) 0

-- the bytes with others at a place, and zeros before it where they end earlier
abbrev pub put_at : ℕ → List ℕ → List ℕ → List ℕ
put_at at new bytes = written at new (padded at bytes)

-- what a read gives after the call
abbrev pub done : Call → List ℕ → List ℕ
done (Write w) bytes = put_at w.at (take w.landed w.bytes) bytes
done (Cut size) bytes = take size bytes
done Sync bytes = bytes

-- what a read gives after all of them
abbrev pub content_after : List ℕ → List Call → List ℕ
content_after bytes [] = bytes
content_after bytes (call ∷ calls) = content_after (done call bytes) calls

-- what the call may make of an image, where a read gave these bytes before it
abbrev pub MayMake : Call → List ℕ → List ℕ → List ℕ → Type 0
MayMake (Write w) bytes old new = Torn w.at (length w.bytes) old new
MayMake (Cut size) bytes old new = CutShort size old new
MayMake Sync bytes old new = new ≡ bytes

-- what all of them may make of an image, where a read gave these bytes before them
abbrev pub MayLeave : List ℕ → List ℕ → List Call → List ℕ → Type 0
MayLeave old bytes [] new = new ≡ old
MayLeave old bytes (call ∷ calls) new = (next : List ℕ) × MayMake call bytes old next × MayLeave next (done call bytes) calls new

-- how many calls there are up to the last sync
abbrev pub synced_calls : List Call → ℕ
synced_calls [] = 0
synced_calls (Sync ∷ calls) = synced_calls calls + 1
synced_calls (_ ∷ calls) = if synced_calls calls == 0 then 0 else synced_calls calls + 1
