-- What a reader of a part of an element gives, memory aside.
use Rattle.std.specs.Prelude.{◌≡◌, ◌≢◌, Option, Some, None, Result, Ok, Err}
use Rattle.up_pattern.specs.declared.fault.ElementFault.{ElementFault}
use Rattle.up_pattern.specs.declared.fault.ElementFault.TheVariants.{OutOfMemory}

-- The value, seen by `view`, is the one meant, and a fault comes where none is meant; want of memory alone is free.
abbrev pub Reads : {X Y : Type 0} → (X → Y) → Result X ElementFault → Option Y → Type 0
Reads view (Ok x) meant = meant ≡ Some (view x)
Reads view (Err fault) meant = fault ≢ OutOfMemory → meant ≡ None
