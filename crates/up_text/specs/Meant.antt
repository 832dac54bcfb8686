-- What a reader of words answers.
use Rattle.std.specs.Prelude.{◌≡◌, ◌≢◌, Option, Some, None, Result, Ok, Err}
use Rattle.up_text.specs.declared.fault.LineFault.{LineFault}
use Rattle.up_text.specs.declared.fault.LineFault.TheVariants.{OutOfMemory}

-- what a call answered, seen by view, is what its words mean, or that they mean nothing; or it found no memory
abbrev pub IsMeant : {X Y : Type 0} → (X → Y) → Result X LineFault → Option Y → Type 0
IsMeant view (Ok x) meant = meant ≡ Some (view x)
IsMeant view (Err e) meant = e ≢ OutOfMemory → meant ≡ None
