-- What whoever judges a line answers. This project's own.
use Rattle.std.specs.Prelude.{◌≡◌, ◌≢◌, true, Option, Some, None, is_some, Result, Ok, Err}
use Rattle.up_explain_can.specs.declared.why.Why.{Why}
use Rattle.up_explain_can.specs.declared.why.Why.TheVariants.{OutOfMemory}

-- what a call answered, seen by view, is what its words mean, or that they mean nothing; or it found no memory
abbrev pub IsMeant : {X Y : Type 0} → (X → Y) → Result X Why → Option Y → Type 0
IsMeant view (Ok x) meant = meant ≡ Some (view x)
IsMeant view (Err why) meant = why ≢ OutOfMemory → meant ≡ None

-- a call answered whether words mean something; or it found no memory
abbrev pub Judges : {X Y : Type 0} → Result X Why → Option Y → Type 0
Judges (Ok x) meant = is_some meant ≡ true
Judges (Err why) meant = why ≢ OutOfMemory → meant ≡ None
