-- What a client makes of one reply. This project's own.
use Rattle.std.specs.Prelude.{ℕ, List, Result, Ok, Err}
use Rattle.up_wire.specs.declared.replies.Done.{Done}
use Rattle.up_wire.specs.declared.replies.Done.TheVariants as dones
use Rattle.up_wire.specs.declared.replies.Reply.{Reply}
use Rattle.up_wire.specs.declared.replies.Reply.TheVariants as replies
use Rattle.up_client.specs.declared.fault.ClientFault.{ClientFault}
use Rattle.up_client.specs.declared.fault.ClientFault.TheVariants.{Refused, Odd, OutOfMemory}

infixl 10 ◌>>=◌
-- the one, and then the other of what came of it; a fault ends both
abbrev pub ◌>>=◌ : {A B : Type 0} → Result A ClientFault → (A → Result B ClientFault) → Result B ClientFault
(Ok x) >>= next = next x
(Err fault) >>= next = Err fault

-- what was done; want of memory there is want of memory here, and any other reply is handed on
abbrev pub outcome : Reply → Result Done ClientFault
outcome (replies.Ok d) = Ok d
outcome replies.OutOfMemory = Err OutOfMemory
outcome reply = Err (Refused reply)

-- the bytes of a block
abbrev pub bytes_in : Done → Result (List ℕ) ClientFault
bytes_in (dones.Bytes bytes) = Ok bytes
bytes_in d = Err Odd

-- the reference of a block that was kept
abbrev pub reference_in : Done → Result (List ℕ) ClientFault
reference_in (dones.Reference reference) = Ok reference
reference_in d = Err Odd

-- the position of a change
abbrev pub position_in : Done → Result ℕ ClientFault
position_in (dones.Changed position) = Ok position
position_in d = Err Odd
