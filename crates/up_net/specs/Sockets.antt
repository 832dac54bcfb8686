-- What is told of servers over connections: nothing. This project's own.
use Rattle.std.specs.Prelude.{ℕ, Option}
use Rattle.up_wire.specs.declared.requests.Request.{Request}
use Rattle.up_wire.specs.declared.replies.Reply.{Reply}

-- any request may be answered by anything
abbrev pub AnyAnswer : {S : Type 0} → S → Request → Option Reply → S → Type 0
AnyAnswer old request reply new = Unit {0}

-- nothing is said of what is borrowed, since nothing is
abbrev pub AnyTie : {S : Type 0} → S → S → Type 0
AnyTie old new = Unit {0}

-- what holds nothing that is borrowed is tied to itself
pub any_same : {S : Type 0} (a : S) → AnyTie a a
any_same a = tt

-- what holds nothing that is borrowed is tied over two calls
pub any_joined : {S : Type 0} (a b c : S) → AnyTie a b → AnyTie b c → AnyTie a c
any_joined a b c one two = tt
