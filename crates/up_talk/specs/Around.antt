-- Among whom a connection stands, and what it sees of its two ends. This project's own.
use Rattle.std.specs.Prelude.{ℕ, List, Option}
use Rattle.up_ends.specs.Telling.{Coming}
use Rattle.up_ends.specs.declared.verifier.Judged.{Judged}
use Rattle.up_names.specs.Texts.{UserName}
use Rattle.up_wire.specs.declared.keys.KeyRecord.{KeyRecord}

-- who answers, who judges signatures, the clock, and where challenges come from
pub record Around (A V C N : Type 0) : Type 0 where
  pub answerer : A
  pub verifier : V
  pub clock : C
  pub nonces : N

-- What these tell, where Q are the questions and R the answers. Of who answers: its host's name; what a look at a user's key record
-- finds and leaves; the payload of each question that has one; the payload of each answer; and what a question of a user at a moment is
-- answered and leaves.
pub record Parties (A V C N Q R : Type 0) : Type 1 where
  pub name : A → List ℕ
  pub looked : A → UserName → Option KeyRecord → A → Type 0
  pub asking : Q → List ℕ
  pub fits : Q → Type 0
  pub answering : R → List ℕ
  pub asked : A → UserName → Q → ℕ → R → A → Type 0
  pub tied : A → A → Type 0
  pub judged : V → Option (List Judged)
  pub verifier_faults : V → ℕ
  pub moments : C → Option (Coming ℕ)
  pub challenges : N → Option (Coming (List ℕ))

-- The two ends: the bytes that are left to read, how many bytes were given, how often a read failed; the bytes that were written, and
-- how often a write failed.
pub record Ends : Type 0 where
  pub left : Option (List ℕ)
  pub given : ℕ
  pub read_faults : ℕ
  pub held : Option (List ℕ)
  pub write_faults : ℕ

-- all that a connection stands among
pub record World (A V C N : Type 0) : Type 0 where
  pub around : Around A V C N
  pub ends : Ends
