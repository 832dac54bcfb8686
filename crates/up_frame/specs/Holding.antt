-- What is held of a stream that comes in pieces.
use Rattle.std.specs.Prelude.{◌≡◌, ℕ, List, ◌++◌, length, Option}
use Rattle.up_frame.specs.Stream.{Reads}

-- the limit of a payload, how many bytes were fed, the payloads of whole frames that wait to be given, the bytes
-- after them, and the place of a bad frame
pub record Holding : Type 0 where
  pub limit : ℕ
  pub fed : ℕ
  pub waiting : List (List ℕ)
  pub rest : List ℕ
  pub bad : Option ℕ

-- It stands for a stream of which these payloads were given: those given and those that wait are all that it has.
pub record StandsFor (now : Holding) (stream : List ℕ) (given : List (List ℕ)) : Type 0 where
  pub fed : now.fed ≡ length stream
  pub reads : Reads now.limit stream (given ++ now.waiting) now.rest now.bad
