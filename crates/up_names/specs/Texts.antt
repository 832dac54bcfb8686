-- What definitions speak of: texts, and users by their names.
use Rattle.std.specs.Prelude.{ℕ, List}

-- a text: its bytes
abbrev pub Text : Type 0
Text = List ℕ

-- a user: its canonical name
abbrev pub UserName : Type 0
UserName = Text
