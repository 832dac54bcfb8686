-- Why an image has no log. This project's own.
use Rattle.std.specs.Prelude.{ℕ, List}

-- why an image has no log
pub data Damage : Type 0 where
  -- The place of an open gate without a whole record, or of the gate of a record that the reader of the records does not take;
  -- or 0, where the image has another name.
  Damaged : ℕ → Damage
  -- The place of a gate, the link that its record has to carry, and the one that it carries.
  Chain : ℕ → List ℕ → List ℕ → Damage
  -- The image is one of the first format.
  OldFormat : Damage
