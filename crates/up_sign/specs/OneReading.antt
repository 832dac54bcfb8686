-- That a message which a user signs tells what it is about. This project's own.
use Rattle.std.specs.Prelude.{◌≡◌, ℕ, true, List, length, Ok}
use Rattle.hex.specs.Hex.{IsBytes}
use Rattle.up_names.specs.UserNames.{user_of}
use Rattle.up_sign.specs.HostNames.{is_host_name}
use Rattle.up_sign.specs.SigningOn.{message_of}

-- what a message is made of: the name of a host, a canonical user, and a challenge of 32 bytes
pub record SignedParts : Type 0 where
  pub host : List ℕ
  pub user : List ℕ
  pub challenge : List ℕ
  pub named : is_host_name host ≡ true
  pub canonical : user_of user ≡ Ok user
  pub long : length challenge ≡ 32
  pub bytes : IsBytes challenge

-- one message is made of the same parts
pub record AreSameParts (one other : SignedParts) : Type 0 where
  pub host : one.host ≡ other.host
  pub user : one.user ≡ other.user
  pub challenge : one.challenge ≡ other.challenge

-- the message that is made of these
abbrev pub message_made : SignedParts → List ℕ
message_made parts = message_of parts.host parts.user parts.challenge

-- a message has one reading
abbrev pub HaveOneReading : Type 0
HaveOneReading = (one other : SignedParts) → message_made one ≡ message_made other → AreSameParts one other
