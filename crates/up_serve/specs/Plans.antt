-- What the words of `upspin serve` say. This project's own.
use Rattle.std.specs.Prelude.{◌≡◌, ◌==◌, ℕ, Bool, true, false, not, ◌&&◌, ◌||◌, if◌then◌else◌, List, [], ◌∷◌, codes, length, Option, Some}
use Rattle.std.specs.Prelude.{None}
use Rattle.std.specs.List.{AllByRecursion, IsDistinct, after_first, before_first, list_all, list_any}
use Rattle.std.specs.Result.{result_ok}
use Rattle.std.specs.Str.{bytes_eq}
use Rattle.up_command.specs.Users.{are_different}
use Rattle.up_command.specs.Words.{◌>>=◌}
use Rattle.up_entry.specs.Rules.{is_address}
use Rattle.up_names.specs.Texts.{Text, UserName}
use Rattle.up_names.specs.UserNames.{user_of}
use Rattle.up_policy.specs.Trees.{owns_snapshots}
use Rattle.up_serve.specs.declared.plan.ServePlan.{ServePlan}
use Rattle.up_sign.specs.HostNames.{host_named, is_host_name}
use Rattle.up_text.specs.Numbers.{num_of}

-- ---- options and their values

-- whether a word is an option
abbrev pub is_option : Text → Bool
is_option word =
    bytes_eq word (codes "--listen") || bytes_eq word (codes "--host") || bytes_eq word (codes "--operator")
    || bytes_eq word (codes "--tree") || bytes_eq word (codes "--folder")
    || bytes_eq word (codes "--helper") || bytes_eq word (codes "--enrol")
    || bytes_eq word (codes "--peer") || bytes_eq word (codes "--connections")
    || bytes_eq word (codes "--feed") || bytes_eq word (codes "--feeds")

-- whether words are pairs of an option and its value
abbrev pub are_pairs : List Text → Bool
are_pairs [] = true
are_pairs (name ∷ []) = false
are_pairs (name ∷ value ∷ more) = is_option name && are_pairs more

-- the values of an option, in their order
abbrev pub values_of : Text → List Text → List Text
values_of option (name ∷ value ∷ more) = if bytes_eq name option then value ∷ values_of option more else values_of option more
values_of option (name ∷ []) = []
values_of option [] = []

-- the value of an option that stands once
abbrev pub once : List Text → Option Text
once [] = None
once (value ∷ []) = Some value
once (value ∷ other ∷ more) = None

-- the value of an option that may be left out, and is empty then
abbrev pub at_most_once : List Text → Option Text
at_most_once [] = Some []
at_most_once (value ∷ []) = Some value
at_most_once (value ∷ other ∷ more) = None

-- what each of these values is read as, where each is read as something
abbrev pub all_read : {X : Type 0} → (Text → Option X) → List Text → Option (List X)
all_read read [] = Some []
all_read read (value ∷ more) = do
  first ← read value
  others ← all_read read more
  Some (first ∷ others)

-- ---- what a value is read as; it stands for itself, and nothing in it is coded

-- the user that a value names
abbrev pub user_in : Text → Option UserName
user_in value = result_ok (user_of value)

-- an address: 1 to 255 bytes from 0x21 to 0x7E
abbrev pub address_in : Text → Option Text
address_in value = if is_address value then Some value else None

-- the byte `=`
abbrev pub is_equals : ℕ → Bool
is_equals b = b == 61

-- a peer: `USER=ADDR`, cut at the first `=`
unfoldable pub peer_in : Text → Option (UserName × Text)
peer_in value = do
  user ← user_in (before_first is_equals value)
  address ← address_in (after_first is_equals value)
  if list_any is_equals value then Some (user, address) else None

-- where followers are listened for, and how many of their connections come: two options, each once
unfoldable pub given_feed : List Text → List Text → Option (Text × ℕ)
given_feed addresses numbers = do
  address ← once addresses >>= address_in
  number ← once numbers >>= num_of
  Some (address, number)

-- the values of these two options, where both stand; where neither does, the empty text and 0
abbrev pub feed_in : List Text → List Text → Option (Text × ℕ)
feed_in addresses numbers = if (length addresses == 0) && (length numbers == 0) then Some ([], 0) else given_feed addresses numbers

-- ---- trees

-- these users may be the owners of trees: all differ, and none of them is a snapshot user
abbrev pub are_owners : List UserName → Bool
are_owners owners = list_all (λ owner. not (owns_snapshots owner)) owners && are_different owners

-- these users, where they may be the owners of trees
abbrev pub if_owners : List UserName → Option (List UserName)
if_owners owners = if are_owners owners then Some owners else None

-- ---- all words

-- what options and their values say
unfoldable pub options_plan : List Text → Option ServePlan
options_plan options = do
  listen ← once (values_of (codes "--listen") options) >>= address_in
  folder ← once (values_of (codes "--folder") options)
  helper ← once (values_of (codes "--helper") options)
  enrol ← at_most_once (values_of (codes "--enrol") options)
  connections ← once (values_of (codes "--connections") options) >>= num_of
  feed ← feed_in (values_of (codes "--feed") options) (values_of (codes "--feeds") options)
  host ← once (values_of (codes "--host") options) >>= host_named
  operator ← once (values_of (codes "--operator") options) >>= user_in
  trees ← all_read user_in (values_of (codes "--tree") options) >>= if_owners
  peers ← all_read peer_in (values_of (codes "--peer") options)
  Some (record {
    listen = listen;
    host = host;
    operator = operator;
    trees = trees;
    folder = folder;
    helper = helper;
    enrol = enrol;
    peers = peers;
    connections = connections;
    feed = feed.0;
    feeds = feed.1;
  })

-- what the words say: `serve`, and then pairs of an option and its value, in any order; none where they do not fit
unfoldable pub plan_of : List Text → Option ServePlan
plan_of [] = None
plan_of (command ∷ options) = if bytes_eq command (codes "serve") && are_pairs options then options_plan options else None

-- ---- what is known of every plan

-- a host is opened as it says: by a good name, over trees of different owners, none of whom is a snapshot user
pub record IsPlan (plan : ServePlan) : Type 0 where
  pub named : is_host_name plan.host ≡ true
  pub distinct : IsDistinct bytes_eq plan.trees
  pub plain : AllByRecursion (λ owner. owns_snapshots owner ≡ false) plan.trees
