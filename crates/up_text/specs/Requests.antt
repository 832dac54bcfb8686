-- What each line of a script asks of a server, or of the client. The script language is this project's own. The words are those
-- after the session's number: a keyword, and the words that it takes.
use Rattle.std.specs.Prelude.{ℕ, ℤ, ◌^◌, nat_lt, if◌then◌else◌, List, [], ◌∷◌, Option, Some, None, option_map, codes, bytes_eq}
use Rattle.up_names.specs.Texts.{Text, UserName}
use Rattle.up_entry.specs.declared.puts.PutEntry.{PutEntry}
use Rattle.up_wire.specs.declared.requests.Request.{Request}
use Rattle.up_wire.specs.declared.requests.Request.TheVariants as request
use Rattle.up_text.specs.declared.requests.LineKind.{LineKind}
use Rattle.up_text.specs.declared.requests.LineKind.TheVariants as kinds
use Rattle.up_text.specs.declared.requests.ClientLine.{ClientLine}
use Rattle.up_text.specs.declared.requests.ClientLine.TheVariants as client
use Rattle.up_text.specs.Lists.{◌>>=◌, blocks_named, endpoints_named}
use Rattle.up_text.specs.Numbers.{int_of, num_of}
use Rattle.up_text.specs.Words.{decoded}

-- `KEYWORD WORD`: the text that the one word stands for
unfoldable pub one_text : List Text → Option Text
one_text (word ∷ []) = decoded word
one_text _ = None

-- an entry without blocks that a session's user hands in: the signed name is the name as it is written
abbrev pub entry_by : UserName → Text → ℕ → ℤ → ℤ → PutEntry
entry_by user name attr seconds wanted = record {
  signed_name = name;
  packing = 1;
  time = seconds;
  blocks = [];
  packdata = [];
  link = [];
  writer = user;
  name = name;
  attr = attr;
  sequence = wanted;
}

-- the entry that a line puts, by the words of its path, its time and its sequence
unfoldable pub plain_entry : UserName → ℕ → Text → Text → Text → Option PutEntry
plain_entry user attr path time sequence = do
  name ← decoded path
  seconds ← int_of time
  wanted ← int_of sequence
  Some (entry_by user name attr seconds wanted)

-- `mkdir PATH TIME SEQ`: Put of a directory
unfoldable pub mkdir_line : UserName → List Text → Option PutEntry
mkdir_line user (path ∷ time ∷ sequence ∷ []) = plain_entry user 1 path time sequence
mkdir_line user _ = None

-- `link PATH TARGET TIME SEQ`: Put of a link
unfoldable pub link_line : UserName → List Text → Option PutEntry
link_line user (path ∷ target ∷ time ∷ sequence ∷ []) = do
  plain ← plain_entry user 2 path time sequence
  text ← decoded target
  Some (record plain { link = text })
link_line user _ = None

-- a number below 256
abbrev pub byte_of : Text → Option ℕ
byte_of word = do
  n ← num_of word
  if nat_lt n (2 ^ 8) then Some n else None

-- an entry with these words' packing, pack data and blocks
unfoldable pub filled : PutEntry → Text → Text → Text → Option PutEntry
filled plain packing packdata blocks = do
  packed ← byte_of packing
  written ← decoded packdata
  list ← blocks_named blocks
  Some (record plain { packing = packed; packdata = written; blocks = list })

-- `file PATH PACKING TIME SEQ PACKDATA BLOCKS`: Put of a file
unfoldable pub file_line : UserName → List Text → Option PutEntry
file_line user (path ∷ packing ∷ time ∷ sequence ∷ packdata ∷ blocks ∷ []) = do
  plain ← plain_entry user 0 path time sequence
  filled plain packing packdata blocks
file_line user _ = None

-- `watch PATH SEQ`
unfoldable pub watch_line : List Text → Option Request
watch_line (path ∷ sequence ∷ []) = do
  text ← decoded path
  wanted ← int_of sequence
  Some (request.Watch text wanted)
watch_line _ = None

-- `setkey USER DIRS STORES KEY`
unfoldable pub setkey_line : List Text → Option Request
setkey_line (user ∷ dirs ∷ stores ∷ key ∷ []) = do
  name ← decoded user
  directories ← endpoints_named dirs
  places ← endpoints_named stores
  public ← decoded key
  Some (request.KeyPut (record { user = name; dirs = directories; stores = places; key = public }))
setkey_line _ = None

-- `put PATH TIME SEQ BYTES`: the client's
unfoldable pub put_line : List Text → Option ClientLine
put_line (path ∷ time ∷ sequence ∷ bytes ∷ []) = do
  name ← decoded path
  seconds ← int_of time
  wanted ← int_of sequence
  content ← decoded bytes
  Some (client.Put name seconds wanted content)
put_line _ = None

-- `get PATH`: the client's
unfoldable pub get_line : List Text → Option ClientLine
get_line words = option_map (λ path. client.Get path) (one_text words)

-- the kind of line that a keyword begins, of those that ask no directory server
unfoldable pub other_kind_of : Text → Option LineKind
other_kind_of word =
    if bytes_eq word (codes "store") then Some kinds.Store
    else if bytes_eq word (codes "fetch") then Some kinds.Fetch
    else if bytes_eq word (codes "drop") then Some kinds.Drop
    else if bytes_eq word (codes "key") then Some kinds.Key
    else if bytes_eq word (codes "setkey") then Some kinds.SetKey
    else if bytes_eq word (codes "put") then Some kinds.Put
    else if bytes_eq word (codes "get") then Some kinds.Get
    else None

-- the kind of line that a keyword begins
unfoldable pub kind_of : Text → Option LineKind
kind_of word =
    if bytes_eq word (codes "lookup") then Some kinds.Lookup
    else if bytes_eq word (codes "mkdir") then Some kinds.Mkdir
    else if bytes_eq word (codes "link") then Some kinds.Link
    else if bytes_eq word (codes "file") then Some kinds.File
    else if bytes_eq word (codes "delete") then Some kinds.Delete
    else if bytes_eq word (codes "glob") then Some kinds.Glob
    else if bytes_eq word (codes "which") then Some kinds.Which
    else if bytes_eq word (codes "watch") then Some kinds.Watch
    else if bytes_eq word (codes "text") then Some kinds.Text
    else other_kind_of word

-- the kind of line that words begin
abbrev pub kind_in : List Text → Option LineKind
kind_in [] = None
kind_in (keyword ∷ words) = kind_of keyword

-- what a line of a kind asks, by the words that it takes; none where these are malformed, and for the client's lines
unfoldable pub kind_request : UserName → LineKind → List Text → Option Request
kind_request user kinds.Lookup words = option_map (λ path. request.Lookup path) (one_text words)
kind_request user kinds.Mkdir words = option_map (λ put. request.Put put) (mkdir_line user words)
kind_request user kinds.Link words = option_map (λ put. request.Put put) (link_line user words)
kind_request user kinds.File words = option_map (λ put. request.Put put) (file_line user words)
kind_request user kinds.Delete words = option_map (λ path. request.Delete path) (one_text words)
kind_request user kinds.Glob words = option_map (λ pattern. request.Glob pattern) (one_text words)
kind_request user kinds.Which words = option_map (λ path. request.WhichAccess path) (one_text words)
kind_request user kinds.Watch words = watch_line words
kind_request user kinds.Text words = option_map (λ path. request.GroupText path) (one_text words)
kind_request user kinds.Store words = option_map (λ block. request.StorePut block) (one_text words)
kind_request user kinds.Fetch words = option_map (λ reference. request.Get reference) (one_text words)
kind_request user kinds.Drop words = option_map (λ reference. request.StoreDelete reference) (one_text words)
kind_request user kinds.Key words = option_map (λ name. request.KeyLookup name) (one_text words)
kind_request user kinds.SetKey words = setkey_line words
kind_request user kinds.Put words = None
kind_request user kinds.Get words = None

-- what a line of a kind has the client do
unfoldable pub kind_client : LineKind → List Text → Option ClientLine
kind_client kinds.Put words = put_line words
kind_client kinds.Get words = get_line words
kind_client _ words = None

-- what words ask of a server, for a session of this user
unfoldable pub request_of : UserName → List Text → Option Request
request_of user [] = None
request_of user (keyword ∷ words) = do
  kind ← kind_of keyword
  kind_request user kind words

-- what words have the client do
unfoldable pub client_line_of : List Text → Option ClientLine
client_line_of [] = None
client_line_of (keyword ∷ words) = do
  kind ← kind_of keyword
  kind_client kind words
