-- Who takes part in a storm, and what they ask. This project's own.
use Rattle.std.specs.Prelude.{ℕ, ◌+◌, ◌%◌, ◌==◌, if◌then◌else◌, List, [], ◌++◌, codes, decimal, pos}
use Rattle.up_command.specs.Printed.{ended}
use Rattle.up_entry.specs.declared.entries.Block.{Block}
use Rattle.up_names.specs.Texts.{Text}
use Rattle.up_storm.specs.declared.generator.Draw.{Draw}
use Rattle.up_storm.specs.declared.generator.Wish.{Wish}
use Rattle.up_storm.specs.declared.generator.Wish.TheVariants as wish
use Rattle.up_wire.specs.declared.requests.Request.{Request}
use Rattle.up_wire.specs.declared.requests.Request.TheVariants as request

-- ---- who, and where

-- session k works in the tree of this owner
abbrev pub owner_text : ℕ → Text
owner_text k = if k % 2 == 0 then codes "a@storm.example" else codes "b@storm.example"

-- the user of session k
abbrev pub user_text : ℕ → Text
user_text k = codes "u" ++ (decimal k ++ codes "@storm.example")

-- the directory of session k
abbrev pub directory_text : ℕ → Text
directory_text k = owner_text k ++ (codes "/" ++ decimal k)

-- a file of session k
abbrev pub file_text : ℕ → ℕ → Text
file_text k file = directory_text k ++ (codes "/f" ++ decimal file)

-- all that stands in the directory of session k
abbrev pub pattern_text : ℕ → Text
pattern_text k = directory_text k ++ codes "/*"

-- the text of the Access file of session k: its user may do all
abbrev pub access_text : ℕ → Text
access_text k = codes "*: " ++ ended (user_text k)

-- ---- requests

-- a Put, with time and sequence 0: of a file where attr is 0, of a directory where it is 1
abbrev pub put_of : Text → Text → ℕ → List Block → Request
put_of writer path attr blocks = request.Put (record {
  signed_name = path;
  packing = 1;
  time = pos 0;
  blocks = blocks;
  packdata = [];
  link = [];
  writer = writer;
  name = path;
  attr = attr;
  sequence = pos 0;
})

-- what session k asks of a file, or of its directory; elsewhere is the directory of session k + 2, which lies in the same tree
abbrev pub wished : ℕ → Wish → ℕ → Request
wished k wish.Put file = put_of (user_text k) (file_text k file) 0 []
wished k wish.Delete file = request.Delete (file_text k file)
wished k wish.Lookup file = request.Lookup (file_text k file)
wished k wish.LookElsewhere file = request.Lookup (file_text (k + 2) file)
wished k wish.Glob file = request.Glob (pattern_text k)

-- the request that session k asks by what was drawn
abbrev pub request_of : ℕ → Draw → Request
request_of k draw = wished k draw.wish draw.file

-- ---- and the script line that asks it, without the session's number

-- the script line by which session k asks it, without the session's number
abbrev pub wished_line : ℕ → Wish → ℕ → Text
wished_line k wish.Put file = codes "file " ++ (file_text k file ++ codes " 1 0 0 - -")
wished_line k wish.Delete file = codes "delete " ++ file_text k file
wished_line k wish.Lookup file = codes "lookup " ++ file_text k file
wished_line k wish.LookElsewhere file = codes "lookup " ++ file_text (k + 2) file
wished_line k wish.Glob file = codes "glob " ++ pattern_text k

-- the script line by which session k asks what was drawn
abbrev pub line_of : ℕ → Draw → Text
line_of k draw = wished_line k draw.wish draw.file
