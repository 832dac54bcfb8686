-- The words of `upspin audit`. This project's own.
use Rattle.std.specs.Prelude.{ℕ, ◌+◌, ◌==◌, ◌&&◌, if◌then◌else◌, List, [], ◌∷◌, length, codes, Option, Some, None}
use Rattle.std.specs.List.{slice_split}
use Rattle.std.specs.Str.{bytes_eq}
use Rattle.up_command.specs.Users.{are_different}
use Rattle.up_command.specs.Words.{◌>>=◌}
use Rattle.up_names.specs.Texts.{Text, UserName}
use Rattle.up_reports.specs.Owners.{owner_in}
use Rattle.up_text.specs.Lists.{is_comma}

-- the owners that these words name, where each names one
unfoldable pub owners_named : List Text → Option (List UserName)
owners_named [] = Some []
owners_named (word ∷ more) = do
  owner ← owner_in word
  others ← owners_named more
  Some (owner ∷ others)

-- these users, where no user stands twice
abbrev pub if_different : List UserName → Option (List UserName)
if_different users = if are_different users then Some users else None

-- the owners of trees that a word names, joined by commas: all different, and no snapshot user among them; the empty word names none
unfoldable pub trees_named : Text → Option (List UserName)
trees_named word = if length word == 0 then Some [] else owners_named (slice_split is_comma word) >>= if_different

-- the word of the trees: the third of three, behind `audit` and a folder
abbrev pub trees_word : List Text → Option Text
trees_word [] = None
trees_word (command ∷ []) = None
trees_word (command ∷ folder ∷ []) = None
trees_word (command ∷ folder ∷ trees ∷ more) = if bytes_eq command (codes "audit") && length more == 0 then Some trees else None

-- the owners of the trees that the words name; none where they do not fit
unfoldable pub audit_plan : List Text → Option (List UserName)
audit_plan words = trees_word words >>= trees_named

-- these owners, where there is a disk for each of their trees and one for the store
abbrev pub if_so_many : ℕ → List UserName → Option (List UserName)
if_so_many disks owners = if length owners + 1 == disks then Some owners else None

-- the owners whose trees the words name, where there is a disk for each of their trees and one for the store
unfoldable pub owners_for : List Text → ℕ → Option (List UserName)
owners_for words disks = audit_plan words >>= if_so_many disks
