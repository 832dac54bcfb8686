-- How rights are written. The long words and the letters are those of the Upspin access control document; `all` beside
-- `*`, and any case, are this project's own.
use Rattle.std.specs.Prelude.{ℕ, Bool, ◌||◌, if◌then◌else◌, codes, Option, Some, None}
use Rattle.std.specs.Prelude as std
use Rattle.std.specs.Str.{bytes_eq, str_to_ascii_lowercase}
use Rattle.up_rights.specs.declared.Right.{Right}
use Rattle.up_rights.specs.declared.Right.TheVariants.{Read, Write, List, Create, Delete}
use Rattle.up_rights.specs.RightSets.{Rights, no_rights, all_rights, with_right}

-- a right's long word, in lower case
abbrev pub long_word : Right → std.List ℕ
long_word Read = codes "read"
long_word Write = codes "write"
long_word List = codes "list"
long_word Create = codes "create"
long_word Delete = codes "delete"

-- a right's letter
abbrev pub letter : Right → std.List ℕ
letter Read = codes "r"
letter Write = codes "w"
letter List = codes "l"
letter Create = codes "c"
letter Delete = codes "d"

-- the right whose long word this is, exactly
unfoldable pub right_named : std.List ℕ → Option Right
right_named word =
    if bytes_eq word (long_word Read) then Some Read
    else if bytes_eq word (long_word Write) then Some Write
    else if bytes_eq word (long_word List) then Some List
    else if bytes_eq word (long_word Create) then Some Create
    else if bytes_eq word (long_word Delete) then Some Delete
    else None

-- whether a word in lower case is the right's long word or its letter
abbrev pub is_word_for : std.List ℕ → Right → Bool
is_word_for word right = bytes_eq word (long_word right) || bytes_eq word (letter right)

-- the rights that a word in lower case stands for: one, or for `*` and `all` all five
abbrev pub rights_of_lower : std.List ℕ → Option Rights
rights_of_lower word =
    if is_word_for word Read then Some (with_right no_rights Read)
    else if is_word_for word Write then Some (with_right no_rights Write)
    else if is_word_for word List then Some (with_right no_rights List)
    else if is_word_for word Create then Some (with_right no_rights Create)
    else if is_word_for word Delete then Some (with_right no_rights Delete)
    else if bytes_eq word (codes "*") || bytes_eq word (codes "all") then Some all_rights
    else None

-- the rights that a word stands for, its case ignored; none where it is no right
unfoldable pub rights_of : std.List ℕ → Option Rights
rights_of word = rights_of_lower (str_to_ascii_lowercase word)
