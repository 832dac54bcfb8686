-- How a path is kept: its owner, its canonical text, and the places where its elements end (this project's own).
use Rattle.std.specs.Prelude.{◌≡◌, ℕ, zero, suc, ◌+◌, ◌-◌, if◌then◌else◌, List, [], ◌∷◌, length}
use Rattle.std.specs.List.{after_first, before_first, slice_split}
use Rattle.up_names.specs.Texts.{Text, UserName}
use Rattle.up_names.specs.PathNames.{PathName, is_slash, IsCanonical, is_skipped, is_up, canonical, cut, extended}

-- what stands between the slashes after the owner; nothing stands there at a root
abbrev pub elements_behind : Text → List Text
elements_behind [] = []
elements_behind (b ∷ rest) = slice_split is_slash (b ∷ rest)

-- the path of an owner and a canonical text
abbrev pub read_off : UserName → Text → PathName
read_off owner text = record { owner = owner; elements = elements_behind (after_first is_slash text) }

-- the path whose canonical text this is
abbrev pub path_in : Text → PathName
path_in text = read_off (before_first is_slash text) text

-- the places where the elements of a text end, the first of which begins at `place`
abbrev pub ends_from : ℕ → List Text → List ℕ
ends_from place [] = []
ends_from place (element ∷ elements) = (place + length element) ∷ ends_from (place + length element + 1) elements

-- where the i-th element, from 0, begins in the canonical text: the first after the text of the root, another after
-- the text of those before it and a slash
abbrev pub begin_of : ℕ → PathName → ℕ
begin_of zero path = length (canonical (cut 0 path))
begin_of (suc n) path = length (canonical (cut (suc n) path)) + 1

-- the path after one more piece of its text
abbrev pub after_piece : PathName → Text → PathName
after_piece path piece =
    if is_skipped piece then path
    else if is_up piece then cut (length path.elements - 1) path
    else extended path piece

-- the text and the ends are those of the path that is read off
pub record IsKept (owner : UserName) (text : Text) (ends : List ℕ) : Type 0 where
  pub parses : IsCanonical (read_off owner text)
  pub written : text ≡ canonical (read_off owner text)
  pub ended : ends ≡ ends_from (length owner + 1) (read_off owner text).elements
