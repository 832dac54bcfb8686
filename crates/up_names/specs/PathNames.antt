-- Path names: an owner and a list of elements (Upspin overview). The limits, the allowed bytes and the rule for `..`
-- at the root are this project's own.
use Rattle.std.specs.Prelude.{◌≡◌, ℕ, Bool, ◌+◌, ◌-◌, ◌==◌, ◌&&◌, ◌||◌, not, nat_lt, nat_le, if◌then◌else◌}
use Rattle.std.specs.Prelude.{List, [], ◌∷◌, ◌++◌, length, take, map, filter, count_by, codes, Option, Some, None, Result, Ok, Err}
use Rattle.std.specs.List.{list_all, list_any, before_first, after_first, slice_split, starts_with, ends_with, join_with_byte}
use Rattle.std.specs.Str.{byte, bytes_eq, is_utf8}
use Rattle.up_names.specs.Texts.{Text, UserName}
use Rattle.up_names.specs.declared.fault.NameFault.{NameFault}
use Rattle.up_names.specs.declared.fault.NameFault.TheVariants.{TooLong, Element}
use Rattle.up_names.specs.declared.paths.Control.{Control}
use Rattle.up_names.specs.declared.paths.Control.TheVariants.{Ordinary, Access, Group}
use Rattle.up_names.specs.UserNames.{user_of}

-- a canonical path: its owner's canonical name, and its elements
pub record PathName : Type 0 where
  pub owner : UserName
  pub elements : List Text

-- the byte `/`
abbrev pub is_slash : ℕ → Bool
is_slash b = b == byte "/"

-- dropped when a path is cleaned: nothing between two slashes, and `.`
abbrev pub is_skipped : Text → Bool
is_skipped piece = bytes_eq piece [] || bytes_eq piece (codes ".")

-- drops the element before it
abbrev pub is_up : Text → Bool
is_up piece = bytes_eq piece (codes "..")

-- no byte below 0x20, 0x7F or slash
abbrev pub is_allowed_byte : ℕ → Bool
is_allowed_byte b = nat_le 32 b && not (b == 127) && not (is_slash b)

-- what may stand between two slashes: UTF-8 without bytes below 0x20 and without 0x7F
unfoldable pub is_element : Text → Bool
is_element piece = is_utf8 piece && list_all is_allowed_byte piece

-- what may be an element of a path: neither skipped nor `..`
abbrev pub is_name : Text → Bool
is_name piece = is_element piece && not (is_skipped piece) && not (is_up piece)

-- the runs of pieces that begin with the first piece
abbrev pub runs : {X : Type 0} → List X → List (List X)
runs [] = []
runs (piece ∷ rest) = (piece ∷ []) ∷ map (λ run. piece ∷ run) (runs rest)

-- no run that begins with the first piece has more `..` than names
abbrev pub has_no_surplus : {X : Type 0} → (X → Bool) → List X → Bool
has_no_surplus up pieces = list_all (λ run. nat_le (count_by up run) (count_by (λ piece. not (up piece)) run)) (runs pieces)

-- The names that stay: a name stays exactly where no run of pieces that begins directly after it has more `..` than names.
abbrev pub staying : {X : Type 0} → (X → Bool) → List X → List X
staying up [] = []
staying up (piece ∷ rest) = if not (up piece) && has_no_surplus up rest then piece ∷ staying up rest else staying up rest

-- the elements that the pieces between slashes stand for
unfoldable pub cleaned : List Text → List Text
cleaned pieces = staying is_up (filter (λ piece. not (is_skipped piece)) pieces)

-- the pieces after the owner: none, or those between the slashes
unfoldable pub pieces_of : Text → List Text
pieces_of text = if list_any is_slash text then slice_split is_slash (after_first is_slash text) else []

-- the place of the first piece that is no element, the pieces beginning at `place` with a slash after each
abbrev pub first_bad : ℕ → List Text → Option ℕ
first_bad place [] = None
first_bad place (piece ∷ rest) = if is_element piece then first_bad (place + length piece + 1) rest else Some place

-- the path of an owner and the pieces after it, which begin at `place`
abbrev pub path_from : ℕ → List Text → Result UserName NameFault → Result PathName NameFault
path_from place pieces (Err fault) = Err fault
path_from place pieces (Ok owner) = elim (first_bad place pieces) [
  | None ↦ Ok (record { owner = owner; elements = cleaned pieces })
  | Some bad ↦ Err (Element bad)
]

-- the canonical path that a text names, or the first fault that fits: over 4,096 bytes (how many), the owner's faults,
-- then the place of the first byte of the first piece that is no element, also where a later `..` drops it
unfoldable pub path_of : Text → Result PathName NameFault
path_of text =
    let owner = before_first is_slash text in
    if nat_lt 4096 (length text) then Err (TooLong (length text))
    else path_from (length owner + 1) (pieces_of text) (user_of owner)

-- the canonical text: the owner, `/`, and the elements joined by `/`; so a root ends with `/`
abbrev pub canonical : PathName → Text
canonical path = path.owner ++ byte "/" ∷ join_with_byte (byte "/") path.elements

-- a path whose canonical text parses to it
abbrev pub IsCanonical : PathName → Type 0
IsCanonical path = path_of (canonical path) ≡ Ok path

-- under q where the owners are the same and q's elements are a prefix; a path is under itself
abbrev pub is_under : PathName → PathName → Bool
is_under path q = bytes_eq path.owner q.owner && starts_with bytes_eq path.elements q.elements

-- the path of its first n elements
abbrev pub cut : ℕ → PathName → PathName
cut n path = record { owner = path.owner; elements = take n path.elements }

-- the path without its last element; a root has no parent
abbrev pub parent_of : PathName → Option PathName
parent_of path = if nat_lt 0 (length path.elements) then Some (cut (length path.elements - 1) path) else None

-- the path with the element at its end
abbrev pub extended : PathName → Text → PathName
extended path element = record { owner = path.owner; elements = path.elements ++ element ∷ [] }

-- The path with the element at its end: Element(0) where it is no name, then TooLong with the length that the canonical
-- text would have.
unfoldable pub joined : PathName → Text → Result PathName NameFault
joined path element =
    let text = canonical (extended path element) in
    if not (is_name element) then Err (Element 0)
    else if nat_lt 4096 (length text) then Err (TooLong (length text))
    else Ok (extended path element)

-- whether the last element of a path is `Access`
abbrev pub ends_in_access : PathName → Bool
ends_in_access path = ends_with bytes_eq path.elements (codes "Access" ∷ [])

-- at least two elements, the first of which is `Group`
abbrev pub is_in_group : PathName → Bool
is_in_group path = nat_le 2 (length path.elements) && starts_with bytes_eq path.elements (codes "Group" ∷ [])

-- An Access path's last element is `Access`. Otherwise a Group path has at least two elements, the first `Group`
-- (Upspin access control document).
abbrev pub control_of : PathName → Control
control_of path = if ends_in_access path then Access else if is_in_group path then Group else Ordinary
