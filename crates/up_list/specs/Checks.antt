-- What each request on a tree is tested for first: links, and then rights (this project's own order and answers).
use Rattle.std.specs.Prelude.{◌≡◌, ℕ, zero, suc, Bool, true, false, not, if◌then◌else◌, List, [], ◌∷◌, ◌++◌, length, Option, Some, None}
use Rattle.std.specs.Prelude.{Result, Ok, Err}
use Rattle.std.specs.Option.{option_or, option_and_then}
use Rattle.up_names.specs.PathNames.{PathName, cut, parent_of}
use Rattle.up_rights.specs.declared.Right.{Right}
use Rattle.up_rights.specs.RightSets.{Rights, has_right, has_any}
use Rattle.up_entry.specs.declared.entries.Entry.{Entry}
use Rattle.up_wire.specs.declared.replies.Reply.{Reply}
use Rattle.up_wire.specs.declared.replies.Reply.TheVariants.{FollowLink, Private, Permission}
use Rattle.up_log_tree.specs.Trees.{Tree}
use Rattle.up_list.specs.Entries.{entry_at, if_link}
use Rattle.up_list.specs.Looks.{Look, rights, has_some, shown}

-- the prefixes with n elements and fewer, the shortest first
abbrev pub ways_to : ℕ → PathName → List PathName
ways_to zero path = cut 0 path ∷ []
ways_to (suc n) path = ways_to n path ++ cut (suc n) path ∷ []

-- the prefixes of a path and the path itself, the shortest first
unfoldable pub ways : PathName → List PathName
ways path = ways_to (length path.elements) path

-- the proper prefixes of a path, the shortest first
unfoldable pub ways_before : PathName → List PathName
ways_before path = elim (parent_of path) [ None ↦ [] | Some parent ↦ ways parent ]

-- the paths that are tested for links: the prefixes of a path, with or without the path itself
abbrev pub tested : Bool → PathName → List PathName
tested true path = ways path
tested false path = ways_before path

-- the link that stands at a path
abbrev pub link_at : Tree → PathName → Option Entry
link_at tree path = option_and_then if_link (entry_at tree path)

-- the link at the first of these paths at which one stands
abbrev pub first_link : Tree → List PathName → Option Entry
first_link tree [] = None
first_link tree (path ∷ paths) = option_or (link_at tree path) (first_link tree paths)

-- a refusal, or the rights on the path where all is passed
abbrev pub IsChecked : Option Reply → Rights → Result Rights Reply → Type 0
IsChecked refusal held (Ok found) = (refusal ≡ None) × (found ≡ held)
IsChecked refusal held (Err reply) = refusal ≡ Some reply

-- the reply at a link that is met: the link as it is shown, to a user with any right on it
abbrev pub at_link : Look → Entry → Reply
at_link look link = if has_some look link.name then FollowLink (shown look link) else Private

-- the refusal for want of a right, where None stands for any right
unfoldable pub lacking : Rights → Option Right → Option Reply
lacking held None = if has_any held then None else Some Private
lacking held (Some right) =
    if not (has_any held) then Some Private
    else if not (has_right held right) then Some (Permission right)
    else None

-- The first of these that fits. A link stands at one of the tested paths, the first such: FollowLink where the user has
-- any right on it, else Private. The user has no right on the path: Private. The user lacks the right that is needed:
-- Permission of it. None where all is passed.
unfoldable pub check : Look → List PathName → PathName → Option Right → Option Reply
check look tested path needed = elim (first_link look.tree tested) [
  | Some link ↦ Some (at_link look link)
  | None ↦ lacking (rights look path) needed
]
