-- The reply to Glob: the rows of the items that match a pattern (Upspin overview; which rights are tested is this project's
-- own).
--
-- A pattern has k elements, counted from 1. The first m of them are those before the first that is not literal; m is k where
-- all are literal. An item on the way has j elements.
use Rattle.std.specs.Prelude.{ℕ, suc, ◌-◌, ◌==◌, Bool, true, false, not, ◌&&◌, ◌||◌, nat_lt, if◌then◌else◌, List, [], ◌∷◌, length, take}
use Rattle.std.specs.Prelude.{Option, Some, None, is_some, unwrap_or}
use Rattle.std.specs.Map.{values_of}
use Rattle.std.specs.Str.{bytes_eq, chars}
use Rattle.up_names.specs.PathNames.{PathName, cut}
use Rattle.up_rights.specs.declared.Right.TheVariants as right
use Rattle.up_entry.specs.declared.entries.Entry.{Entry}
use Rattle.up_pattern.specs.declared.terms.Term.{Term}
use Rattle.up_pattern.specs.Elements.{literal_of}
use Rattle.up_pattern.specs.Matching.{matches}
use Rattle.up_pattern.specs.Patterns.{PatternName}
use Rattle.up_wire.specs.declared.replies.Row.{Row}
use Rattle.up_wire.specs.declared.replies.Reply.{Reply}
use Rattle.up_wire.specs.declared.replies.Reply.TheVariants.{Ok, NotExist, NotDir}
use Rattle.up_wire.specs.declared.replies.Done.TheVariants as done
use Rattle.up_log_tree.specs.declared.node.Node.{Node}
use Rattle.up_log_tree.specs.Trees.{kind_of, is_file, is_link, made_of}
use Rattle.up_list.specs.Entries.{entry_at}
use Rattle.up_list.specs.Looks.{Look, rights, has_some, shown}
use Rattle.up_list.specs.Checks.{check, ways}

-- no `*`, no `?` and no class is in an element
abbrev pub is_literal : List Term → Bool
is_literal terms = is_some (literal_of terms)

-- the texts of the first m elements
abbrev pub literals : List (List Term) → List (List ℕ)
literals [] = []
literals (terms ∷ rest) = elim (literal_of terms) [ None ↦ [] | Some text ↦ text ∷ literals rest ]

-- the path of the first m elements
unfoldable pub literal_path : PatternName → PathName
literal_path pattern = record { owner = pattern.owner; elements = literals pattern.elements }

-- whether all elements are literal
unfoldable pub is_whole : PatternName → Bool
is_whole pattern = length (literals pattern.elements) == length pattern.elements

-- an element of a path matches one of a pattern: by its text alone where that is literal, else as Go's path.Match has it
abbrev pub matches_name : List Term → List ℕ → Bool
matches_name terms name = elim (literal_of terms) [ Some text ↦ bytes_eq name text | None ↦ matches terms (chars name) ]

-- the elements of a path match the first elements of a pattern, one by one
unfoldable pub matches_front : List (List Term) → List (List ℕ) → Bool
matches_front patterns [] = true
matches_front [] (element ∷ elements) = false
matches_front (terms ∷ patterns) (element ∷ elements) = matches_name terms element && matches_front patterns elements

-- For each of these elements of a pattern that is not literal, list holds on the prefix of the path before it. Before the first
-- of them stand n elements.
unfoldable pub is_listed : Look → PathName → ℕ → List (List Term) → Bool
is_listed look path n [] = true
is_listed look path n (terms ∷ rest) = (is_literal terms || (rights look (cut n path)).list) && is_listed look path (suc n) rest

-- the last of some elements is literal
abbrev pub ends_literal : List (List Term) → Bool
ends_literal [] = true
ends_literal (terms ∷ []) = is_literal terms
ends_literal (terms ∷ more ∷ rest) = ends_literal (more ∷ rest)

-- a path of more than m elements that match the first elements of the pattern
unfoldable pub is_candidate : PatternName → PathName → Bool
is_candidate pattern path =
    nat_lt (length (literals pattern.elements)) (length path.elements) && matches_front pattern.elements path.elements

-- A path that may be shown: it is a candidate; for each of its elements that matches one that is not literal, list holds on the
-- prefix before it; and where its last element matches a literal one, any right holds on it.
unfoldable pub is_met : Look → PatternName → PathName → Bool
is_met look pattern path =
    let passed = take (length path.elements) pattern.elements in
    is_candidate pattern path && (is_listed look path 0 passed && (not (ends_literal passed) || has_some look path))

-- The row of an item that may be shown: of one that has as many elements as the pattern, or of a link, with the number of the
-- pattern's elements that remain.
unfoldable pub row_of : Look → PatternName → PathName → Node → Option Row
row_of look pattern path node =
    let j = length path.elements in
    let k = length pattern.elements in
    if is_met look pattern path && (j == k || is_link (kind_of node))
    then Some (record { entry = shown look node.entry; rest = k - j }) else None

-- the rows, in order of paths
abbrev pub rows : Look → PatternName → List Row
rows look pattern = values_of (made_of (row_of look pattern) look.tree)

-- the one row of a pattern that is all literal
abbrev pub one_row : Look → Option Entry → Reply
one_row look None = NotExist
one_row look (Some entry) = Ok (done.Rows (record { entry = shown look entry; rest = 0 } ∷ []))

-- the reply to one: as to Lookup of its path
unfoldable pub whole_reply : Look → PathName → Reply
whole_reply look path = unwrap_or (check look (ways path) path None) (one_row look (entry_at look.tree path))

-- the rows of any other
abbrev pub rows_reply : Look → PatternName → Option Entry → Reply
rows_reply look pattern None = NotExist
rows_reply look pattern (Some entry) = if is_file entry.attr.kind then NotDir else Ok (done.Rows (rows look pattern))

-- the refusal of it by what stands at the path of its literal elements in front
abbrev pub kind_refusal : Option Entry → Option Reply
kind_refusal None = Some NotExist
kind_refusal (Some entry) = if is_file entry.attr.kind then Some NotDir else None

-- Glob: where all elements are literal, as Lookup of that path, with one row. Otherwise list on the path of the literal
-- elements in front; then NotExist where nothing is there, NotDir where a file is, else the rows.
unfoldable pub glob_reply : Look → PatternName → Reply
glob_reply look pattern =
    let path = literal_path pattern in
    if is_whole pattern then whole_reply look path
    else unwrap_or (check look (ways path) path (Some right.List)) (rows_reply look pattern (entry_at look.tree path))
