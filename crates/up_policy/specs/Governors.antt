-- Which Access file governs a path: the one in the longest prefix that has one (Upspin access control document). That
-- none governs a path of a snapshot tree is this project's own.
use Rattle.std.specs.Prelude.{◌≡◌, ℕ, zero, suc, ◌<◌, ◌≤◌, MatchBool, if◌then◌else◌, List, [], ◌∷◌, length, Option, Some, None}
use Rattle.std.specs.Option.{option_or}
use Rattle.up_names.specs.PathNames.{PathName, cut}
use Rattle.up_access.specs.declared.Rule.{Rule}
use Rattle.up_policy.specs.Trees.{AccessTexts, TreeFacts, owns_snapshots}

-- The text is that of the longest prefix of the path, the path itself included, that has one; there is none exactly
-- where no prefix has one.
abbrev pub Governs : AccessTexts → PathName → Option (List Rule) → Type 0
Governs access path None = (n : ℕ) → n ≤ length path.elements → access (cut n path) ≡ None
Governs access path (Some text) = (n : ℕ) × (n ≤ length path.elements) × (access (cut n path) ≡ Some text)
    × ((m : ℕ) → n < m → m ≤ length path.elements → access (cut m path) ≡ None)

-- the text governs the path in the tree; none governs a path of a snapshot tree
abbrev pub IsGovernor : TreeFacts → PathName → Option (List Rule) → Type 0
IsGovernor tree path text = MatchBool (owns_snapshots tree.owner) (text ≡ None) (Governs tree.access path text)

-- the prefixes with n elements and fewer, the longest first
abbrev pub prefixes_to : ℕ → PathName → List PathName
prefixes_to zero path = cut 0 path ∷ []
prefixes_to (suc n) path = cut (suc n) path ∷ prefixes_to n path

-- the path and its prefixes, the longest first
abbrev pub prefixes : PathName → List PathName
prefixes path = prefixes_to (length path.elements) path

-- the text of the first of these directories that has one
abbrev pub first_text : AccessTexts → List PathName → Option (List Rule)
first_text access [] = None
first_text access (dir ∷ dirs) = option_or (access dir) (first_text access dirs)

-- the text that governs the path, as a value
unfoldable pub governor : TreeFacts → PathName → Option (List Rule)
governor tree path = if owns_snapshots tree.owner then None else first_text tree.access (prefixes path)
