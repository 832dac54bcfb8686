-- How Access texts are kept: by the canonical texts of their directories, in order of first mention (this project's own).
use Rattle.std.specs.Prelude.{◌≡◌, Bool, true, List, map, Option}
use Rattle.std.specs.Global.{Global}
use Rattle.std.specs.List.{list_all}
use Rattle.std.specs.Map.{lookup}
use Rattle.std.specs.Str.{bytes_eq}
use Rattle.std.specs.String.{string_bytes}
use Rattle.std.specs.declared.string.String.{String}
use Rattle.up_names.specs.PathNames.{PathName, canonical}
use Rattle.up_names.specs.PathOrder.{path_eq}
use Rattle.up_names.specs.PathParts.{path_in}
use Rattle.up_access.specs.declared.Rule.{Rule}
use Rattle.up_policy.specs.declared.marks.Marks.{Marks}
use Rattle.up_policy.specs.Marks.{may_have}

-- the directories that have an Access text, each with its rules
abbrev pub AccessList : Type 0
AccessList = List (PathName × List Rule)

-- the rules of a directory, where it has a text
abbrev pub text_at : AccessList → PathName → Option (List Rule)
text_at texts dir = lookup (path_eq dir) texts

-- the texts by the paths whose canonical texts they are kept by
abbrev pub by_path : List (String Global × List Rule) → AccessList
by_path texts = map (λ (kept : String Global × List Rule). (path_in (string_bytes kept.0), kept.1)) texts

-- a text is kept by a canonical text
abbrev pub is_canonical : String Global × List Rule → Bool
is_canonical kept = bytes_eq (string_bytes kept.0) (canonical (path_in (string_bytes kept.0)))

-- each is
abbrev pub are_canonical : List (String Global × List Rule) → Bool
are_canonical texts = list_all is_canonical texts

-- the directory that has a text passes the marks
abbrev pub passes : Marks → String Global × List Rule → Bool
passes marks kept = may_have marks (path_in (string_bytes kept.0))

-- each does
abbrev pub all_pass : Marks → List (String Global × List Rule) → Bool
all_pass marks texts = list_all (passes marks) texts

-- the texts are kept by canonical texts, and their directories pass the marks
pub record AreKept (marks : Marks) (texts : List (String Global × List Rule)) : Type 0 where
  pub canonical : are_canonical texts ≡ true
  pub pass : all_pass marks texts ≡ true
