-- What a report keeps of the texts that it has searched, and how it goes over the paths of a tree. (That it holds is proved; nothing
-- outside rests on these definitions.)
use Rattle.std.specs.Prelude.{◌≡◌, ◌||◌, Bool, true, if◌then◌else◌, T, List, [], ◌++◌, map, Option, Some, is_some, unwrap_or}
use Rattle.std.specs.FinMap.Entries.{find, is_sorted}
use Rattle.std.specs.List.{list_any}
use Rattle.std.specs.Ordering.{eq_by_cmp}
use Rattle.up_names.specs.Texts.{Text, UserName}
use Rattle.up_names.specs.PathNames.{PathName}
use Rattle.up_names.specs.PathOrder.{path_cmp}
use Rattle.up_access.specs.declared.Rule.{Rule}
use Rattle.up_text.specs.Words.{coded}
use Rattle.up_log_tree.specs.Rights.{facts_of, group_paths}
use Rattle.up_log_tree.specs.Trees.{Tree}
use Rattle.up_share.specs.Orders.{Keys}
use Rattle.up_share.specs.Readers.{lacking, readers_by}
use Rattle.up_share.specs.Report.{file_line, is_file_at, items_text, readers_at, unread_at}
use Rattle.up_share.specs.declared.known.Known.{Known}

-- all paths of a tree, in order
abbrev pub paths_in : Tree → Keys PathName
paths_in tree = map (λ item. (item.0, tt)) tree

-- the rules of the text in a directory
abbrev pub rules_in : UserName → Tree → PathName → List Rule
rules_in owner tree dir = unwrap_or ((facts_of owner tree).access dir) []

-- the word of those who read by these rules
abbrev pub word_by : UserName → Tree → List Rule → Text
word_by owner tree rules = coded (items_text (readers_by (facts_of owner tree) (group_paths tree) [] rules))

-- the groups that are unread on the way to those who read by these rules
abbrev pub lacking_by : UserName → Tree → List Rule → List PathName
lacking_by owner tree rules = lacking (facts_of owner tree) (group_paths tree) [] rules

-- a path is among these keys
abbrev pub is_key : Keys PathName → PathName → Bool
is_key keys path = is_some (find path_cmp path keys)

-- a path is in this list
abbrev pub is_listed : List PathName → PathName → Bool
is_listed paths path = list_any (eq_by_cmp path_cmp path) paths

-- Of each text that was searched the word is kept, and the groups that are unread by it are among those that are unread.
pub record AreKnown (owner : UserName) (tree : Tree) (known : Known) : Type 0 where
  pub nothing : known.loaded ≡ []
  pub words : (dir : PathName) (word : Text) → find path_cmp dir known.words.entries ≡ Some word
      → word ≡ word_by owner tree (rules_in owner tree dir)
  pub searched : (dir : PathName) (word : Text) → find path_cmp dir known.words.entries ≡ Some word → (q : PathName)
      → is_listed (lacking_by owner tree (rules_in owner tree dir)) q ≡ true → is_key known.unread.entries q ≡ true
  pub sorted : T (is_sorted path_cmp known.unread.entries)

-- the groups that are unread by these rules were added to those that are unread
pub record HasSearched (owner : UserName) (tree : Tree) (rules : List Rule) (old new : Known) : Type 0 where
  pub knows : AreKnown owner tree new
  pub lacks : (q : PathName) → is_key new.unread.entries q ≡ (is_key old.unread.entries q || is_listed (lacking_by owner tree rules) q)

-- what is printed of what stands at a path: a line where it is a file, and else nothing
abbrev pub line_of : UserName → Tree → PathName → Text
line_of owner tree path = if is_file_at tree path then file_line path (readers_at owner tree path) else []

-- the groups that are unread for what stands at a path: none where it is no file
abbrev pub unread_of : UserName → Tree → PathName → List PathName
unread_of owner tree path = if is_file_at tree path then unread_at owner tree path else []

-- What stands at a path was told: its line was added, and the groups that are unread for it.
pub record HasTold (owner : UserName) (tree : Tree) (path : PathName) (old new : Known) (text now : Text) : Type 0 where
  pub knows : AreKnown owner tree new
  pub lacks : (q : PathName) → is_key new.unread.entries q ≡ (is_key old.unread.entries q || is_listed (unread_of owner tree path) q)
  pub line : now ≡ text ++ line_of owner tree path
