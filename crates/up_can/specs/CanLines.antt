-- What each line of a `can` script says. The script language is this project's own; the questions are those of the
-- Upspin access control document.
use Rattle.std.specs.Prelude.{◌-◌, Bool, true, false, List, [], ◌∷◌, ◌&&◌, length, codes, if◌then◌else◌, Option, Some, None, option_map}
use Rattle.std.specs.Result.{result_ok}
use Rattle.std.specs.Str.{bytes_eq}
use Rattle.up_names.specs.Texts.{Text, UserName}
use Rattle.up_access.specs.AccessTexts.{access_of}
use Rattle.up_group.specs.GroupTexts.{group_of}
use Rattle.up_names.specs.declared.paths.Control.TheVariants as control
use Rattle.up_names.specs.PathNames.{PathName, path_of, control_of, cut}
use Rattle.up_rights.specs.declared.Right.{Right}
use Rattle.up_rights.specs.Words.{right_named}
use Rattle.up_text.specs.Lines.{is_silent, line_words}
use Rattle.up_text.specs.Words.{decoded}
use Rattle.up_command.specs.Words.{◌>>=◌, user_named}
use Rattle.up_can.specs.CanFiles.{bare_tree, with_access, with_text, verdict}
use Rattle.up_policy.specs.Files.{Files}
use Rattle.up_can.specs.declared.can_files.CanFiles.{CanFiles}
use Rattle.up_can.specs.declared.can_lines.CanKind.{CanKind}
use Rattle.up_can.specs.declared.can_lines.CanKind.TheVariants as kinds

-- the tree that a script asks about, by the lines so far: none before its `tree` line, then the files of the tree
abbrev pub Tree : Type 0
Tree = Option CanFiles

-- what a line does: the tree after it, and the text that it prints
pub record Effect : Type 0 where
  pub tree : Tree
  pub reply : Text

-- the text that a line prints; none where it is malformed
abbrev pub reply_of : Option Effect → Option Text
reply_of effect = option_map (λ e. e.reply) effect

-- the tree after a line; a malformed one changes nothing
abbrev pub tree_after : Tree → Option Effect → Tree
tree_after tree None = tree
tree_after tree (Some effect) = effect.tree

-- a line that names files prints nothing; none where it is malformed
abbrev pub named : Option CanFiles → Option Effect
named files = option_map (λ f. record { tree = Some f; reply = [] }) files

-- a line that asks leaves the files as they are; none where it is malformed
abbrev pub asked : CanFiles → Option Text → Option Effect
asked files reply = option_map (λ text. record { tree = Some files; reply = text }) reply

-- the path that a word names
unfoldable pub path_named : Text → Option PathName
path_named word = do
  text ← decoded word
  result_ok (path_of text)

-- the line that answers a question
abbrev pub verdict_line : Bool → Text
verdict_line answer = if answer then codes "yes\n" else codes "no\n"

-- `tree USER`: exactly once, before every other line that says something
unfoldable pub tree_line : List Text → Option CanFiles
tree_line (word ∷ []) = option_map bare_tree (user_named word)
tree_line [] = None
tree_line (word ∷ other ∷ more) = None

-- whether a path is an Access path
abbrev pub is_access : PathName → Bool
is_access path = elim (control_of path) [ control.Ordinary ↦ false | control.Access ↦ true | control.Group ↦ false ]

-- the directory that an Access path of the owner is for: its elements but the last
unfoldable pub access_dir : Files → PathName → Option PathName
access_dir files path =
    if bytes_eq path.owner files.owner && is_access path then Some (cut (length path.elements - 1) path) else None

-- the files, with the Access text of a directory that a word stands for
abbrev pub access_set : CanFiles → PathName → Text → Option CanFiles
access_set files dir text_word = do
  text ← decoded text_word
  rules ← result_ok (access_of files.tree.owner text)
  Some (record files { tree = with_access files.tree dir rules })

-- `access PATH TEXT`: the text of the Access file at a path of the owner
unfoldable pub access_line : CanFiles → List Text → Option CanFiles
access_line files (path_word ∷ text_word ∷ []) = do
  path ← path_named path_word
  dir ← access_dir files.tree path
  text ← decoded text_word
  rules ← result_ok (access_of files.tree.owner text)
  Some (record files { tree = with_access files.tree dir rules })
access_line files [] = None
access_line files (a ∷ []) = None
access_line files (a ∷ b ∷ c ∷ more) = None

-- whether a path is a Group path
abbrev pub is_group : PathName → Bool
is_group path = elim (control_of path) [ control.Ordinary ↦ false | control.Access ↦ false | control.Group ↦ true ]

-- the files, with the text that a word stands for at a Group path of any owner, whose short names are that owner's
abbrev pub group_set : CanFiles → PathName → Text → Option CanFiles
group_set files path text_word = do
  text ← decoded text_word
  items ← result_ok (group_of path.owner text)
  if is_group path then Some (with_text files path items) else None

-- `group PATH TEXT`: the text of the Group file at a path of any owner, whose short names are that owner's
unfoldable pub group_line : CanFiles → List Text → Option CanFiles
group_line files (path_word ∷ text_word ∷ []) = do
  path ← path_named path_word
  text ← decoded text_word
  items ← result_ok (group_of path.owner text)
  if is_group path then Some (with_text files path items) else None
group_line files [] = None
group_line files (a ∷ []) = None
group_line files (a ∷ b ∷ c ∷ more) = None

-- the line that answers a question about a path of the tree's owner; one about another path is malformed
abbrev pub answer_to : CanFiles → UserName → Right → PathName → Option Text
answer_to files user right path = if bytes_eq path.owner files.tree.owner then Some (verdict_line (verdict files user right path)) else None

-- `can USER RIGHT PATH`: whether the user has the right on the path, which is of the tree's owner
unfoldable pub can_line : CanFiles → List Text → Option Text
can_line files (user_word ∷ right_word ∷ path_word ∷ []) = do
  user ← user_named user_word
  right ← right_named right_word
  path ← path_named path_word
  answer_to files user right path
can_line files [] = None
can_line files (a ∷ []) = None
can_line files (a ∷ b ∷ []) = None
can_line files (a ∷ b ∷ c ∷ d ∷ more) = None

-- the kind of line that a keyword begins
unfoldable pub kind_of : Text → Option CanKind
kind_of word =
    if bytes_eq word (codes "can") then Some kinds.Can
    else if bytes_eq word (codes "access") then Some kinds.Access
    else if bytes_eq word (codes "group") then Some kinds.Group
    else if bytes_eq word (codes "tree") then Some kinds.Tree
    else None

-- what a line of a kind does once the tree is named
unfoldable pub files_effect : CanKind → CanFiles → List Text → Option Effect
files_effect kinds.Tree files arguments = None
files_effect kinds.Access files arguments = named (access_line files arguments)
files_effect kinds.Group files arguments = named (group_line files arguments)
files_effect kinds.Can files arguments = asked files (can_line files arguments)

-- what a line of a kind does before the tree is named
unfoldable pub first_effect : CanKind → List Text → Option Effect
first_effect kinds.Tree arguments = named (tree_line arguments)
first_effect kinds.Access arguments = None
first_effect kinds.Group arguments = None
first_effect kinds.Can arguments = None

-- what a line of a kind does with the words behind its keyword
abbrev pub kind_effect : CanKind → Tree → List Text → Option Effect
kind_effect kind None arguments = first_effect kind arguments
kind_effect kind (Some files) arguments = files_effect kind files arguments

-- what words do, the first of which is the keyword
unfoldable pub words_effect : Tree → List Text → Option Effect
words_effect tree [] = None
words_effect tree (keyword ∷ arguments) = do
  kind ← kind_of keyword
  kind_effect kind tree arguments

-- what a line does, or none where it is malformed; an empty line and a comment say nothing
unfoldable pub effect_of : Tree → Text → Option Effect
effect_of tree line = if is_silent line then Some (record { tree = tree; reply = [] }) else words_effect tree (line_words line)
