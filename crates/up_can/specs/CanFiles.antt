-- The Access and Group files that a `can` script has named so far (this project's own), and what they say of rights.
use Rattle.std.specs.Prelude.{Bool, List, [], if◌then◌else◌}
use Rattle.std.specs.Map.{keys_of}
use Rattle.std.specs.Str.{bytes_eq}
use Rattle.up_names.specs.Texts.{UserName}
use Rattle.indexmap.specs.IndexMap.{insert_entry}
use Rattle.up_access.specs.declared.Rule.{Rule}
use Rattle.up_names.specs.declared.items.Item.{Item}
use Rattle.up_names.specs.PathNames.{PathName}
use Rattle.up_names.specs.PathOrder.{path_eq}
use Rattle.up_rights.specs.declared.Right.{Right}
use Rattle.up_policy.specs.declared.load_answer.LoadAnswer.TheVariants.{Text}
use Rattle.up_policy.specs.Files.{Files, facts_of}
use Rattle.up_policy.specs.Verdicts.{right_test}
use Rattle.up_can.specs.declared.can_files.CanFiles.{CanFiles}

-- a tree of this owner, without any of these files
abbrev pub bare_tree : UserName → CanFiles
bare_tree owner = record { tree = record { owner = owner; access = []; groups = [] }; loaded = [] }

-- the files, with the Access text of a directory, which takes the place of the one before
abbrev pub with_access : Files → PathName → List Rule → Files
with_access files dir rules = record files { access = insert_entry path_eq files.access dir rules }

-- the files, with the Group text at a path of the owner, which takes the place of the one before
abbrev pub with_group : Files → PathName → List Item → Files
with_group files path items = record files { groups = insert_entry path_eq files.groups path items }

-- the files, with the text of a group of any owner: another owner's is a loaded text
abbrev pub with_text : CanFiles → PathName → List Item → CanFiles
with_text files path items =
    if bytes_eq path.owner files.tree.owner then record files { tree = with_group files.tree path items }
    else record files { loaded = insert_entry path_eq files.loaded path (Text items) }

-- whether a user has a right on a path, by the files that were named so far
abbrev pub verdict : CanFiles → UserName → Right → PathName → Bool
verdict files user right path = right_test (facts_of files.tree) (keys_of files.tree.groups) files.loaded user right path
