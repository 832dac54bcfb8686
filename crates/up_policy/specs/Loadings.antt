-- What was loaded of the groups of other owners, in one call (this project's own).
use Rattle.std.specs.Prelude.{List, Option, Some, None}
use Rattle.std.specs.Option.{option_and_then}
use Rattle.std.specs.Map.{lookup}
use Rattle.up_names.specs.declared.items.Item.{Item}
use Rattle.up_names.specs.PathNames.{PathName}
use Rattle.up_names.specs.PathOrder.{path_eq}
use Rattle.up_policy.specs.declared.load_answer.LoadAnswer.{LoadAnswer}
use Rattle.up_policy.specs.declared.load_answer.LoadAnswer.TheVariants.{Text, Missing, BadText, Failed}

-- the items of an answer that is a text; no other answer has any
abbrev pub text_in : LoadAnswer → Option (List Item)
text_in (Text items) = Some items
text_in Missing = None
text_in (BadText line) = None
text_in Failed = None

-- a loading: names of groups, each with the answer of its load
abbrev pub Loading : Type 0
Loading = List (PathName × LoadAnswer)

-- the answer of a loading for a name
abbrev pub answer_for : Loading → PathName → Option LoadAnswer
answer_for loaded name = lookup (path_eq name) loaded

-- the text that a loading has for a group
abbrev pub loaded_text : Loading → PathName → Option (List Item)
loaded_text loaded group = option_and_then text_in (answer_for loaded group)
