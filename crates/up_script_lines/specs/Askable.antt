-- What is known of the words of a line that asks something. This project's own.
use Rattle.std.specs.Prelude.{◌≡◌, true, List, is_some}
use Rattle.up_names.specs.Texts.{Text, UserName}
use Rattle.up_text.specs.Requests.{request_of}
use Rattle.up_script_lines.specs.declared.script_lines.ScriptLine.{ScriptLine}
use Rattle.up_script_lines.specs.declared.script_lines.ScriptLine.TheVariants as lines

-- words ask something, whoever signed on
abbrev pub AskSomething : List Text → Type 0
AskSomething words = (user : UserName) → is_some (request_of user words) ≡ true

-- the words of a line that asks a request ask something, whoever signed on
abbrev pub IsAskable : ScriptLine → Type 0
IsAskable (lines.Request number words) = AskSomething words
IsAskable lines.Silent = Unit {0}
IsAskable (lines.Host host) = Unit {0}
IsAskable (lines.Enrol user) = Unit {0}
IsAskable (lines.Open session) = Unit {0}
IsAskable (lines.Client number call) = Unit {0}
