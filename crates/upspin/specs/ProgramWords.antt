-- The words of a program, and the command that they name. This project's own.
use Rattle.std.specs.Prelude.{List, [], ◌∷◌, codes, if◌then◌else◌}
use Rattle.std.specs.List.{list_all}
use Rattle.std.specs.Str.{bytes_eq, is_utf8}
use Rattle.upspin.specs.declared.arguments.Command.{Command}
use Rattle.upspin.specs.declared.arguments.Command.TheVariants as commands
use Rattle.up_names.specs.Texts.{Text}

-- the words as they stand; none where one of them is not UTF-8, since it fits no command
abbrev pub program_words : List Text → List Text
program_words given = if list_all is_utf8 given then given else []

-- the command of the word behind `explain`
abbrev pub explained : Text → Command
explained kind =
    if bytes_eq kind (codes "can") then commands.ExplainCan
    else if bytes_eq kind (codes "script") then commands.ExplainScript
    else commands.Script

-- the command that a first word names
abbrev pub named : Text → Command
named word =
    if bytes_eq word (codes "can") then commands.Can
    else if bytes_eq word (codes "serve") then commands.Serve
    else if bytes_eq word (codes "client") then commands.Client
    else if bytes_eq word (codes "copy") then commands.Copy
    else if bytes_eq word (codes "follow") then commands.Follow
    else if bytes_eq word (codes "audit") then commands.Audit
    else if bytes_eq word (codes "share") then commands.Share
    else if bytes_eq word (codes "storm") then commands.Storm
    else commands.Script

-- that of two words
abbrev pub named_by_two : Text → Text → Command
named_by_two word kind = if bytes_eq word (codes "explain") then explained kind else named word

-- the command that the words name; the words of none get the usage line from `script`
abbrev pub command_of : List Text → Command
command_of [] = commands.Script
command_of (word ∷ []) = named word
command_of (word ∷ kind ∷ []) = named_by_two word kind
command_of (word ∷ kind ∷ more ∷ left) = named word
