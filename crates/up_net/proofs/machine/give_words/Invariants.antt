use Rattle.std.proofs.Common.{◌≡◌, ◌++◌, map, drop, string_bytes}
use Rattle.std.specs.Process.{command_args, command_program}
use Rattle.up_net.proofs.machine.give_words.Given as goal

-- the program stays, and the words so far and those that are left are all words
abbrev pub invariant-loop-word : goal.invariant-loop-word
invariant-loop-word l =
    (command_program l.command ≡ command_program l.initial.command)
    × (command_args l.command ++ map string_bytes (drop l.word-index l.words) ≡ command_args l.initial.command ++ map string_bytes l.words)
