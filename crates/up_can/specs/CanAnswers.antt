-- What `upspin can` prints and answers. This project's own.
use Rattle.std.specs.Prelude.{Bool, not, nat_lt, if◌then◌else◌, List, [], ◌∷◌, length, codes}
use lib.Pointwise.{pointwise}
use Rattle.std.specs.Str.{bytes_eq}
use Rattle.up_names.specs.Texts.{Text}
use Rattle.up_can.specs.CanRuns.{Run, run_of}
use Rattle.up_command.specs.Statuses.{Answer, input_limit, usage_line}

-- what a run that nothing cuts short prints and answers
abbrev pub answer_of : Run → Answer
answer_of run = record { text = run.text; status = run.status }

-- whether the words are those of `upspin can`: the one word `can`
abbrev pub is_can : List Text → Bool
is_can words = pointwise bytes_eq words (codes "can" ∷ [])

-- what `upspin can` prints and answers for its words and its input, where nothing fails and memory is there
abbrev pub can_answer : List Text → Text → Answer
can_answer words input =
    if not (is_can words) then record { text = usage_line; status = 64 }
    else if nat_lt input_limit (length input) then record { text = []; status = 7 }
    else answer_of (run_of input)
