-- What a storm prints. This project's own.
use Rattle.std.specs.Prelude.{◌≤◌, ℕ, ◌+◌, ◌*◌, Bool, if◌then◌else◌, List, [], ◌∷◌, ◌++◌, length, codes, decimal}
use Rattle.up_command.specs.Printed.{all_numbered, ended, numbered}
use Rattle.up_entry.specs.declared.records.Rec.{Rec}
use Rattle.up_entry.specs.declared.records.Rec.TheVariants.{Delete, Put, Snap}
use Rattle.up_calls.specs.declared.event.Event.{Event}
use Rattle.up_names.specs.PathNames.{canonical}
use Rattle.up_names.specs.Texts.{Text}
use Rattle.up_log_tree.specs.Trees.{tree_of}
use Rattle.up_storm.specs.Asked.{line_of}
use Rattle.up_storm.specs.declared.generator.Draw.{Draw}
use Rattle.up_storm.specs.declared.plan.Plan.{Plan}
use Rattle.up_storm.specs.declared.session.Said.{Said}
use Rattle.up_storm.specs.declared.tally.Tally.{Tally}
use Rattle.up_text.specs.Entries.{entry_words}
use Rattle.up_text.specs.Lines.{spaced}
use Rattle.up_text.specs.Replies.{reply_lines}
use Rattle.up_text.specs.Words.{coded}
use Rattle.up_wire.specs.declared.replies.Reply.{Reply}
use Rattle.up_wire.specs.declared.replies.Reply.TheVariants as reply

-- ---- replies that are counted

-- nothing was counted yet
abbrev pub none_counted : Tally
none_counted = record { ok = 0; notexist = 0; private = 0 }

-- one reply more was counted, if it is of one of the three kinds
abbrev pub counted : Tally → Reply → Tally
counted t (reply.Ok what) = record t { ok = t.ok + 1 }
counted t reply.NotExist = record t { notexist = t.notexist + 1 }
counted t reply.Private = record t { private = t.private + 1 }
counted t other = t

-- how many replies were counted
abbrev pub total : Tally → ℕ
total t = t.ok + t.notexist + t.private

-- at most so many replies were counted
abbrev pub IsFew : ℕ → Tally → Type 0
IsFew n t = total t ≤ n

-- the replies of two sessions, counted together
abbrev pub both_counted : Tally → Tally → Tally
both_counted t u = record { ok = t.ok + u.ok; notexist = t.notexist + u.notexist; private = t.private + u.private }

-- ---- one request and its reply

-- `K REQUEST`, then `@POSITION `, and the lines of the reply, each with the session's number
abbrev pub call_text : ℕ → Draw → Event → Text
call_text k draw event =
    numbered k (line_of k draw) ++ (codes "@" ++ (decimal event.position ++ (codes " " ++ all_numbered k (reply_lines event.reply))))

-- what is told of a call: nothing but where all is printed
abbrev pub told : Bool → ℕ → Draw → Event → Text
told full k draw event = if full then call_text k draw event else []

-- ---- a log

-- `POSITION put ENTRY`, `POSITION delete PATH`, `POSITION snap TIME`
abbrev pub record_words : ℕ → Rec → List Text
record_words n (Put entry text) = decimal n ∷ codes "put" ∷ entry_words entry
record_words n (Delete path) = decimal n ∷ codes "delete" ∷ coded (canonical path) ∷ []
record_words n (Snap time) = decimal n ∷ codes "snap" ∷ decimal time ∷ []

-- the records behind the first n
abbrev pub records_text : ℕ → List Rec → Text
records_text n [] = []
records_text n (rec ∷ records) = ended (spaced (record_words (n + 1) rec)) ++ records_text (n + 1) records

-- `log TREE`, and each record with its position
abbrev pub log_text : Text → List Rec → Text
log_text owner log = ended (codes "log " ++ owner) ++ records_text 0 log

-- ---- the summary

-- `TREE records N rows M`
abbrev pub numbers_line : Text → ℕ → ℕ → Text
numbers_line owner records rows = ended (owner ++ (codes " records " ++ (decimal records ++ (codes " rows " ++ decimal rows))))

-- how many records a tree's log has, and how many items the tree that it gives
abbrev pub tree_line : Text → List Rec → Text
tree_line owner log = numbers_line owner (length log) (length (tree_of log))

-- `ok N notexist N private N`
abbrev pub tally_line : Tally → Text
tally_line t =
    ended (codes "ok " ++ (decimal t.ok ++ (codes " notexist " ++ (decimal t.notexist ++ (codes " private " ++ decimal t.private)))))

-- how many sessions there were, and how many requests they made together
abbrev pub heading : Plan → Text
heading plan = ended (codes "sessions " ++ decimal plan.sessions) ++ ended (codes "requests " ++ decimal (plan.sessions * plan.requests))

-- the summary: how much was asked, the two trees by their logs, and how many replies of each kind there were
abbrev pub summary_text : Plan → List Rec → List Rec → Tally → Text
summary_text plan first second t =
    heading plan ++ ((tree_line (codes "a@storm.example") first ++ tree_line (codes "b@storm.example") second) ++ tally_line t)

-- ---- all of it

-- `session K`, and what the session says, one session after the other
abbrev pub sessions_text : ℕ → List Said → Text
sessions_text k [] = []
sessions_text k (said ∷ more) = (ended (codes "session " ++ decimal k) ++ said.text) ++ sessions_text (k + 1) more

-- how many replies of each kind all sessions had together
abbrev pub all_counted : List Said → Tally
all_counted [] = none_counted
all_counted (said ∷ more) = both_counted said.tally (all_counted more)

-- what is printed behind the summary where all is asked for: the two logs, and what each session says
abbrev pub full_text : List Rec → List Rec → List Said → Text
full_text first second said =
    log_text (codes "a@storm.example") first ++ (log_text (codes "b@storm.example") second ++ sessions_text 0 said)

-- all that is printed: the summary, and the rest where it is asked for
abbrev pub storm_text : Plan → List Rec → List Rec → List Said → Text
storm_text plan first second said =
    summary_text plan first second (all_counted said) ++ (if plan.full then full_text first second said else [])
