-- What a storm comes to, as a function of its words alone: the generator is run over a model of each session's files, and what that
-- counts is added up. This project's own.
use Rattle.std.specs.Prelude.{◌≡◌, ℕ, zero, suc, ◌+◌, ◌%◌, ◌==◌, Bool, true, false, not, if◌then◌else◌}
use Rattle.std.specs.Prelude.{List, [], ◌∷◌, ◌++◌, length, filter, codes, Option}
use Rattle.std.specs.Io.KnownBytes.{Appends}
use Rattle.std.specs.List.{list_any}
use Rattle.up_names.specs.Texts.{Text}
use Rattle.up_storm.specs.Generator.{drawn_of, first_number, next_number}
use Rattle.up_storm.specs.Telling.{both_counted, heading, none_counted, numbers_line, tally_line}
use Rattle.up_storm.specs.declared.generator.Draw.{Draw}
use Rattle.up_storm.specs.declared.generator.Wish.{Wish}
use Rattle.up_storm.specs.declared.generator.Wish.TheVariants as wish
use Rattle.up_storm.specs.declared.plan.Plan.{Plan}
use Rattle.up_storm.specs.declared.tally.Tally.{Tally}

-- ---- a set of file numbers

-- whether a file is in the set
abbrev pub is_there : List ℕ → ℕ → Bool
is_there files file = list_any (λ other. other == file) files

-- the set with a file, which stands in it once
abbrev pub with_file : List ℕ → ℕ → List ℕ
with_file files file = if is_there files file then files else file ∷ files

-- the set without a file
abbrev pub without_file : List ℕ → ℕ → List ℕ
without_file files file = filter (λ other. not (other == file)) files

-- ---- one session

-- How far a session is: the numbers of the files that stand in its directory, how many records its requests added to the log, and how
-- many of them were answered Ok, NotExist and Private.
pub record Course : Type 0 where
  pub files : List ℕ
  pub records : ℕ
  pub tally : Tally

-- a session that has asked nothing
abbrev pub unbegun : Course
unbegun = record { files = []; records = 0; tally = none_counted }

-- one request more was answered Ok
abbrev pub one_ok : Tally → Tally
one_ok t = record t { ok = t.ok + 1 }

-- one request more was answered NotExist
abbrev pub one_notexist : Tally → Tally
one_notexist t = record t { notexist = t.notexist + 1 }

-- one request more was answered Private
abbrev pub one_private : Tally → Tally
one_private t = record t { private = t.private + 1 }

-- A Put adds the file, and is Ok. A Delete takes it out and is Ok where it is in the set, and else NotExist. A Lookup is Ok where it is in
-- the set, and else NotExist; one in another session's directory is Private. A Glob is Ok. Each Put, and each Delete that is Ok, adds a
-- record.
abbrev pub after_wish : Course → Wish → ℕ → Course
after_wish c wish.Put file = record { files = with_file c.files file; records = c.records + 1; tally = one_ok c.tally }
after_wish c wish.Delete file =
    if is_there c.files file then record { files = without_file c.files file; records = c.records + 1; tally = one_ok c.tally }
    else record c { tally = one_notexist c.tally }
after_wish c wish.Lookup file =
    record c { tally = if is_there c.files file then one_ok c.tally else one_notexist c.tally }
after_wish c wish.LookElsewhere file = record c { tally = one_private c.tally }
after_wish c wish.Glob file = record c { tally = one_ok c.tally }

-- a session after what was drawn
abbrev pub after_draw : Course → Draw → Course
after_draw c draw = after_wish c draw.wish draw.file

-- a session after n requests more, from the generator's number on
abbrev pub after_requests : ℕ → ℕ → Course → Course
after_requests zero x c = c
after_requests (suc n) x c = after_requests n (next_number x) (after_draw c (drawn_of (next_number x)))

-- session k of a plan, once it has ended
abbrev pub course_of : Plan → ℕ → Course
course_of plan k = after_requests plan.requests (first_number plan.seed k) unbegun

-- ---- all sessions

-- the first tree is that of the sessions with an even number, the second that of the others
abbrev pub is_in_first : ℕ → Bool
is_in_first k = k % 2 == 0

-- what the n sessions from k on count for a tree: those of the tree alone count
abbrev pub added_up : (ℕ → Bool) → (ℕ → ℕ) → ℕ → ℕ → ℕ
added_up is_in count k zero = 0
added_up is_in count k (suc n) = (if is_in k then count k else 0) + added_up is_in count (k + 1) n

-- A tree has one record for its root, and for each of its sessions two, of its directory and of its Access file, and those that its
-- requests added.
abbrev pub records_in : Plan → (ℕ → Bool) → ℕ
records_in plan is_in = 1 + added_up is_in (λ k. 2 + (course_of plan k).records) 0 plan.sessions

-- a tree has its root, and for each of its sessions its directory, its Access file, and the files that are left
abbrev pub rows_in : Plan → (ℕ → Bool) → ℕ
rows_in plan is_in = 1 + added_up is_in (λ k. 2 + length (course_of plan k).files) 0 plan.sessions

-- the replies of the n sessions from k on, counted together
abbrev pub tallies : Plan → ℕ → ℕ → Tally
tallies plan k zero = none_counted
tallies plan k (suc n) = both_counted (course_of plan k).tally (tallies plan (k + 1) n)

-- The summary of a storm: how much is asked, how many records and items each tree has, and how many requests were answered Ok, NotExist
-- and Private.
abbrev pub summary_of_words : Plan → Text
summary_of_words plan =
    heading plan
    ++ ((numbers_line (codes "a@storm.example") (records_in plan is_in_first) (rows_in plan is_in_first)
    ++ numbers_line (codes "b@storm.example") (records_in plan (λ k. not (is_in_first k))) (rows_in plan (λ k. not (is_in_first k))))
    ++ tally_line (tallies plan 0 plan.sessions))

-- A text begins with the summary of these words, and ends with it unless all was asked for.
pub record BeginsWithSummary (plan : Plan) (text : Text) : Type 0 where
  pub rest : Text
  pub whole : text ≡ summary_of_words plan ++ rest
  pub alone : plan.full ≡ false → rest ≡ []

-- what was written begins with the summary of these words, and ends with it unless all was asked for
pub record TellsSummary (plan : Plan) (old new : Option Text) : Type 0 where
  pub text : Text
  pub summed : BeginsWithSummary plan text
  pub written : Appends old new text
