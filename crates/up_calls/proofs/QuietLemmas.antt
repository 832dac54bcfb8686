-- Where no fetch of a block failed, no request leads to Io.
use Rattle.std.proofs.Common.{◌≡◌, ℕ, ◌+◌, Bool, true, false, ◌||◌, List, [], ◌∷◌, length, refl, sym, ap, ◌∙◌, Some, Result, Ok, Err}
use Rattle.std.specs.Prelude.{if◌then◌else◌, nat_lt}
use Rattle.std.specs.List.{list_any}
use Rattle.std.proofs.lemmas.Bool.{false≢true}
use Rattle.up_entry.specs.declared.entries.Block.{Block}
use Rattle.up_entry.specs.declared.records.Rec.{Rec}
use Rattle.up_policy.specs.Loadings.{Loading}
use Rattle.up_wire.specs.Bounds.{bounded, reply_size}
use Rattle.up_wire.specs.declared.replies.Done.{Done}
use Rattle.up_wire.specs.declared.replies.Done.TheVariants as done
use Rattle.up_wire.specs.declared.replies.Reply.{Reply}
use Rattle.up_wire.specs.declared.replies.Reply.TheVariants as reply
use Rattle.up_log_tree.specs.Logs.{Log}
use Rattle.up_log_tree.specs.Sizes.{size_of}
use Rattle.up_list.specs.declared.asking.ReadRequest.{ReadRequest}
use Rattle.up_list.specs.declared.asking.ReadRequest.TheVariants.{Lookup, WhichAccess, GroupText, Delete, Put, Glob, Watch}
use Rattle.up_answers.specs.Answers.{answer, asked_outcome, fault_reply, outcome}
use Rattle.up_entry.specs.declared.fault.EntryFault.{EntryFault}
use Rattle.up_entry.specs.declared.fault.EntryFault.TheVariants as entry_fault
use Rattle.up_entry.specs.declared.entries.Location.{Location}
use Rattle.up_entry.specs.declared.fetch.Fetch.{Fetch}
use Rattle.up_wire.specs.declared.requests.Request.{Request}
use Rattle.std.specs.Map.{lookup}
use Rattle.up_dir.proofs.QuietLemmas as quiet
use Rattle.up_dir.proofs.QuietLemmas.{Fetches, is_odd, leads_odd}
use Rattle.up_list.specs.Asking.{asked_of}
use Rattle.up_list.specs.Changes.{answer_of, is_full}
use Rattle.up_answers.specs.Fetching.{Fetched, fetch_for, is_failed}

-- the reply tells of a disk
abbrev pub is_io : Reply → Bool
is_io reply.Io = true
is_io other = false

-- a request leads to it
abbrev pub leads_io : {A : Type 0} → Result A Reply → Bool
leads_io (Ok x) = false
leads_io (Err given) = is_io given

-- the fetch of a block failed
abbrev pub has_failed : Fetched → Bool
has_failed fetched = list_any (λ (got : Location × Fetch). is_failed (Some got.1)) fetched

-- then what is looked for did not fail
found_none : (fetched : Fetched) → has_failed fetched ≡ false → (p : Location → Bool) → is_failed (lookup p fetched) ≡ false
found_none [] h p = refl
found_none (got ∷ fetched) h p = by (p got.0) (is_failed (Some got.1)) refl h (λ k. found_none fetched k p)
  where
    by : (here f : Bool) → is_failed (Some got.1) ≡ f → (f || has_failed fetched) ≡ false → (has_failed fetched ≡ false → is_failed (lookup p fetched) ≡ false) → is_failed (if here then Some got.1 else lookup p fetched) ≡ false
    by true false e h rest = e
    by false false e h rest = rest h
    by here true e h rest = absurd (false≢true (sym h))

none_for : (fetched : Fetched) → has_failed fetched ≡ false → (blocks : List Block) → list_any (λ block. is_failed (fetch_for fetched block)) blocks ≡ false
none_for fetched h [] = refl
none_for fetched h (block ∷ blocks) = ap (λ b. b || list_any (λ block. is_failed (fetch_for fetched block)) blocks) (found_none fetched h _) ∙ none_for fetched h blocks

-- what leads to no odd reply leads to no Io
odd_io : (given : Reply) → is_odd true given ≡ false → is_io given ≡ false
odd_io reply.Io h = h
odd_io (reply.Ok what) h = refl
odd_io reply.OutOfMemory h = refl
odd_io (reply.Invalid what) h = refl
odd_io reply.WrongHost h = refl
odd_io (reply.FollowLink entry) h = refl
odd_io reply.Private h = refl
odd_io (reply.Permission right) h = refl
odd_io reply.NotExist h = refl
odd_io reply.NotDir h = refl
odd_io reply.IsDir h = refl
odd_io reply.Exist h = refl
odd_io (reply.BadSequence sequence) h = refl
odd_io reply.NotEmpty h = refl
odd_io (reply.BadBlock reference) h = refl
odd_io (reply.BadText line) h = refl
odd_io (reply.TooLarge size) h = refl
odd_io (reply.Full records) h = refl

odd_leads : {A : Type 0} (m : Result A Reply) → leads_odd true m ≡ false → leads_io m ≡ false
odd_leads (Ok x) h = refl
odd_leads (Err given) h = odd_io given h

-- where no fetch failed, none did of what a request puts
fetches : (fetched : Fetched) (asked : ReadRequest) → has_failed fetched ≡ false → Fetches true fetched asked
fetches fetched (Put put) h = λ counts is. none_for fetched h put.entry.blocks
fetches fetched (Lookup path) h = tt
fetches fetched (WhichAccess path) h = tt
fetches fetched (GroupText path) h = tt
fetches fetched (Delete path) h = tt
fetches fetched (Glob pattern) h = tt
fetches fetched (Watch path sequence) h = tt

asked_quiet : (log : Log) (loaded : Loading) (fetched : Fetched) (user : List ℕ) (now : ℕ) (asked : ReadRequest) → has_failed fetched ≡ false → leads_io (asked_outcome log loaded fetched user asked now) ≡ false
asked_quiet log loaded fetched user now asked h = odd_leads (asked_outcome log loaded fetched user asked now) (quiet.asked_quiet true log loaded fetched user now asked (fetches fetched asked h))

pub fault_quiet : (fault : EntryFault) → is_io (fault_reply fault) ≡ false
fault_quiet (entry_fault.Invalid what) = refl
fault_quiet entry_fault.OutOfMemory = refl

too_long : (b : Bool) (size : ℕ) (what : Done) → is_io (if b then reply.TooLarge size else reply.Ok what) ≡ false
too_long true size what = refl
too_long false size what = refl

bounded_io : (given : Reply) → is_io (bounded given) ≡ is_io given
bounded_io (reply.Ok what) = too_long (nat_lt 67108864 (reply_size (reply.Ok what))) (reply_size (reply.Ok what)) what
bounded_io reply.OutOfMemory = refl
bounded_io reply.Io = refl
bounded_io (reply.Invalid what) = refl
bounded_io reply.WrongHost = refl
bounded_io (reply.FollowLink entry) = refl
bounded_io reply.Private = refl
bounded_io (reply.Permission right) = refl
bounded_io reply.NotExist = refl
bounded_io reply.NotDir = refl
bounded_io reply.IsDir = refl
bounded_io reply.Exist = refl
bounded_io (reply.BadSequence sequence) = refl
bounded_io reply.NotEmpty = refl
bounded_io (reply.BadBlock reference) = refl
bounded_io (reply.BadText line) = refl
bounded_io (reply.TooLarge size) = refl
bounded_io (reply.Full records) = refl

answer_quiet : (log : Log) (m : Result Rec Reply) → leads_io m ≡ false → is_io (answer_of log m) ≡ false
unfolding answer_of
answer_quiet log (Ok added) h = go (nat_lt log.limits.largest (size_of added)) (is_full log (size_of added))
  where
    go : (a b : Bool) → is_io (if a then reply.TooLarge (size_of added) else if b then reply.Full (length log.records) else reply.Ok (done.Changed (length log.records + 1))) ≡ false
    go true b = refl
    go false true = refl
    go false false = refl
answer_quiet log (Err given) h = bounded_io given ∙ h

-- no request is answered by Io
pub quiet_answer : (log : Log) (loaded : Loading) (fetched : Fetched) (user : List ℕ) (request : Request) (now : ℕ) → has_failed fetched ≡ false → is_io (answer log loaded fetched user request now) ≡ false
unfolding answer outcome
quiet_answer log loaded fetched user request now h = answer_quiet log (outcome log loaded fetched user request now) (go (asked_of user request))
  where
    go : (m : Result ReadRequest EntryFault) → leads_io (elim m as (λ _. Result Rec Reply) [ Ok asked ↦ asked_outcome log loaded fetched user asked now | Err fault ↦ Err (fault_reply fault) ]) ≡ false
    go (Ok asked) = asked_quiet log loaded fetched user now asked h
    go (Err fault) = fault_quiet fault
