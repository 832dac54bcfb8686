-- A request that only looks leads to no record, and its answer is no position.
use Rattle.std.proofs.Common.{◌≡◌, ◌≢◌, ℕ, Bool, true, false, not, List, [], ◌∷◌, ◌++◌, refl, sym, ap, subst, ◌∙◌, ◌⊎◌, inl, inr, ⊎_elim, Result, Ok, Err}
use Rattle.std.specs.Prelude.{if◌then◌else◌, int_le, negsuc}
use Rattle.std.specs.Prelude as std
use Rattle.std.specs.Str.{bytes_eq}
use Rattle.std.proofs.lemmas.Bool.{false≢true}
use Rattle.up_commit.specs.Steps.{IsApplied, IsTold, Steps, is_changed}
use Rattle.up_answers.proofs.AnswerLemmas.{asked_same, not_asked, step_ok}
use Rattle.up_answers.specs.Answers.{added, answer, asked_outcome, fault_reply, log_owner, outcome, tree_outcome}
use Rattle.up_answers.specs.Fetching.{Fetched}
use Rattle.up_answers.specs.SnapshotReplies.{snapshot_outcome}
use Rattle.up_disk.specs.declared.disk.Disk.{Ghosts}
use Rattle.up_entry.specs.Checking.{path_or, rule}
use Rattle.up_entry.specs.declared.fault.EntryFault.{EntryFault}
use Rattle.up_entry.specs.declared.fault.EntryFault.TheVariants as fault
use Rattle.up_entry.specs.declared.records.Rec.{Rec}
use Rattle.up_entry.specs.declared.what.What.TheVariants as what
use Rattle.up_follow.specs.Reads.{is_read}
use Rattle.up_list.specs.Asking.{asked_of, owner_asked, pattern_or_fault}
use Rattle.up_list.specs.Changes.{added_by, answer_of}
use Rattle.up_list.specs.Looks.{look_now}
use Rattle.up_answers.specs.SnapshotTrees.{snapshot_look}
use Rattle.up_dir.proofs.QuietLemmas.{access_quiet, glob_quiet, is_odd, lookup_quiet, no_position, text_quiet, watch_quiet}
use Rattle.up_list.specs.declared.asking.ReadRequest.{ReadRequest}
use Rattle.up_list.specs.declared.asking.ReadRequest.TheVariants.{Lookup, WhichAccess, GroupText, Delete, Put, Glob, Watch}
use Rattle.up_policy.specs.Loadings.{Loading}
use Rattle.up_policy.specs.Trees.{owns_snapshots}
use Rattle.up_log_tree.specs.Logs.{Log}
use Rattle.up_log_tree.specs.Rights.{is_group}
use Rattle.up_tree.specs.States.{State, log_of}
use Rattle.up_wire.specs.declared.replies.Done.TheVariants as done
use Rattle.up_wire.specs.declared.replies.Reply.{Reply}
use Rattle.up_wire.specs.declared.replies.Reply.TheVariants as reply
use Rattle.up_wire.specs.declared.requests.Request.{Request}
use Rattle.up_wire.specs.declared.requests.Request.TheVariants as request

-- ---- what only looks

abbrev is_look : ReadRequest → Bool
is_look (Lookup path) = true
is_look (WhichAccess path) = true
is_look (GroupText path) = true
is_look (Glob pattern) = true
is_look (Watch path sequence) = true
is_look (Delete path) = false
is_look (Put put) = false

abbrev Looks : ReadRequest → Type 0
Looks asked = is_look asked ≡ true

look_read : (user : List ℕ) (request' : Request) (asked : ReadRequest) → is_read request' ≡ true → asked_of user request' ≡ std.Ok asked → Looks asked
unfolding asked_of
look_read user (request.Lookup text) asked read h = let a = step_ok (path_or what.Name text) _ asked h in subst Looks (asked_same (Lookup a.0) asked a.2) refl
look_read user (request.WhichAccess text) asked read h = let a = step_ok (path_or what.Name text) _ asked h in subst Looks (asked_same (WhichAccess a.0) asked a.2) refl
look_read user (request.GroupText text) asked read h =
    let a = step_ok (path_or what.Name text) _ asked h in
    let b = step_ok (rule what.GroupName (is_group a.0)) _ asked a.2 in
    subst Looks (asked_same (GroupText a.0) asked b.2) refl
look_read user (request.Glob text) asked read h = let a = step_ok (pattern_or_fault text) _ asked h in subst Looks (asked_same (Glob a.0) asked a.2) refl
look_read user (request.Watch text sequence) asked read h =
    let a = step_ok (path_or what.Name text) _ asked h in
    let b = step_ok (rule what.Sequence (int_le (negsuc 1) sequence)) _ asked a.2 in
    let c = step_ok (rule what.SnapshotWatch (not (owns_snapshots (a.0).owner))) _ asked b.2 in
    subst Looks (asked_same (Watch a.0 sequence) asked c.2) refl
look_read user (request.Delete text) asked read h = absurd (false≢true read)
look_read user (request.Put put) asked read h = absurd (false≢true read)
look_read user (request.Get text) asked read h = absurd (false≢true read)
look_read user (request.StorePut bytes) asked read h = absurd (false≢true read)
look_read user (request.StoreDelete text) asked read h = absurd (false≢true read)
look_read user (request.KeyLookup text) asked read h = absurd (false≢true read)
look_read user (request.KeyPut card) asked read h = absurd (false≢true read)

-- ---- it leads to a reply that is no position, and not to a record

-- a request leads to such a reply
abbrev pub IsQuiet : Result Rec Reply → Type 0
IsQuiet (Ok rec) = ⊥
IsQuiet (Err given) = is_odd false given ≡ false

module _ (log : Log) (loaded : Loading) (fetched : Fetched) (user : List ℕ) (now : ℕ) where
  look_tree : (asked : ReadRequest) → Looks asked → IsQuiet (tree_outcome log loaded fetched user asked)
  unfolding tree_outcome
  look_tree (Lookup path) looks = lookup_quiet false (look_now log loaded user) path
  look_tree (WhichAccess path) looks = access_quiet false (look_now log loaded user) path
  look_tree (GroupText path) looks = text_quiet false (look_now log loaded user) path
  look_tree (Glob pattern) looks = glob_quiet false (look_now log loaded user) pattern
  look_tree (Watch path sequence) looks = watch_quiet false log loaded user path sequence
  look_tree (Delete path) looks = absurd (false≢true looks)
  look_tree (Put put) looks = absurd (false≢true looks)

  look_snapshots : (asked : ReadRequest) → Looks asked → IsQuiet (snapshot_outcome log user asked now)
  unfolding snapshot_outcome
  look_snapshots (Lookup path) looks = lookup_quiet false (snapshot_look log user) path
  look_snapshots (WhichAccess path) looks = access_quiet false (snapshot_look log user) path
  look_snapshots (GroupText path) looks = text_quiet false (snapshot_look log user) path
  look_snapshots (Glob pattern) looks = glob_quiet false (snapshot_look log user) pattern
  look_snapshots (Watch path sequence) looks = refl
  look_snapshots (Delete path) looks = absurd (false≢true looks)
  look_snapshots (Put put) looks = absurd (false≢true looks)

  look_asked : (asked : ReadRequest) → Looks asked → IsQuiet (asked_outcome log loaded fetched user asked now)
  unfolding asked_outcome
  look_asked asked looks = go (bytes_eq (owner_asked asked) log.owner) (bytes_eq (log_owner (owner_asked asked)) log.owner)
    where
      go : (a b : Bool) → IsQuiet (if a then tree_outcome log loaded fetched user asked else if b then snapshot_outcome log user asked now else std.Err reply.WrongHost)
      go true b = look_tree asked looks
      go false true = look_snapshots asked looks
      go false false = refl

  abbrev led : Result ReadRequest EntryFault → Result Rec Reply
  led (Ok asked) = asked_outcome log loaded fetched user asked now
  led (Err fault) = Err (fault_reply fault)

  fault_quiet : (fault : EntryFault) → is_odd false (fault_reply fault) ≡ false
  fault_quiet (fault.Invalid what) = refl
  fault_quiet fault.OutOfMemory = refl

  look_outcome : (request' : Request) → is_read request' ≡ true → IsQuiet (outcome log loaded fetched user request' now)
  unfolding outcome
  look_outcome request' read = go (asked_of user request') refl
    where
      go : (r : Result ReadRequest EntryFault) → asked_of user request' ≡ r → IsQuiet (led r)
      go (Ok asked) is = look_asked asked (look_read user request' asked read is)
      go (Err fault) is = fault_quiet fault

-- ---- a reply that is no position

told_by : (log : Log) (leads : Result Rec Reply) → IsQuiet leads → (added_by log leads ≡ []) × (is_changed (answer_of log leads) ≡ false)
unfolding added_by answer_of
told_by log (Ok rec) quiet = absurd quiet
told_by log (Err given) quiet = (refl, no_position given quiet)

-- ---- what a step does that answers it

nothing_applied : {D : Type 0} (disks : Ghosts D) (records : List Rec) (old new : State D) (answered : Reply) → records ≡ [] → IsApplied disks records old new answered → ⊥
nothing_applied disks records old new answered none is = let e : [] ≡ is.rec ∷ [] = sym none ∙ is.one in cc

stays : {D : Type 0} (disks : Ghosts D) (meant : Reply) (records : List Rec) (old new : State D) (answered : Reply) → records ≡ [] → Steps disks meant records old new answered → new ≡ old
stays disks meant records old new answered none steps = ⊎_elim (λ same. same) (λ is. absurd (nothing_applied disks records old new answered none is)) steps.stands

told_as : {D : Type 0} (disks : Ghosts D) (meant : Reply) (records : List Rec) (old new : State D) (answered : Reply) → is_changed meant ≡ false → Steps disks meant records old new answered → IsTold meant answered
told_as disks meant records old new answered quiet steps = by answered refl
  where
    other : answered ≢ reply.OutOfMemory → answered ≢ reply.Io → IsTold meant answered
    other memory io = inl (steps.exact memory io)

    by : (said : Reply) → answered ≡ said → IsTold meant answered
    by reply.OutOfMemory is = inr is
    by reply.Io is = ⊎_elim (λ (same : meant ≡ reply.Io). inl (is ∙ sym same)) (λ changed. absurd (false≢true (sym quiet ∙ changed.0))) (steps.failed is)
    by (reply.Ok d) is = other (λ bad. let e = sym is ∙ bad in cc) (λ bad. let e = sym is ∙ bad in cc)
    by (reply.Invalid what) is = other (λ bad. let e = sym is ∙ bad in cc) (λ bad. let e = sym is ∙ bad in cc)
    by reply.WrongHost is = other (λ bad. let e = sym is ∙ bad in cc) (λ bad. let e = sym is ∙ bad in cc)
    by (reply.FollowLink entry) is = other (λ bad. let e = sym is ∙ bad in cc) (λ bad. let e = sym is ∙ bad in cc)
    by reply.Private is = other (λ bad. let e = sym is ∙ bad in cc) (λ bad. let e = sym is ∙ bad in cc)
    by (reply.Permission right) is = other (λ bad. let e = sym is ∙ bad in cc) (λ bad. let e = sym is ∙ bad in cc)
    by reply.NotExist is = other (λ bad. let e = sym is ∙ bad in cc) (λ bad. let e = sym is ∙ bad in cc)
    by reply.NotDir is = other (λ bad. let e = sym is ∙ bad in cc) (λ bad. let e = sym is ∙ bad in cc)
    by reply.IsDir is = other (λ bad. let e = sym is ∙ bad in cc) (λ bad. let e = sym is ∙ bad in cc)
    by reply.Exist is = other (λ bad. let e = sym is ∙ bad in cc) (λ bad. let e = sym is ∙ bad in cc)
    by (reply.BadSequence n) is = other (λ bad. let e = sym is ∙ bad in cc) (λ bad. let e = sym is ∙ bad in cc)
    by reply.NotEmpty is = other (λ bad. let e = sym is ∙ bad in cc) (λ bad. let e = sym is ∙ bad in cc)
    by (reply.BadBlock reference) is = other (λ bad. let e = sym is ∙ bad in cc) (λ bad. let e = sym is ∙ bad in cc)
    by (reply.BadText line) is = other (λ bad. let e = sym is ∙ bad in cc) (λ bad. let e = sym is ∙ bad in cc)
    by (reply.TooLarge size) is = other (λ bad. let e = sym is ∙ bad in cc) (λ bad. let e = sym is ∙ bad in cc)
    by (reply.Full n) is = other (λ bad. let e = sym is ∙ bad in cc) (λ bad. let e = sym is ∙ bad in cc)

pub read_steps : {D : Type 0} (disks : Ghosts D) (loaded : Loading) (fetched : Fetched) (user : List ℕ) (request' : Request) (now : ℕ) (old new : State D) (answered : Reply) → is_read request' ≡ true
    → Steps disks (answer (log_of old) loaded fetched user request' now) (added (log_of old) loaded fetched user request' now) old new answered
    → (new ≡ old) × IsTold (answer (log_of old) loaded fetched user request' now) answered
unfolding answer added
read_steps disks loaded fetched user request' now old new answered read steps =
    let log = log_of old in
    let leads = outcome log loaded fetched user request' now in
    let known = told_by log leads (look_outcome log loaded fetched user now request' read) in
    (stays disks (answer_of log leads) (added_by log leads) old new answered known.0 steps, told_as disks (answer_of log leads) (added_by log leads) old new answered known.1 steps)
