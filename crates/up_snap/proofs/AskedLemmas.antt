-- What comes of a request on a snapshot tree, by what it asks.
use Rattle.std.proofs.Common.{◌≡◌, ◌≢◌, ℕ, List, sym, ap, subst, ◌∙◌, Result, Ok, Err, inl}
use Rattle.std.specs.Prelude.{if◌then◌else◌}
use Rattle.std.specs.Str.{bytes_eq}
use Rattle.std.proofs.lemmas.Slice.Eq.{bytes_eq-Decides}
use Rattle.up_disk.specs.declared.disk.Disk.{Ghosts}
use Rattle.up_entry.specs.declared.fault.EntryFault.{EntryFault}
use Rattle.up_entry.specs.declared.fault.EntryFault.TheVariants as fault
use Rattle.up_entry.specs.declared.records.Rec.{Rec}
use Rattle.up_entry.specs.declared.what.What.{What}
use Rattle.up_policy.specs.Loadings.{Loading}
use Rattle.up_list.specs.declared.asking.ReadRequest.{ReadRequest}
use Rattle.up_list.specs.Asking.{asked_of, owner_asked}
use Rattle.up_list.specs.Changes.{added_by, answer_of}
use Rattle.up_wire.specs.declared.replies.Reply.{Reply}
use Rattle.up_wire.specs.declared.replies.Reply.TheVariants as reply
use Rattle.up_wire.specs.declared.requests.Request.{Request}
use Rattle.up_log_tree.specs.Logs.{Log}
use Rattle.up_tree.specs.States.{State, log_of}
use Rattle.up_answers.specs.Answers.{added, answer, asked_outcome, fault_reply, log_owner, outcome, tree_outcome}
use Rattle.up_answers.specs.Fetching.{Fetched}
use Rattle.up_answers.specs.SnapshotReplies.{snapshot_outcome}
use Rattle.up_commit.specs.Steps.{Steps}
use Rattle.up_commit.proofs.StepLemmas.{steps_memory, steps_told}
use Rattle.up_snap.specs.Outcomes.{IsOfSnapshots}

-- ---- what it leads to

module _ (log : Log) (loaded : Loading) (fetched : Fetched) (user : List ℕ) (now : ℕ) where
  asked_is : (asked : ReadRequest) → IsOfSnapshots log.owner (owner_asked asked) → asked_outcome log loaded fetched user asked now ≡ snapshot_outcome log user asked now
  unfolding asked_outcome
  asked_is asked place =
      ap (λ b. if b then tree_outcome log loaded fetched user asked else if bytes_eq (log_owner (owner_asked asked)) log.owner then snapshot_outcome log user asked now else Err reply.WrongHost) place.0
      ∙ ap (λ b. if b then snapshot_outcome log user asked now else Err reply.WrongHost) ((bytes_eq-Decides (log_owner (owner_asked asked)) log.owner).1 place.1)

  outcome_is : (request : Request) (asked : ReadRequest) → asked_of user request ≡ Ok asked → IsOfSnapshots log.owner (owner_asked asked) → snapshot_outcome log user asked now ≡ outcome log loaded fetched user request now
  unfolding outcome
  outcome_is request asked is place =
      sym (ap (λ (r : Result ReadRequest EntryFault). elim r as (λ _. Result Rec Reply) [ Ok asked ↦ asked_outcome log loaded fetched user asked now | Err fault ↦ Err (fault_reply fault) ]) is
      ∙ asked_is asked place)

  malformed_is : (request : Request) (what : What) → asked_of user request ≡ Err (fault.Invalid what) → Err (reply.Invalid what) ≡ outcome log loaded fetched user request now
  unfolding outcome
  malformed_is request what is =
      sym (ap (λ (r : Result ReadRequest EntryFault). elim r as (λ _. Result Rec Reply) [ Ok asked ↦ asked_outcome log loaded fetched user asked now | Err fault ↦ Err (fault_reply fault) ]) is)

-- ---- what comes of it

invalid_memory : (what : What) → fault.Invalid what ≢ fault.OutOfMemory
invalid_memory what h = absurd (cc)

module _ {D : Type 0} (disks : Ghosts D) where
  steps_by : (old new : State D) (answered : Reply) (loaded : Loading) (fetched : Fetched) (user : List ℕ) (request : Request) (now : ℕ) (led : Result Rec Reply) → led ≡ outcome (log_of old) loaded fetched user request now →
      Steps disks (answer_of (log_of old) led) (added_by (log_of old) led) old new answered →
      Steps disks (answer (log_of old) loaded fetched user request now) (added (log_of old) loaded fetched user request now) old new answered
  unfolding answer added
  steps_by old new answered loaded fetched user request now led is steps = subst (λ r. Steps disks (answer_of (log_of old) r) (added_by (log_of old) r) old new answered) is steps

  -- its texts were read
  pub steps_asked : (old new : State D) (answered : Reply) (user : List ℕ) (request : Request) (now : ℕ) (asked : ReadRequest) → asked_of user request ≡ Ok asked → IsOfSnapshots old.owner (owner_asked asked) →
      Steps disks (answer_of (log_of old) (snapshot_outcome (log_of old) user asked now)) (added_by (log_of old) (snapshot_outcome (log_of old) user asked now)) old new answered → (loaded : Loading) (fetched : Fetched) →
      Steps disks (answer (log_of old) loaded fetched user request now) (added (log_of old) loaded fetched user request now) old new answered
  steps_asked old new answered user request now asked is place steps loaded fetched =
      steps_by old new answered loaded fetched user request now (snapshot_outcome (log_of old) user asked now) (outcome_is (log_of old) loaded fetched user now request asked is place) steps

  replied : (state : State D) (answered : Reply) (what : What) → answered ≡ reply.Invalid what → Steps disks (answer_of (log_of state) (Err (reply.Invalid what))) (added_by (log_of state) (Err (reply.Invalid what))) state state answered
  unfolding answer_of added_by
  replied state answered what told = steps_told disks (reply.Invalid what) state answered (inl told)

  -- something of it is malformed
  pub steps_malformed : (state : State D) (answered : Reply) (user : List ℕ) (request : Request) (now : ℕ) (what : What) → asked_of user request ≡ Err (fault.Invalid what) → answered ≡ reply.Invalid what → (loaded : Loading) (fetched : Fetched) →
      Steps disks (answer (log_of state) loaded fetched user request now) (added (log_of state) loaded fetched user request now) state state answered
  steps_malformed state answered user request now what is told loaded fetched =
      steps_by state state answered loaded fetched user request now (Err (reply.Invalid what)) (malformed_is (log_of state) loaded fetched user now request what is) (replied state answered what told)

  -- the same, by what the call answers
  pub steps_faulty : (state : State D) (answered : Reply) (user : List ℕ) (request : Request) (now : ℕ) (why : EntryFault) → (why ≢ fault.OutOfMemory → asked_of user request ≡ Err why) → answered ≡ fault_reply why → (loaded : Loading) (fetched : Fetched) →
      Steps disks (answer (log_of state) loaded fetched user request now) (added (log_of state) loaded fetched user request now) state state answered
  steps_faulty state answered user request now (fault.Invalid what) known told loaded fetched =
      steps_malformed state answered user request now what (known (invalid_memory what)) told loaded fetched
  steps_faulty state answered user request now fault.OutOfMemory known told loaded fetched =
      subst (λ r. Steps disks (answer (log_of state) loaded fetched user request now) (added (log_of state) loaded fetched user request now) state state r) (sym told)
      (steps_memory disks (answer (log_of state) loaded fetched user request now) (added (log_of state) loaded fetched user request now) state)
