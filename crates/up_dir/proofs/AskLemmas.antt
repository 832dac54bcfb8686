-- What comes of a request, by what it asks.
use Rattle.std.proofs.Common.{◌≡◌, ℕ, true, false, List, sym, subst, Result, Ok, Err, inl}
use Rattle.std.specs.Prelude.{if◌then◌else◌}
use Rattle.std.specs.Str.{bytes_eq}
use Rattle.up_disk.specs.declared.disk.Disk.{Ghosts}
use Rattle.up_entry.specs.declared.fault.EntryFault.{EntryFault}
use Rattle.up_entry.specs.declared.fault.EntryFault.TheVariants as fault
use Rattle.up_entry.specs.declared.records.Rec.{Rec}
use Rattle.up_entry.specs.declared.what.What.{What}
use Rattle.up_policy.specs.Loadings.{Loading}
use Rattle.up_list.specs.declared.asking.ReadRequest.{ReadRequest}
use Rattle.up_list.specs.Asking.{asked_of, owner_asked}
use Rattle.up_list.specs.Changes.{added_by, answer_of}
use Rattle.up_wire.specs.Bounds.{bounded}
use Rattle.up_wire.specs.declared.replies.Reply.{Reply}
use Rattle.up_wire.specs.declared.replies.Reply.TheVariants as reply
use Rattle.up_wire.specs.declared.requests.Request.{Request}
use Rattle.up_tree.specs.States.{State, log_of}
use Rattle.up_answers.specs.Answers.{added, answer, asked_outcome, fault_reply, log_owner, outcome, tree_outcome}
use Rattle.up_answers.specs.Fetching.{Fetched}
use Rattle.up_answers.specs.SnapshotReplies.{snapshot_outcome}
use Rattle.up_commit.specs.Steps.{IsTold, Steps}
use Rattle.up_commit.proofs.StepLemmas.{steps_told}

module _ {D : Type 0} (disks : Ghosts D) where
  -- a request that changes nothing
  pub steps_read : (meant : Reply) (state : State D) (answered : Reply) → IsTold (bounded meant) answered → Steps disks (answer_of (log_of state) (Err meant)) (added_by (log_of state) (Err meant)) state state answered
  unfolding answer_of added_by
  steps_read meant state answered told = steps_told disks (bounded meant) state answered told

  module _ (old new : State D) (answered : Reply) (loaded : Loading) (fetched : Fetched) (user : List ℕ) (now : ℕ) where
    abbrev pub leads : Result Rec Reply → Type 0
    leads led = Steps disks (answer_of (log_of old) led) (added_by (log_of old) led) old new answered

    -- its texts were read
    pub steps_asked : (request : Request) (asked : ReadRequest) → asked_of user request ≡ Ok asked → leads (asked_outcome (log_of old) loaded fetched user asked now) →
        Steps disks (answer (log_of old) loaded fetched user request now) (added (log_of old) loaded fetched user request now) old new answered
    unfolding answer added outcome
    steps_asked request asked is steps =
        subst (λ (r : Result ReadRequest EntryFault). leads (elim r as (λ _. Result Rec Reply) [ Ok asked ↦ asked_outcome (log_of old) loaded fetched user asked now | Err fault ↦ Err (fault_reply fault) ])) (sym is) steps

    -- on a path of the tree
    pub steps_in_tree : (asked : ReadRequest) → bytes_eq (owner_asked asked) old.owner ≡ true → leads (tree_outcome (log_of old) loaded fetched user asked) → leads (asked_outcome (log_of old) loaded fetched user asked now)
    unfolding asked_outcome
    steps_in_tree asked own steps =
        subst (λ b. leads (if b then tree_outcome (log_of old) loaded fetched user asked else if bytes_eq (log_owner (owner_asked asked)) old.owner then snapshot_outcome (log_of old) user asked now else Err reply.WrongHost)) (sym own) steps

    -- on a path of its snapshot tree
    pub steps_in_snapshots : (asked : ReadRequest) → bytes_eq (owner_asked asked) old.owner ≡ false → bytes_eq (log_owner (owner_asked asked)) old.owner ≡ true → leads (snapshot_outcome (log_of old) user asked now) →
        leads (asked_outcome (log_of old) loaded fetched user asked now)
    unfolding asked_outcome
    steps_in_snapshots asked other base steps =
        subst (λ b. leads (if b then tree_outcome (log_of old) loaded fetched user asked else if bytes_eq (log_owner (owner_asked asked)) old.owner then snapshot_outcome (log_of old) user asked now else Err reply.WrongHost)) (sym other)
        (subst (λ b. leads (if b then snapshot_outcome (log_of old) user asked now else Err reply.WrongHost)) (sym base) steps)

    -- on neither
    pub steps_elsewhere : (asked : ReadRequest) → bytes_eq (owner_asked asked) old.owner ≡ false → bytes_eq (log_owner (owner_asked asked)) old.owner ≡ false → leads (Err reply.WrongHost) →
        leads (asked_outcome (log_of old) loaded fetched user asked now)
    unfolding asked_outcome
    steps_elsewhere asked other apart steps =
        subst (λ b. leads (if b then tree_outcome (log_of old) loaded fetched user asked else if bytes_eq (log_owner (owner_asked asked)) old.owner then snapshot_outcome (log_of old) user asked now else Err reply.WrongHost)) (sym other)
        (subst (λ b. leads (if b then snapshot_outcome (log_of old) user asked now else Err reply.WrongHost)) (sym apart) steps)

  -- something of it is malformed
  pub steps_malformed : (state : State D) (answered : Reply) (loaded : Loading) (fetched : Fetched) (user : List ℕ) (now : ℕ) (request : Request) (what : What) → asked_of user request ≡ Err (fault.Invalid what) → answered ≡ reply.Invalid what →
      Steps disks (answer (log_of state) loaded fetched user request now) (added (log_of state) loaded fetched user request now) state state answered
  unfolding answer added outcome
  steps_malformed state answered loaded fetched user now request what is told =
      subst (λ (r : Result ReadRequest EntryFault). Steps disks
      (answer_of (log_of state) (elim r as (λ _. Result Rec Reply) [ Ok asked ↦ asked_outcome (log_of state) loaded fetched user asked now | Err fault ↦ Err (fault_reply fault) ]))
      (added_by (log_of state) (elim r as (λ _. Result Rec Reply) [ Ok asked ↦ asked_outcome (log_of state) loaded fetched user asked now | Err fault ↦ Err (fault_reply fault) ])) state state answered) (sym is)
      (steps_read (reply.Invalid what) state answered (inl told))
